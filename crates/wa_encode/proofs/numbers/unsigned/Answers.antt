use Rattle.std.proofs.Common.{◌∙◌}
use Rattle.wa_encode.proofs.Writing.{begins, goes_on, ends}
use Rattle.wa_encode.proofs.numbers.unsigned.Goals as goal

pub loop-rest-init : goal.loop-rest-init
loop-rest-init c = begins c.args.out.now.items c.args.value c.ranges.value.fits

pub loop-rest-preserved : goal.loop-rest-preserved
loop-rest-preserved c = rw c.in_ok-push.ensures.items (goes_on _ _ _ c.loop-rest-test.true c.loop-rest.invariant)

pub returns : goal.returns
returns c = record { bytes = c.in_ok-push-2.ensures.items ∙ ends _ _ _ c.loop-rest-test.false c.loop-rest.invariant }
