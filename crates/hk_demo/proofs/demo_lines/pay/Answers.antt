use Rattle.std.proofs.Common.{rules, ◌∙◌, ap, arith}
use Rattle.hk_demo.specs.Summary.{play}
use Rattle.hk_demo.proofs.Playing.{next_payment, no_payments}
use Rattle.hk_demo.proofs.demo_lines.pay.Goals as goal

pub loop-paid-init : goal.loop-paid-init
loop-paid-init c = (no_payments c.args.play.now, omega arith)

pub loop-paid-preserved : goal.loop-paid-preserved
loop-paid-preserved c = (
  next_payment c.args.play.now c.loop-paid.play c.open_before.new.play c.line.new.self c.loop-paid.paid
      c.loop-paid.invariant.0 c.in_ok-open_before.ensures.ok
      (c.in_ok-line.ensures.ok ∙ ap (play c.open_before.new.play) c.in_ok-payment_of.ensures.line),
  search rules,
)
