use Rattle.std.proofs.Common.{sym, subst}
use Rattle.xo_list.specs.Span.{IsRead}
use Rattle.xo_list.proofs.Collecting.{object_read}
use Rattle.xo_list.proofs.object.read_object.Goals as goal

pub invariant_of-result : goal.invariant_of-result
invariant_of-result c =
    subst (λ b. IsRead b c.in-Ok.spans.items) (sym c.in-Ok-from_slice.ensures.items)
    (object_read c.args.bytes.now c.in-Ok.spans.items c.in-Ok.ensures.ok)

pub returns-in-Ok-from_slice-clause-read : goal.returns-in-Ok-from_slice-clause-read
returns-in-Ok-from_slice-clause-read c =
    subst (λ b. IsRead b c.in-Ok.spans.items) (sym c.in-Ok-from_slice.ensures.items)
    (object_read c.args.bytes.now c.in-Ok.spans.items c.in-Ok.ensures.ok)
