use Rattle.std.proofs.Common.{sym, subst, arith}
use Rattle.xo_fields.specs.Length.{LengthGives}
use Rattle.xo_fields.proofs.LengthBytes.{length_gives}
use Rattle.xo_fields.proofs.length.length_in.Goals as goal

pub returns : goal.returns
returns c =
    subst (λ read. LengthGives c.args.bytes.now read) (sym c.spelled_length.ensures)
    (length_gives c.args.bytes.now (λ i. omega (arith, c.type_inv.bytes i)))
