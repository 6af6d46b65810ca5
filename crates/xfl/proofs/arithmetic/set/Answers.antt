use Rattle.std.proofs.Common.{arith, refl, ap, ◌∙◌, ◌≡◌, pos, unsigned_abs, to_z, of_z, w64}
use Rattle.std.specs.Prelude.{int_lt}
use Rattle.std.proofs.lemmas.Int.{ints, to_z-of_z}
use Rattle.xfl.specs.Operations.{whole}
use Rattle.xfl.proofs.Functions.{rounded_is}
use Rattle.xfl.proofs.Results.{rounded_as}
use Rattle.xfl.proofs.arithmetic.set.Goals as goal

pub returns : goal.returns
returns c =
    let same : to_z w64 (of_z w64 c.args.mantissa) ≡ c.args.mantissa =
    to_z-of_z w64 c.args.mantissa c.ranges.mantissa in
    rounded_is (whole c.args.mantissa c.args.exponent) _ (omega arith)
    (rounded_as c.rounded.ensures (ap (λ t. int_lt t (pos 0)) same)
    (c.from.ensures ∙ c.unsigned_abs.ensures.value ∙ ap unsigned_abs same) refl (omega (arith, ints)))
