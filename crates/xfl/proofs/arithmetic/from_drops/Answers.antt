use Rattle.std.proofs.Common.{arith, sym, ◌∙◌, ◌-ℤ◌, pos, refl}
use Rattle.std.proofs.lemmas.Int.{ints}
use Rattle.std.proofs.Common.{false, negsuc, to_z, of_z, w64}
use Rattle.xfl.proofs.Results.{rounded_as, of_digits}
use Rattle.xfl.proofs.Sums.{in_ranged, signed_rounded}
use Rattle.xfl.specs.Operations.{whole}
use Rattle.xfl.proofs.Functions.{rounded_is}
use Rattle.xfl.proofs.arithmetic.from_drops.Goals as goal

pub returns : goal.returns
returns c =
    let e = to_z w64 (of_z w64 (to_z w64 (of_z w64 c.cut-digits.result.exponent) -ℤ pos 6)) in
    let gives = in_ranged false c.cut-digits.result.mantissa e (omega (arith, ints)) (omega (arith, ints)) in
    rounded_is (whole (pos c.args.drops) (negsuc 5)) _ (omega arith) (signed_rounded false c.args.drops
    (pos c.args.drops) (negsuc 5) _ refl
    (rounded_as
    (of_digits false c.from.result 1 (negsuc 5) c.cut-digits.result.mantissa c.cut-digits.result.exponent e _
    (λ h. c.if-drops-eq0.false (sym c.from.ensures ∙ h)) c.cut-digits.ensures.cut (sym gives) (omega (arith, ints)))
    refl c.from.ensures refl refl))
