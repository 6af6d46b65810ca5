use Rattle.std.proofs.Common.{arith, ap, ◌≡◌, ◌∙◌, ◌-ℤ◌, pos, refl}
use Rattle.std.proofs.lemmas.Int.{ints}
use Rattle.xfl.specs.Operations.{differ}
use Rattle.xfl.proofs.Results.{rounded_as, scaled_rounded, not_same, xfl_exponent}
use Rattle.xfl.proofs.Functions.{divided_is}
use Rattle.xfl.proofs.arithmetic.divide.Goals as goal

pub rounded_quotient-requires-clause-greatest : goal.rounded_quotient-requires-clause-greatest
rounded_quotient-requires-clause-greatest c =
    omega (arith, ints, xfl_exponent _ c.x.invariant, xfl_exponent _ c.y.invariant)

pub returns : goal.returns
returns c =
    let x_exponent : c.x.inside.exponent ≡ c.args.x.exponent = ap (λ d. d.exponent) c.x.view_is in
    let y_exponent : c.y.inside.exponent ≡ c.args.y.exponent = ap (λ d. d.exponent) c.y.view_is in
    let x_sign : c.x.inside.negative ≡ c.args.x.negative = ap (λ d. d.negative) c.x.view_is in
    let y_sign : c.y.inside.negative ≡ c.args.y.negative = ap (λ d. d.negative) c.y.view_is in
    let x_digits : c.from.result ≡ c.args.x.mantissa = c.from.ensures ∙ ap (λ d. d.mantissa) c.x.view_is in
    let y_digits : c.from-2.result ≡ c.args.y.mantissa = c.from-2.ensures ∙ ap (λ d. d.mantissa) c.y.view_is in
    divided_is c.args.x c.args.y _ (omega (arith, c.if-y-eq0.false, y_digits, c.from-2.ensures)) (scaled_rounded
    (differ c.args.x.negative c.args.y.negative) c.args.x.mantissa c.args.y.mantissa 17
    (c.args.x.exponent -ℤ c.args.y.exponent) (c.args.x.exponent -ℤ c.args.y.exponent -ℤ pos 17) _ (omega (arith, ints))
    (rounded_as c.rounded_quotient.ensures (rw (x_sign, y_sign) (not_same c.args.x.negative c.args.y.negative))
    (rw x_digits refl) y_digits
    (omega (arith, ints, x_exponent, xfl_exponent _ c.x.invariant, xfl_exponent _ c.y.invariant, y_exponent))))
