use Rattle.std.proofs.Common.{arith, ap, ◌≡◌, ◌∙◌, refl}
use Rattle.std.proofs.lemmas.Int.{ints}
use Rattle.xfl.proofs.Results.{rounded_as, not_same, xfl_exponent}
use Rattle.xfl.specs.Operations.{product}
use Rattle.xfl.proofs.Functions.{rounded_is}
use Rattle.xfl.proofs.arithmetic.multiply.Goals as goal

pub returns : goal.returns
returns c =
    let x_exponent : c.x.inside.exponent ≡ c.args.x.exponent = ap (λ d. d.exponent) c.x.view_is in
    let y_exponent : c.y.inside.exponent ≡ c.args.y.exponent = ap (λ d. d.exponent) c.y.view_is in
    let x_sign : c.x.inside.negative ≡ c.args.x.negative = ap (λ d. d.negative) c.x.view_is in
    let y_sign : c.y.inside.negative ≡ c.args.y.negative = ap (λ d. d.negative) c.y.view_is in
    let x_digits : c.from.result ≡ c.args.x.mantissa = c.from.ensures ∙ ap (λ d. d.mantissa) c.x.view_is in
    let y_digits : c.from-2.result ≡ c.args.y.mantissa = c.from-2.ensures ∙ ap (λ d. d.mantissa) c.y.view_is in
    rounded_is (product c.args.x c.args.y) _ (omega arith) (rounded_as c.rounded.ensures
    (rw (x_sign, y_sign) (not_same c.args.x.negative c.args.y.negative)) (rw (x_digits, y_digits) refl) refl
    (omega (arith, ints, x_exponent, xfl_exponent _ c.x.invariant, xfl_exponent _ c.y.invariant, y_exponent)))
