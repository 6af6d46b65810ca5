use Rattle.std.proofs.Common.{arith, ap, ◌≡◌, ◌∙◌, ◌*◌, ◌-ℤ◌, pos, refl}
use Rattle.std.proofs.lemmas.Int.{ints}
use Rattle.xfl.proofs.Results.{rounded_as, rounded_up_as, scaled_rounded, scaled_rounded_up, xfl_exponent}
use Rattle.xfl.proofs.Functions.{ratio_up, ratio_down}
use Rattle.xfl.proofs.arithmetic.mulratio.Goals as goal

pub returns-then-up : goal.returns-then-up
returns-then-up c =
    let x_exponent : c.x.inside.exponent ≡ c.args.x.exponent = ap (λ d. d.exponent) c.x.view_is in
    let digits : c.from.result ≡ c.args.x.mantissa = c.from.ensures ∙ ap (λ d. d.mantissa) c.x.view_is in
    ratio_up c.args.x c.args.up c.args.num c.args.den _ (omega arith) c.if-up.true (scaled_rounded_up c.args.x.negative
    (c.args.x.mantissa * c.args.num) c.args.den 10
    c.args.x.exponent (c.args.x.exponent -ℤ pos 10) _ (omega (arith, ints))
    (rounded_up_as c.rounded_up.ensures (ap (λ d. d.negative) c.x.view_is) (rw (digits, c.from-2.ensures) refl)
    c.from-3.ensures
    (omega (arith, ints, x_exponent, xfl_exponent _ c.x.invariant))))

pub returns-else-up : goal.returns-else-up
returns-else-up c =
    let x_exponent : c.x.inside.exponent ≡ c.args.x.exponent = ap (λ d. d.exponent) c.x.view_is in
    let digits : c.from.result ≡ c.args.x.mantissa = c.from.ensures ∙ ap (λ d. d.mantissa) c.x.view_is in
    ratio_down c.args.x c.args.up c.args.num c.args.den _ (omega arith) c.if-up.false (scaled_rounded c.args.x.negative
    (c.args.x.mantissa * c.args.num) c.args.den 10
    c.args.x.exponent (c.args.x.exponent -ℤ pos 10) _ (omega (arith, ints))
    (rounded_as c.rounded_quotient.ensures (ap (λ d. d.negative) c.x.view_is) (rw (digits, c.from-2.ensures) refl)
    c.from-3.ensures
    (omega (arith, ints, x_exponent, xfl_exponent _ c.x.invariant))))
