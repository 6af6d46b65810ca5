use Rattle.std.proofs.Common.{arith, ap, subst, sym, ◌≡◌, ◌∙◌, refl}
use Rattle.std.proofs.lemmas.Int.{ints}
use Rattle.xfl.specs.Value.{IsXfl}
use Rattle.xfl.proofs.Results.{rounded_as, beq_same, beq_other, xfl_exponent}
use Rattle.xfl.proofs.Sums.{near_same, near_more, near_less}
use Rattle.xfl.proofs.arithmetic.sum_near.Goals as goal

pub returns-then-high-low : goal.returns-then-high-low
returns-then-high-low c =
    let high_sign : c.high.inside.negative ≡ c.args.high.negative = ap (λ d. d.negative) c.high.view_is in
    let low_sign : c.low.inside.negative ≡ c.args.low.negative = ap (λ d. d.negative) c.low.view_is in
    let high_digits : c.from.result ≡ c.args.high.mantissa = c.from.ensures ∙ ap (λ d. d.mantissa) c.high.view_is in
    let low_digits : c.from-smaller.result ≡ c.args.low.mantissa =
    c.from-smaller.ensures ∙ ap (λ d. d.mantissa) c.low.view_is in
    let low_exponent : c.low.inside.exponent ≡ c.args.low.exponent = ap (λ d. d.exponent) c.low.view_is in
    near_same c.args.high c.args.low c.args.gap _ (subst IsXfl c.high.view_is c.high.invariant)
    (subst IsXfl c.low.view_is c.low.invariant)
    c.requires.high_number c.requires.low_number c.requires.gap
    (sym high_sign ∙ beq_same c.high.inside.negative c.low.inside.negative c.if-high-low.true ∙ low_sign)
    (rounded_as c.rounded.ensures high_sign (rw (high_digits, c.pow.ensures, low_digits) refl) refl
    (omega (arith, ints, low_exponent, xfl_exponent _ c.low.invariant)))

pub returns-then-smaller-larger : goal.returns-then-smaller-larger
returns-then-smaller-larger c =
    let high_sign : c.high.inside.negative ≡ c.args.high.negative = ap (λ d. d.negative) c.high.view_is in
    let low_sign : c.low.inside.negative ≡ c.args.low.negative = ap (λ d. d.negative) c.low.view_is in
    let high_digits : c.from.result ≡ c.args.high.mantissa = c.from.ensures ∙ ap (λ d. d.mantissa) c.high.view_is in
    let low_digits : c.from-smaller.result ≡ c.args.low.mantissa =
    c.from-smaller.ensures ∙ ap (λ d. d.mantissa) c.low.view_is in
    let low_exponent : c.low.inside.exponent ≡ c.args.low.exponent = ap (λ d. d.exponent) c.low.view_is in
    near_more c.args.high c.args.low c.args.gap _ (subst IsXfl c.high.view_is c.high.invariant)
    (subst IsXfl c.low.view_is c.low.invariant)
    c.requires.high_number c.requires.low_number c.requires.gap
    (λ h. beq_other c.high.inside.negative c.low.inside.negative c.if-high-low.false (high_sign ∙ h ∙ sym low_sign))
    (rw (high_digits, c.pow.ensures, low_digits) at c.if-smaller-larger.true)
    (rounded_as c.rounded-then-smaller-larger.ensures high_sign (rw (high_digits, c.pow.ensures, low_digits) refl) refl
    (omega (arith, ints, low_exponent, xfl_exponent _ c.low.invariant)))

pub returns-else-smaller-larger : goal.returns-else-smaller-larger
returns-else-smaller-larger c =
    let high_sign : c.high.inside.negative ≡ c.args.high.negative = ap (λ d. d.negative) c.high.view_is in
    let low_sign : c.low.inside.negative ≡ c.args.low.negative = ap (λ d. d.negative) c.low.view_is in
    let high_digits : c.from.result ≡ c.args.high.mantissa = c.from.ensures ∙ ap (λ d. d.mantissa) c.high.view_is in
    let low_digits : c.from-smaller.result ≡ c.args.low.mantissa =
    c.from-smaller.ensures ∙ ap (λ d. d.mantissa) c.low.view_is in
    let low_exponent : c.low.inside.exponent ≡ c.args.low.exponent = ap (λ d. d.exponent) c.low.view_is in
    near_less c.args.high c.args.low c.args.gap _ (subst IsXfl c.high.view_is c.high.invariant)
    (subst IsXfl c.low.view_is c.low.invariant)
    c.requires.high_number c.requires.low_number c.requires.gap
    (λ h. beq_other c.high.inside.negative c.low.inside.negative c.if-high-low.false (high_sign ∙ h ∙ sym low_sign))
    (rw (← high_digits, ← c.pow.ensures, ← low_digits) (omega (arith, c.if-smaller-larger.false)))
    (rounded_as c.rounded-else-smaller-larger.ensures low_sign (rw (high_digits, c.pow.ensures, low_digits) refl) refl
    (omega (arith, ints, low_exponent, xfl_exponent _ c.low.invariant)))
