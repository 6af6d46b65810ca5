use Rattle.std.proofs.Common.{arith, ap, subst, sym, ◌≡◌, ◌∙◌, ◌*◌, ◌-◌, refl}
use Rattle.std.proofs.lemmas.Int.{ints}
use Rattle.xfl.specs.Value.{IsXfl}
use Rattle.xfl.proofs.Results.{rounded_as, beq_same, beq_other, xfl_exponent}
use Rattle.xfl.proofs.Sums.{far_same, far_other}
use Rattle.xfl.proofs.arithmetic.sum_far.Goals as goal
use Rattle.xfl.proofs.arithmetic.sum_far.Goals.{then-high-low, else-high-low}

pub returns : goal.returns
returns c =
    let high_sign : c.high.inside.negative ≡ c.args.high.negative = ap (λ d. d.negative) c.high.view_is in
    let low_sign : c.low.inside.negative ≡ c.args.low.negative = ap (λ d. d.negative) c.low.view_is in
    let high_digits : c.from-larger.result ≡ c.args.high.mantissa =
    c.from-larger.ensures ∙ ap (λ d. d.mantissa) c.high.view_is in
    let high_exponent : c.high.inside.exponent ≡ c.args.high.exponent = ap (λ d. d.exponent) c.high.view_is in
    let high_valid = subst IsXfl c.high.view_is c.high.invariant in
    let low_valid = subst IsXfl c.low.view_is c.low.invariant in
    elim c.if-high-low.branch [
      | then-high-low w ↦
          far_same c.args.high c.args.low _ high_valid low_valid c.requires.high_number c.requires.low_number
          c.requires.far
          (sym high_sign ∙ beq_same c.high.inside.negative c.low.inside.negative w.if-high-low.true ∙ low_sign)
          (rounded_as c.rounded.ensures high_sign (w.whole-is ∙ ap (λ t. t * 10) high_digits) refl
          (omega (arith, ints, high_exponent, xfl_exponent _ c.high.invariant)))
      | else-high-low w ↦
          far_other c.args.high c.args.low _ high_valid low_valid c.requires.high_number c.requires.low_number
          c.requires.far
          (λ h.
          beq_other c.high.inside.negative c.low.inside.negative w.if-high-low.false (high_sign ∙ h ∙ sym low_sign))
          (rounded_as c.rounded.ensures high_sign (w.whole-is ∙ ap (λ t. t * 10 - 1) high_digits) refl
          (omega (arith, ints, high_exponent, xfl_exponent _ c.high.invariant)))
    ]
