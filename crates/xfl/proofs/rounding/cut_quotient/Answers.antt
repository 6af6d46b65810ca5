use Rattle.std.proofs.Common.{arith, rules, to_z, of_z, w64}
use Rattle.std.proofs.lemmas.Int.{ints}
use Rattle.xfl.proofs.Results.{quotient_cut, quotient_exact, of_quotient_exact}
use Rattle.xfl.proofs.rounding.cut_quotient.Goals as goal

pub returns-then-whole-clause-cut : goal.returns-then-whole-clause-cut
returns-then-whole-clause-cut c =
    quotient_cut c.args.numerator c.args.denominator c.cut-whole.result.mantissa c.cut-whole.result.exponent _
    (omega (arith, ints)) c.requires.divisible c.requires.long c.cut-whole.ensures.cut

pub returns-then-whole-clause-exact : goal.returns-then-whole-clause-exact
returns-then-whole-clause-exact c = (
  λ h.
      quotient_exact c.args.numerator c.args.denominator c.cut-whole.result.mantissa c.cut-whole.result.exponent
      (to_z w64 (of_z w64 c.cut-whole.result.exponent)) (omega (arith, ints)) c.requires.divisible (search rules)
      (c.cut-whole.ensures.exact.0 (search rules)),
  λ h.
      let both =
      of_quotient_exact c.args.numerator c.args.denominator c.cut-whole.result.mantissa c.cut-whole.result.exponent
      (to_z w64 (of_z w64 c.cut-whole.result.exponent)) (omega (arith, ints)) c.requires.divisible
      c.cut-whole.ensures.cut
      h in
      search rules,
)

pub returns-else-whole-clause-cut : goal.returns-else-whole-clause-cut
returns-else-whole-clause-cut c =
    quotient_cut c.args.numerator c.args.denominator c.cut-whole.result.mantissa c.cut-whole.result.exponent _
    (omega (arith, ints)) c.requires.divisible c.requires.long c.cut-whole.ensures.cut

pub returns-else-whole-clause-exact : goal.returns-else-whole-clause-exact
returns-else-whole-clause-exact c = (
  λ h. absurd (search rules),
  λ h.
      let both =
      of_quotient_exact c.args.numerator c.args.denominator c.cut-whole.result.mantissa c.cut-whole.result.exponent
      (to_z w64 (of_z w64 c.cut-whole.result.exponent)) (omega (arith, ints)) c.requires.divisible
      c.cut-whole.ensures.cut
      h in
      c.cut-whole.ensures.exact.1 both.0,
)
