use Rattle.std.proofs.Common.{arith, ap, subst, sym, ◌∙◌}
use Rattle.xfl.specs.Value.{IsXfl}
use Rattle.xfl.proofs.Sums.{nothing_left, turned, nought_of}
use Rattle.xfl.specs.Operations.{total}
use Rattle.xfl.proofs.Functions.{rounded_is}
use Rattle.xfl.proofs.arithmetic.sum.Goals as goal

pub returns-in-0-default : goal.returns-in-0-default
returns-in-0-default c =
    rounded_is (total c.args.x c.args.y) _ (omega arith) (nothing_left c.args.x c.args.y
    (subst IsXfl c.y.view_is c.y.invariant)
    (nought_of c.args.x (subst IsXfl c.x.view_is c.x.invariant)
    (sym (ap (λ d. d.mantissa) c.x.view_is) ∙ c.in-0-default.is-0)))

pub returns-in_default-eq0 : goal.returns-in_default-eq0
returns-in_default-eq0 c =
    rounded_is (total c.args.x c.args.y) _ (omega arith) (turned c.args.x c.args.y _ (nothing_left c.args.y c.args.x
    (subst IsXfl c.x.view_is c.x.invariant)
    (nought_of c.args.y (subst IsXfl c.y.view_is c.y.invariant)
    (sym (ap (λ d. d.mantissa) c.y.view_is) ∙ c.in_default-eq0.is-1))))

pub returns-in_default : goal.returns-in_default
returns-in_default c =
    rounded_is (total c.args.x c.args.y) _ (omega arith) (turned c.args.x c.args.y _ c.sum_ordered.ensures)

pub returns-in_default-2 : goal.returns-in_default-2
returns-in_default-2 c = rounded_is (total c.args.x c.args.y) _ (omega arith) c.sum_ordered-in_default-2.ensures
