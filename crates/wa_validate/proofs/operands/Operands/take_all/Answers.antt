use Rattle.std.proofs.Common.{◌≡◌, ◌∙◌, Some, None}
use Rattle.wa_validate.proofs.Carrying.{last_taken, none_left}
use Rattle.wa_validate.proofs.operands.Operands.take_all.Goals as goal

pub returns-then-not-take : goal.returns-then-not-take
returns-then-not-take c = record {
  taken =
      c.loop-kind.invariant.2
      ∙ last_taken _ _ _ c.loop-kind.self None c.in-Some.ensures.steps c.if-not-take.ensures.taken;
}

pub loop-kind-preserved : goal.loop-kind-preserved
loop-kind-preserved c = (
  tt,
  tt,
  c.loop-kind.invariant.2
      ∙ last_taken _ _ _ c.loop-kind.self (Some c.take.new.self) c.in-Some.ensures.steps c.if-not-take.ensures.taken,
)

pub returns : goal.returns
returns c = record { taken = c.loop-kind.invariant.2 ∙ none_left _ c.loop-kind.self c.in-None.ensures.steps.0 }
