use Rattle.std.proofs.Common.{None, IfSome}
use Rattle.std.proofs.lemmas.List.Elements.{All-replicate}
use Rattle.hk_slots.specs.Slots.{no_slots}
use Rattle.hk_slots.specs.Part.{IsPart}
use Rattle.hk_slots.proofs.Shown.{none_shown}
use Rattle.hk_slots.proofs.slots.Slots.new.Goals as goal

pub invariant_of-result : goal.invariant_of-result
invariant_of-result c = All-replicate (λ p. IfSome p (IsPart c.new.result.items)) 255 None tt

pub returns : goal.returns
unfolding no_slots
returns c = record { empty = none_shown 255 c.new.result.items }
