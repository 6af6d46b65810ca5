-- What the cheaper arm of each `if` costs, which version 0 of the bound counts and version 1 spares (this project's
-- own).
use Rattle.std.specs.Prelude.{ℕ, ◌+◌, max, min, List, [], ◌∷◌, Bool, true, false, if◌then◌else◌}
use Rattle.wa_ops.specs.Bound.{cost}
use Rattle.wa_ops.specs.Sequences.{Sequence, done, plain, block, loop, if_then, if_else, Nesting, opens_block}
use Rattle.wa_ops.specs.Sequences.{opens_loop, opens_if, turns, closes, stands}
use Rattle.hk_rules.specs.declared.sparing.OpenArm.{OpenArm}

-- For each instruction of a sequence, with these entries behind it: of an `if` with two arms what the cheaper one
-- costs, and 0 of
-- every other.
abbrev pub spared : Sequence → List ℕ → List ℕ
spared done after = after
spared (plain op rest) after = 0 ∷ spared rest after
spared (block result body rest) after = 0 ∷ spared body (0 ∷ spared rest after)
spared (loop result body rest) after = 0 ∷ spared body (0 ∷ spared rest after)
spared (if_then result body rest) after = 0 ∷ spared body (0 ∷ spared rest after)
spared (if_else result first second rest) after =
    min (cost 1 first) (cost 1 second) ∷ spared first (0 ∷ spared second (0 ∷ spared rest after))

-- ---- one instruction, where the code is read from its last to its first

-- the arm that is read, and those around it
abbrev pub innermost_arm : List OpenArm → OpenArm
innermost_arm [] = record { is_first = false; cost = 0 }
innermost_arm (arm ∷ arms) = arm

abbrev pub outer_arms : List OpenArm → List OpenArm
outer_arms [] = []
outer_arms (arm ∷ arms) = arms

-- the arm that is read costs more
abbrev pub dearer : ℕ → List OpenArm → List OpenArm
dearer more arms =
    record { is_first = (innermost_arm arms).is_first; cost = more + (innermost_arm arms).cost } ∷ outer_arms arms

-- at an `if` whose first arm, or only arm, is this one
abbrev pub at_if : OpenArm → List OpenArm → List OpenArm
at_if arm arms =
    if arm.is_first then dearer (2 + max arm.cost (innermost_arm arms).cost) (outer_arms arms)
    else dearer (2 + arm.cost) arms

abbrev pub saving_at_if : OpenArm → List OpenArm → ℕ
saving_at_if arm arms = if arm.is_first then min arm.cost (innermost_arm arms).cost else 0

-- the entry of an instruction, by the arms that are open behind it
abbrev pub saving : Nesting → List OpenArm → ℕ
saving (opens_block result) arms = 0
saving (opens_loop result) arms = 0
saving (opens_if result) arms = saving_at_if (innermost_arm arms) (outer_arms arms)
saving turns arms = 0
saving closes arms = 0
saving stands arms = 0

-- the arms that are open in front of it
abbrev pub arms_before : Nesting → List OpenArm → List OpenArm
arms_before (opens_block result) arms = dearer (2 + (innermost_arm arms).cost) (outer_arms arms)
arms_before (opens_loop result) arms = dearer 1 (outer_arms arms)
arms_before (opens_if result) arms = at_if (innermost_arm arms) (outer_arms arms)
arms_before turns arms = record { is_first = true; cost = 0 } ∷ arms
arms_before closes arms = record { is_first = false; cost = 0 } ∷ arms
arms_before stands arms = dearer 1 arms

-- what all open arms cost, and one more for each
abbrev pub load : List OpenArm → ℕ
load [] = 0
load (arm ∷ arms) = arm.cost + 1 + load arms
