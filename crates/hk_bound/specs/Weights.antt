-- The sum over flat code that the bound is (this project's own).
use Rattle.std.specs.Prelude.{ℕ, ◌+◌, ◌-◌, ◌*◌, ◌==◌, if◌then◌else◌, List, [], ◌∷◌, Option, Some, None, slice_get}
use Rattle.std.specs.Option.{option_map_or}
use Rattle.wa_ops.specs.declared.op.Op.{Op}
use Rattle.wa_ops.specs.declared.op.Op.TheVariants.{Else}
use Rattle.hk_rules.specs.declared.guards.FunctionGuards.{FunctionGuards}
use Rattle.hk_rules.specs.declared.guards.LoopGuard.{LoopGuard}
use Rattle.hk_rules.specs.Passing.{first_around, others_around}

-- how often an instruction counts that belongs to this loop: once outside all loops
abbrev pub weight : List LoopGuard → Option ℕ → ℕ
weight loops None = 1
weight loops (Some number) = option_map_or (λ guard. guard.limit) (slice_get loops number) 0

abbrev pub inner_of : Option (Option ℕ) → Option ℕ
inner_of None = None
inner_of (Some inner) = inner

-- an `else` isn't counted
abbrev pub counted : Op → ℕ → ℕ
counted Else times = 0
counted instruction times = times

-- over all instructions, where these are the innermost loops around them
abbrev pub total : List LoopGuard → List Op → List (Option ℕ) → ℕ
total loops [] marks = 0
total loops (op ∷ ops) marks = counted op (weight loops (first_around marks)) + total loops ops (others_around marks)

-- of what is spared at each instruction, over all instructions
abbrev pub savings : List LoopGuard → List (Option ℕ) → List ℕ → ℕ
savings loops marks [] = 0
savings loops marks (n ∷ ns) = weight loops (first_around marks) * n + savings loops (others_around marks) ns

abbrev pub last_turns : List LoopGuard → ℕ
last_turns [] = 0
last_turns (guard ∷ guards) = 3

-- what all instructions add, and the last pass
abbrev pub whole : List Op → FunctionGuards → ℕ
whole ops guards = total guards.loops ops guards.innermost + last_turns guards.loops

abbrev pub spared_by : FunctionGuards → ℕ
spared_by guards = savings guards.loops guards.innermost guards.spared

-- in version 1 less what is spared
abbrev pub weighed : ℕ → List Op → FunctionGuards → ℕ
weighed version ops guards = if version == 0 then whole ops guards else whole ops guards - spared_by guards
