-- What going over flat code from its first instruction to its last finds of its loops (this project's own).
use Rattle.std.specs.Prelude.{ℕ, ◌+◌, List, [], ◌∷◌, Option, Some, None}
use Rattle.std.specs.Int.{cast_unsigned, w32}
use Rattle.wa_ops.specs.declared.op.Op.{Op}
use Rattle.wa_ops.specs.declared.op.Op.TheVariants.{I32Const}
use Rattle.wa_ops.specs.Sequences.{Nesting, opens_block, opens_loop, opens_if, turns, closes, stands}
use Rattle.hk_rules.specs.declared.guards.LoopGuard.{LoopGuard}

-- the unsigned number of an `i32.const`
abbrev pub number_of : Op → Option ℕ
number_of (I32Const n) = Some (cast_unsigned w32 n)
number_of instruction = None

abbrev pub number_in : Option Op → Option ℕ
number_in (Some instruction) = number_of instruction
number_in None = None

-- a loop at this place, by the first two instructions of its body
abbrev pub guard_by : ℕ → Option ℕ → Option ℕ → LoopGuard
guard_by at (Some id) (Some limit) = record { op = at; id = id; limit = limit }
guard_by at id limit = record { op = at; id = 0; limit = 0 }

-- the loop whose body goes on at a place, those around it, the innermost first, and how many loops began before
pub record Open : Type 0 where
  pub inner : Option ℕ
  pub around : List (Option ℕ)
  pub count : ℕ

abbrev pub first_around : List (Option ℕ) → Option ℕ
first_around [] = None
first_around (around ∷ more) = around

abbrev pub others_around : List (Option ℕ) → List (Option ℕ)
others_around [] = []
others_around (around ∷ more) = more

-- behind an instruction
abbrev pub passed : Nesting → Open → Open
passed (opens_block result) here = record { inner = here.inner; around = here.inner ∷ here.around; count = here.count }
passed (opens_loop result) here = record {
  inner = Some here.count;
  around = here.inner ∷ here.around;
  count = here.count + 1;
}
passed (opens_if result) here = record { inner = here.inner; around = here.inner ∷ here.around; count = here.count }
passed turns here = here
passed closes here = record { inner = first_around here.around; around = others_around here.around; count = here.count }
passed stands here = here
