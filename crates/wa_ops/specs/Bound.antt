-- The bound on the turns of a run, by sums over the tree, in each version of the machine (this project's own).
use Rattle.std.specs.Prelude.{ℕ, zero, suc, ℤ, ◌≡◌, ◌≤◌, ◌+◌, ◌*◌, max, List, [], ◌∷◌, ◌++◌, Some, slice_get}
use Rattle.std.specs.Int.{cast_unsigned, w32}
use Rattle.wa_ops.specs.declared.op.Op.TheVariants.{I32Const, Call}
use Rattle.wa_ops.specs.Callees.{Callee, guard}
use Rattle.wa_ops.specs.Sequences.{Sequence, done, plain, block, loop, if_then, if_else}

-- what the two arms of an `if` cost: both in version 0, the dearer one from version 1 on
abbrev pub arms : ℕ → ℕ → ℕ → ℕ
arms zero one other = one + other
arms (suc version) one other = max one other

-- the nodes of a region outside its loops' bodies, and the ends of its blocks and ifs
abbrev pub cost : ℕ → Sequence → ℕ
cost version done = 0
cost version (plain op rest) = 1 + cost version rest
cost version (block result body rest) = 2 + cost version body + cost version rest
cost version (loop result body rest) = 1 + cost version rest
cost version (if_then result body rest) = 2 + cost version body + cost version rest
cost version (if_else result first second rest) =
    2 + arms version (cost version first) (cost version second) + cost version rest

-- besides these, the end of the region itself
abbrev pub own : ℕ → Sequence → ℕ
own version code = cost version code + 1

-- the two numbers of a guard: the constants at the head of a loop's body
pub record GuardNumbers : Type 0 where
  pub id : ℕ
  pub limit : ℕ

abbrev pub guard_numbers : Sequence → GuardNumbers
guard_numbers (plain (I32Const id) (plain (I32Const limit) rest)) = record {
  id = cast_unsigned w32 id;
  limit = cast_unsigned w32 limit;
}
guard_numbers body = record { id = 0; limit = 0 }

-- a loop's guard, and what a pass of its body costs
pub record LoopCost : Type 0 where
  pub id : ℕ
  pub limit : ℕ
  pub cost : ℕ

abbrev pub loop_cost : ℕ → Sequence → LoopCost
loop_cost version body = record {
  id = (guard_numbers body).id;
  limit = (guard_numbers body).limit;
  cost = own version body;
}

-- the loops at any depth, in both arms of each `if`
abbrev pub loops : ℕ → Sequence → List LoopCost
loops version done = []
loops version (plain op rest) = loops version rest
loops version (block result body rest) = loops version body ++ loops version rest
loops version (loop result body rest) = loop_cost version body ∷ loops version body ++ loops version rest
loops version (if_then result body rest) = loops version body ++ loops version rest
loops version (if_else result first second rest) = loops version first ++ loops version second ++ loops version rest

abbrev pub turns : List LoopCost → ℕ
turns [] = 0
turns (x ∷ xs) = x.limit * x.cost + turns xs

-- a pass that a guard refuses takes three turns
abbrev pub last_pass : List LoopCost → ℕ
last_pass [] = 0
last_pass (x ∷ xs) = 3

-- in a version, the bound of a function with this body
abbrev pub bound_at : ℕ → Sequence → ℕ
bound_at version body = own version body + turns (loops version body) + last_pass (loops version body)

-- the bound of version 1 is at most that of version 0
abbrev pub FinerBound : Type 0
FinerBound = (body : Sequence) → bound_at 1 body ≤ bound_at 0 body

-- a loop's body begins with its guard: two constants and a call of `_g`
pub record HasGuard (calls : List Callee) (body : Sequence) : Type 0 where
  pub id : ℤ
  pub limit : ℤ
  pub function : ℕ
  pub rest : Sequence
  pub is : body ≡ plain (I32Const id) (plain (I32Const limit) (plain (Call function) rest))
  pub counts : slice_get calls function ≡ Some guard

-- each loop's body begins with its guard
abbrev pub IsGuarded : List Callee → Sequence → Type 0
IsGuarded calls done = Unit {0}
IsGuarded calls (plain op rest) = IsGuarded calls rest
IsGuarded calls (block result body rest) = IsGuarded calls body × IsGuarded calls rest
IsGuarded calls (loop result body rest) = HasGuard calls body × IsGuarded calls body × IsGuarded calls rest
IsGuarded calls (if_then result body rest) = IsGuarded calls body × IsGuarded calls rest
IsGuarded calls (if_else result first second rest) =
    IsGuarded calls first × IsGuarded calls second × IsGuarded calls rest
