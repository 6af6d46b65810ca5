-- What an import is to the code that calls it (this project's own).
use Rattle.std.specs.Prelude.{ℕ, ◌<◌, ◌^◌, List, [], ◌∷◌, reverse}
use Rattle.wa_ops.specs.declared.op.ValueType.{ValueType}
use Rattle.wa_ops.specs.declared.op.ValueType.TheVariants.{I32, I64}

-- `_g`, `accept`, `rollback`, or the host's call of a row with these parameters
pub data Callee : Type 0 where
  guard : Callee
  accept : Callee
  rollback : Callee
  host_call : ℕ → List ValueType → Callee

-- the operands that a call takes, the last pushed first
abbrev pub takes : Callee → List ValueType
takes guard = I32 ∷ I32 ∷ []
takes accept = I64 ∷ I32 ∷ I32 ∷ []
takes rollback = I64 ∷ I32 ∷ I32 ∷ []
takes (host_call row parameters) = reverse parameters

abbrev pub gives : Callee → ValueType
gives guard = I32
gives accept = I64
gives rollback = I64
gives (host_call row parameters) = I64

-- so many numbers as there are types, in order, and each of an i32 is below 2 ^ 32
abbrev pub AreArguments : List ValueType → List ℕ → Type 0
AreArguments [] [] = Unit {0}
AreArguments (I32 ∷ kinds) (n ∷ ns) = (n < 2 ^ 32) × AreArguments kinds ns
AreArguments (kind ∷ kinds) (n ∷ ns) = AreArguments kinds ns
AreArguments kinds ns = ⊥
