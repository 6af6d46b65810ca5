-- What the check of typing needs of a module (this project's own).
use Rattle.std.specs.Prelude.{ℕ, ◌≡◌, ◌<◌, ◌^◌, List, [], ◌∷◌, Some, length, reverse, slice_get}
use Rattle.wa_ops.specs.declared.modules.Code.{Code}
use Rattle.wa_ops.specs.declared.modules.FuncType.{FuncType}
use Rattle.wa_ops.specs.declared.modules.Import.{Import}
use Rattle.wa_ops.specs.declared.modules.ImportItem.{ImportItem}
use Rattle.wa_ops.specs.declared.modules.ImportItem.TheVariants as item
use Rattle.wa_ops.specs.declared.modules.Module.{Module}
use Rattle.wa_ops.specs.Callees.{Callee, takes, gives}
use Rattle.wa_ops.specs.Contexts.{callee_of_row}
use Rattle.wa_ops.specs.Rows.{row_named}
use Rattle.wa_ops.specs.Sequences.{IsNested}

-- a function type that takes and gives what the callee does
pub record IsTypeOf (callee : Callee) (t : FuncType) : Type 0 where
  pub parameters : reverse t.parameters ≡ takes callee
  pub results : t.results ≡ gives callee ∷ []

-- an import's item that is a function with the type of the row of this name
abbrev pub HasRowType : List FuncType → List ℕ → ImportItem → Type 0
HasRowType types name (item.Function index) =
    (t : FuncType) × (slice_get types index ≡ Some t) × IsTypeOf (callee_of_row (row_named name)) t
HasRowType types name other = ⊥

-- each import is a function with the type of its row
abbrev pub AllRowTypes : List FuncType → List Import → Type 0
AllRowTypes types [] = Unit {0}
AllRowTypes types (import ∷ imports) = HasRowType types import.name import.item × AllRowTypes types imports

-- each body is nested, and its places are numbers of 32 bits
pub record IsBodyCode (code : Code) : Type 0 where
  pub nested : IsNested code.ops
  pub short : length code.ops < 2 ^ 32

abbrev pub AllBodies : List Code → Type 0
AllBodies codes = (function : ℕ) (code : Code) → slice_get codes function ≡ Some code → IsBodyCode code

abbrev pub AreFew : List Code → Type 0
AreFew codes = length codes < 2 ^ 32
