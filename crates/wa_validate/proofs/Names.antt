-- What a module's lists say of the names that its code may use.
use Rattle.std.proofs.Common.{◌≡◌, ℕ, zero, suc, List, [], ◌∷◌, ◌++◌, Option, Some, None, slice_get, length, Bor}
use Rattle.std.proofs.Common.{IfSome, sym, ◌∙◌, ap, subst, refl}
use Rattle.std.proofs.lemmas.Option.{slice_get_past, slice_get_read}
use Rattle.std.specs.Slice.{IsItemAt}
use Rattle.wa_ops.specs.declared.modules.FuncType.{FuncType}
use Rattle.wa_ops.specs.declared.modules.Import.{Import}
use Rattle.wa_ops.specs.declared.modules.ImportItem.{ImportItem}
use Rattle.wa_ops.specs.declared.modules.ImportItem.TheVariants as item
use Rattle.wa_ops.specs.declared.modules.ModuleGlobal.{ModuleGlobal}
use Rattle.wa_ops.specs.Callees.{Callee}
use Rattle.wa_ops.specs.Contexts.{callee_of_row, called, calls_of, global_types}
use Rattle.wa_ops.specs.Rows.{row_named}
use Rattle.wa_ops.specs.Typing.{GlobalType}
use Rattle.wa_validate.specs.Needs.{HasRowType, AllRowTypes, IsTypeOf}

pub global_none : (globals : List ModuleGlobal) (i : ℕ) → slice_get globals i ≡ None →
    slice_get (global_types globals) i ≡ None
global_none [] i h = refl
global_none (g ∷ globals) zero h = absurd cc
global_none (g ∷ globals) (suc i) h = global_none globals i h

pub global_some : (globals : List ModuleGlobal) (i : ℕ) (g : ModuleGlobal) → slice_get globals i ≡ Some g →
    slice_get (global_types globals) i ≡ Some (record { kind = g.kind; is_mutable = g.mutable })
global_some [] i g h = absurd cc
global_some (x ∷ globals) zero g h =
    let same : x ≡ g = cc in ap (λ y. Some (record { kind = y.kind; is_mutable = y.mutable })) same
global_some (x ∷ globals) (suc i) g h = global_some globals i g h

pub function_called : (types : List FuncType) (import : Import) (i : ImportItem) (more : List Callee) →
    HasRowType types import.name i → called i import more ≡ callee_of_row (row_named import.name) ∷ more
function_called types import (item.Function index) more h = refl
function_called types import (item.Table limits) more h = absurd h
function_called types import (item.Memory limits) more h = absurd h
function_called types import (item.Global kind mutable) more h = absurd h

pub callee_none : (types : List FuncType) (imports : List Import) (i : ℕ) → AllRowTypes types imports →
    slice_get imports i ≡ None → slice_get (calls_of imports) i ≡ None
callee_none types [] i a h = refl
callee_none types (import ∷ imports) zero a h = absurd cc
callee_none types (import ∷ imports) (suc i) a h =
    ap (λ cs. slice_get cs (suc i)) (function_called types import import.item (calls_of imports) a.0)
    ∙ callee_none types imports i a.1 h

pub record IsCallee (types : List FuncType) (found : Option Callee) (import : Import) : Type 0 where
  pub is : found ≡ Some (callee_of_row (row_named import.name))
  pub typed : HasRowType types import.name import.item

pub callee_some : (types : List FuncType) (imports : List Import) (i : ℕ) (import : Import) →
    AllRowTypes types imports → slice_get imports i ≡ Some import →
    IsCallee types (slice_get (calls_of imports) i) import
callee_some types [] i import a h = absurd cc
callee_some types (x ∷ imports) zero import a h =
    let same : x ≡ import = cc in
    record {
      is =
          ap (λ cs. slice_get cs zero) (function_called types x x.item (calls_of imports) a.0)
          ∙ ap (λ y. Some (callee_of_row (row_named y.name))) same;
      typed = subst (λ y. HasRowType types y.name y.item) same a.0;
    }
callee_some types (x ∷ imports) (suc i) import a h =
    let more : IsCallee types (slice_get (calls_of imports) i) import = callee_some types imports i import a.1 h in
    record {
      is = ap (λ cs. slice_get cs (suc i)) (function_called types x x.item (calls_of imports) a.0) ∙ more.is;
      typed = more.typed;
    }

-- what lends an item of a list
pub get_none : {X : Type 0} (xs : List X) (i : ℕ) (r : Option (Bor X)) → IsItemAt xs i r → r ≡ None →
    slice_get xs i ≡ None
get_none xs i None h e = slice_get_past xs i h.3
get_none xs i (Some x) h e = absurd cc

pub get_some : {X : Type 0} (xs : List X) (i : ℕ) (r : Option (Bor X)) (x : Bor X) → IsItemAt xs i r → r ≡ Some x →
    slice_get xs i ≡ Some x.now
get_some xs i None x h e = absurd cc
get_some xs i (Some y) x h e =
    let same : y ≡ x = cc in slice_get_read xs (length xs) i y.now refl h.3.0 h.1 ∙ ap (λ z. Some z.now) same

pub some_global : (globals : List ModuleGlobal) (i : ℕ) (r : Option (Bor ModuleGlobal)) → IsItemAt globals i r →
    IfSome r (λ g. slice_get (global_types globals) i ≡ Some (record { kind = g.now.kind; is_mutable = g.now.mutable }))
some_global globals i None h = tt
some_global globals i (Some g) h = global_some globals i g.now (get_some globals i (Some g) g h refl)

-- a callee's type, from the type of its row
pub some_callee : (calls : List Callee) (i : ℕ) (callee : Callee) (r : Option (Bor FuncType)) →
    slice_get calls i ≡ Some callee → IfSome r (λ t. IsTypeOf callee t.now) →
    IfSome r (λ t. (x : Callee) × (slice_get calls i ≡ Some x) × IsTypeOf x t.now)
some_callee calls i callee None e h = tt
some_callee calls i callee (Some t) e h = (callee, e, h)
