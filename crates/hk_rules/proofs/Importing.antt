-- The rows of the imports read so far.
use Rattle.std.proofs.Common.{ℕ, ◌≡◌, ◌<◌, ◌≤◌, ◌+◌, ◌++◌, ◌&&◌, suc, List, [], ◌∷◌, ◌∙◌, not, Bool, true, false}
use Rattle.std.proofs.Common.{Option, Some, refl, sym, ap, ap₂, length, get_or, drop, below_more, arith}
use Rattle.std.specs.Prelude.{codes, leb}
use Rattle.std.specs.Str.{bytes_eq}
use Rattle.wa_ops.specs.declared.call_no.CallNo.{CallNo}
use Rattle.wa_ops.specs.declared.modules.FuncType.{FuncType}
use Rattle.wa_ops.specs.declared.modules.Import.{Import}
use Rattle.wa_ops.specs.declared.modules.ImportItem.{ImportItem}
use Rattle.wa_ops.specs.declared.modules.ImportItem.TheVariants.{Function, Table, Memory, Global}
use Rattle.wa_ops.specs.Callees.{Callee}
use Rattle.wa_ops.specs.Contexts.{callee_of_row, called, calls_of}
use Rattle.wa_ops.specs.HookRules.{passes, is_row_item, is_api_import, import_rules, IsFirst}
use Rattle.wa_ops.specs.Rows.{row_named}
use Rattle.hk_rules.specs.Imports.{rows_named, found_rows, AreRows, IsRowOf}
use Rattle.wa_ops.specs.Contexts.{callees}
use Rattle.wa_ops.specs.declared.rule_fault.RuleFault.TheVariants as fault
use Rattle.hk_rules.proofs.Least.{passes_at, passes_past, item_found}
use Rattle.std.proofs.Math.Seq.{drop-cons}
use Rattle.std.proofs.Math.ListN.{drop_of_length-le}
use Rattle.std.proofs.lemmas.Option.{slice_get_read}
use Rattle.std.proofs.lemmas.Bool.{leb-true, leb-false}

pub record Imported (types : List FuncType) (imports : List Import) (index : ℕ) (rows : List CallNo) : Type 0 where
  pub kept : (j : ℕ) → j < index → passes (λ import. not (is_api_import types import)) imports j ≡ false
  pub named : found_rows rows ++ rows_named (drop index imports) ≡ rows_named imports

pub none_imported : (types : List FuncType) (imports : List Import) → Imported types imports 0 []
none_imported types imports = record { kept = λ j h. absurd (omega (arith, h)); named = refl }

-- an API call is a function, and its callee is that of its row
pub called_row : (types : List FuncType) (row : Option ℕ) (item : ImportItem) (import : Import) (more : List Callee)
    → is_row_item types row item ≡ true → called item import more ≡ callee_of_row (row_named import.name) ∷ more
called_row types row (Function index) import more is = refl
called_row types row (Table limits) import more is = absurd (cc is)
called_row types row (Memory limits) import more is = absurd (cc is)
called_row types row (Global kind mutable) import more is = absurd (cc is)

pub both_true : (a b : Bool) → not (a && b) ≡ false → b ≡ true
both_true true true e = refl
both_true true false e = absurd (cc e)
both_true false b e = absurd (cc e)

pub calls_of_rows : (types : List FuncType) (imports : List Import) (rows : List CallNo)
    → ((j : ℕ) → passes (λ import. not (is_api_import types import)) imports j ≡ false) →
    found_rows rows ≡ rows_named imports
    → calls_of imports ≡ callees rows
calls_of_rows types [] [] kept named = refl
calls_of_rows types [] (row ∷ rows) kept named = absurd (cc named)
calls_of_rows types (import ∷ imports) [] kept named = absurd (cc named)
calls_of_rows types (import ∷ imports) (row ∷ rows) kept named =
    called_row types (row_named import.name) import.item import (calls_of imports)
    (both_true (bytes_eq import.module (codes "env")) (is_row_item types (row_named import.name) import.item) (kept 0))
    ∙ ap₂ (λ r more. callee_of_row r ∷ more) (sym (heads named))
    (calls_of_rows types imports rows (λ j. kept (suc j)) (tails named))
  where
    heads : Some row.0 ∷ found_rows rows ≡ row_named import.name ∷ rows_named imports →
        Some row.0 ≡ row_named import.name
    heads e = cc e

    tails : Some row.0 ∷ found_rows rows ≡ row_named import.name ∷ rows_named imports →
        found_rows rows ≡ rows_named imports
    tails e = cc e

pub push_found : (rows : List CallNo) (row : CallNo) (more : List (Option ℕ)) →
    found_rows (rows ++ row ∷ []) ++ more ≡ found_rows rows ++ (Some row.0 ∷ more)
push_found [] row more = refl
push_found (first ∷ rows) row more = ap (λ xs. Some first.0 ∷ xs) (push_found rows row more)

pub next_import : (imports : List Import) (index : ℕ) (import : Import) → index < length imports →
    import ≡ get_or imports index import
    → drop index imports ≡ import ∷ drop (index + 1) imports
next_import imports index import less is =
    let e : suc index ≡ index + 1 = omega arith in
    drop-cons imports index import less ∙ ap₂ (λ x n. x ∷ drop n imports) (sym is) e

pub import_next : (types : List FuncType) (imports : List Import) (index : ℕ) (rows : List CallNo) (import : Import)
    (row : CallNo)
    → index < length imports → import ≡ get_or imports index import → IsRowOf types import row
    → Imported types imports index rows → Imported types imports (index + 1) (rows ++ row ∷ [])
import_next types imports index rows import row less is found before = record {
  kept = below_more (λ j. passes (λ import. not (is_api_import types import)) imports j ≡ false) index before.kept
      (passes_at (λ import. not (is_api_import types import)) imports index import
      (slice_get_read imports (length imports) index import refl less is)
      ∙ ap not found.call);
  named = push_found rows row (rows_named (drop (index + 1) imports))
      ∙ ap (λ o. found_rows rows ++ (o ∷ rows_named (drop (index + 1) imports))) (sym found.named)
      ∙ ap (λ xs. found_rows rows ++ rows_named xs) (sym (next_import imports index import less is))
      ∙ before.named;
}

pub import_found : (types : List FuncType) (imports : List Import) (index : ℕ) (import : Import)
    → index < length imports → import ≡ get_or imports index import → is_api_import types import ≡ false
    → ((j : ℕ) → j < index → passes (λ import. not (is_api_import types import)) imports j ≡ false)
    → IsFirst (import_rules types imports) (fault.BadImport index)
import_found types imports index import less is other before =
    item_found fault.BadImport (passes (λ import. not (is_api_import types import)) imports) index
    (passes_at (λ import. not (is_api_import types import)) imports index import
    (slice_get_read imports (length imports) index import refl less is)
    ∙ ap not other)
    before

pub nothing_behind : (xs : List (Option ℕ)) → xs ++ [] ≡ xs
nothing_behind [] = refl
nothing_behind (x ∷ xs) = ap (λ ys. x ∷ ys) (nothing_behind xs)

pub imported_all : (types : List FuncType) (imports : List Import) (index : ℕ) (rows : List CallNo)
    → length imports ≤ index → Imported types imports index rows → AreRows types imports rows
imported_all types imports index rows past before = record {
  kept = (λ i at. none i, tt);
  named = named;
  calls = calls_of_rows types imports rows none named;
}
  where
    none : (i : ℕ) → passes (λ import. not (is_api_import types import)) imports i ≡ false
    none i = test (leb (length imports) i) refl
      where
        test : (b : Bool) → leb (length imports) i ≡ b →
            passes (λ import. not (is_api_import types import)) imports i ≡ false
        test true e = passes_past (λ import. not (is_api_import types import)) imports i (leb-true _ _ e)
        test false e = let h : i < length imports = leb-false _ _ e in before.kept i (omega (arith, h, past))

    named : found_rows rows ≡ rows_named imports
    named =
        sym (nothing_behind (found_rows rows))
        ∙ ap (λ xs. found_rows rows ++ rows_named xs) (sym (drop_of_length-le imports past))
        ∙ before.named
