-- What the rules say of an exported function, and of the rows of calls.
use Rattle.std.proofs.Common.{ℕ, ◌≡◌, ◌≤◌, List, [], ◌∷◌, ◌∙◌, Option, None, Some, IsTrue, true, inl, inr, refl, sym}
use Rattle.std.proofs.Common.{ap, subst, length}
use Rattle.std.specs.Prelude.{is_some}
use Rattle.hk_bound.specs.Bounds.{bound_of, export_bound}
use Rattle.hk_bound.specs.Checks.{Held, Holds, entry_in}
use Rattle.wa_exec.specs.Runs.{named}
use Rattle.hk_bound.specs.Entries.{AreEntry, IsEntry}
use Rattle.hk_bound.specs.Laws.{IsEntryType}
use Rattle.hk_bound.specs.declared.entries.Entry.{Entry}
use Rattle.hk_bound.specs.declared.fault.Export.{Export}
use Rattle.hk_bound.specs.declared.fault.Export.TheVariants as «export»
use Rattle.hk_bound.proofs.Ruled.{entry_types}
use Rattle.hk_rules.specs.Imports.{found_rows, rows_named}
use Rattle.hk_rules.proofs.Importing.{calls_of_rows}
use Rattle.wa_ops.proofs.RowLemmas.{row_below}
use Rattle.wa_ops.proofs.RulesByName.{rules_by_name}
use Rattle.wa_ops.specs.Contexts.{calls_of, callees}
use Rattle.wa_ops.specs.Functions.{entry_of}
use Rattle.wa_ops.specs.HookRules.{IsRuled, is_cbak}
use Rattle.wa_ops.specs.Rows.{row_named}
use Rattle.wa_ops.specs.Typing.{and_then}
use Rattle.wa_ops.specs.declared.call_no.CallNo.{CallNo}
use Rattle.wa_ops.specs.declared.modules.Import.{Import}
use Rattle.wa_ops.specs.declared.modules.Module.{Module}
use Rattle.wa_run.specs.Calls.{AreRows}

pub entry_typed : (m : Module) (which : Export) (func : ℕ) → IsRuled m →
    entry_of (length (calls_of m.imports)) (named which) m.exports ≡ Some func → IsEntryType m func
entry_typed m «export».Hook func kept e = entry_types m func kept (inl e)
entry_typed m «export».Cbak func kept e = entry_types m func kept (inr e)

-- what was worked out for an export is so
pub entry_held : (version : ℕ) (code : List ℕ) (held : Held) (which : Export) (entry : Entry) →
    Holds version code held → entry_in which held ≡ Some entry → IsEntry held.wasm (named which) entry
entry_held version code held «export».Hook entry h e =
    let same : held.hook_entry ≡ entry = cc e in subst (IsEntry held.wasm (named «export».Hook)) same h.hook_entry
entry_held version code held «export».Cbak entry h e = subst (AreEntry held.wasm is_cbak) e h.cbak_entry

-- an export that has a bound has an entry
pub entry_there : (version : ℕ) (code : List ℕ) (held : Held) (which : Export) (n : ℕ) → Holds version code held →
    export_bound version (named which) held.wasm ≡ Some n → IsTrue (is_some (entry_in which held))
entry_there version code held «export».Hook n h e = refl
entry_there version code held «export».Cbak n h e = at held.cbak_entry refl h.cbak_entry
  where
    at : (o : Option Entry) → held.cbak_entry ≡ o → AreEntry held.wasm is_cbak o → is_some held.cbak_entry ≡ true
    at None s none =
        let nothing : export_bound version is_cbak held.wasm ≡ None =
        ap (λ found. and_then found (bound_of version held.wasm)) none in
        absurd (let p : None ≡ Some n = sym nothing ∙ e in cc)
    at (Some entry) s kept = ap (λ (x : Option Entry). is_some x) s

-- ---- rows of calls

pub calls_are : (m : Module) (rows : List CallNo) → IsRuled m → found_rows rows ≡ rows_named m.imports →
    calls_of m.imports ≡ callees rows
calls_are m rows kept named_so = calls_of_rows m.types m.imports rows (rules_by_name m kept).imports named_so

pub are_rows : (rows : List CallNo) (imports : List Import) → found_rows rows ≡ rows_named imports → AreRows rows
are_rows [] imports e = tt
are_rows (row ∷ rows) [] e = absurd (cc e)
are_rows (row ∷ rows) (import ∷ imports) e =
    (row_below import.name row.0 (sym (heads e)), are_rows rows imports (tails e))
  where
    heads : Some row.0 ∷ found_rows rows ≡ row_named import.name ∷ rows_named imports →
        Some row.0 ≡ row_named import.name
    heads h = cc h

    tails : Some row.0 ∷ found_rows rows ≡ row_named import.name ∷ rows_named imports →
        found_rows rows ≡ rows_named imports
    tails h = cc h
