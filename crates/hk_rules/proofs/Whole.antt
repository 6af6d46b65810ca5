-- All rules, put together from the calls that check some of them.
use Rattle.std.proofs.Common.{ℕ, ◌≡◌, suc, List, [], ◌∷◌, ◌++◌, ◌∙◌, true, Option, Some, refl, sym, ap, ap₂, subst}
use Rattle.std.proofs.Common.{length}
use Rattle.std.specs.List.{list_any}
use Rattle.wa_ops.specs.declared.call_no.CallNo.{CallNo}
use Rattle.wa_ops.specs.declared.modules.Import.{Import}
use Rattle.wa_ops.specs.declared.modules.Module.{Module}
use Rattle.wa_ops.specs.declared.rule_fault.RuleFault.{RuleFault}
use Rattle.wa_ops.specs.Callees.{Callee}
use Rattle.wa_ops.specs.Contexts.{calls_of}
use Rattle.wa_ops.specs.HookRules.{IsFirst, AreKept, IsRuled, float_rules, import_rules, other_rules, hook_rules}
use Rattle.wa_ops.specs.HookRules.{has_repeats, is_hook, is_bad_export}
use Rattle.hk_rules.specs.Imports.{rows_named, found_rows, AreRows}
use Rattle.wa_ops.specs.Contexts.{callees}
use Rattle.hk_rules.proofs.Entries.{one_hook}
use Rattle.hk_rules.proofs.Least.{first_front, first_behind, kept_both}
use Rattle.wa_ops.proofs.Types.{length-callees}

-- as many rows as imports
pub as_many : (imports : List Import) (rows : List CallNo) → found_rows rows ≡ rows_named imports →
    length rows ≡ length imports
as_many [] [] e = refl
as_many [] (row ∷ rows) e = absurd (cc e)
as_many (import ∷ imports) [] e = absurd (cc e)
as_many (import ∷ imports) (row ∷ rows) e =
    ap suc (as_many imports rows (rest (Some row.0) (found_rows rows) _ (rows_named imports) e))
  where
    rest : (x : Option ℕ) (xs : List (Option ℕ)) (y : Option ℕ) (ys : List (Option ℕ)) → x ∷ xs ≡ y ∷ ys → xs ≡ ys
    rest x xs y ys e = cc e

pub count_of_rows : (m : Module) (rows : List CallNo) → AreRows m.types m.imports rows →
    length rows ≡ length (calls_of m.imports)
count_of_rows m rows are = sym (length-callees rows) ∙ ap length (sym are.calls)

-- the rules of the rows are those of the imports
rules_of_rows : (m : Module) (rows : List CallNo) → AreRows m.types m.imports rows
    → other_rules (length rows) (callees rows) m ≡ other_rules (length (calls_of m.imports)) (calls_of m.imports) m
rules_of_rows m rows are = ap₂ (λ n cs. other_rules n cs m) (count_of_rows m rows are) (sym are.calls)

pub first_float : (m : Module) (found : RuleFault) → IsFirst (float_rules m) found → IsFirst (hook_rules m) found
first_float m found first =
    first_front (float_rules m)
    (import_rules m.types m.imports ++ other_rules (length (calls_of m.imports)) (calls_of m.imports) m) found first

pub first_import : (m : Module) (found : RuleFault) → AreKept (float_rules m) →
    IsFirst (import_rules m.types m.imports) found → IsFirst (hook_rules m) found
first_import m found floats first =
    first_behind (float_rules m)
    (import_rules m.types m.imports ++ other_rules (length (calls_of m.imports)) (calls_of m.imports) m) found floats
    (first_front (import_rules m.types m.imports) (other_rules (length (calls_of m.imports)) (calls_of m.imports) m)
    found first)

pub first_other : (m : Module) (rows : List CallNo) (found : RuleFault) → AreKept (float_rules m) →
    AreRows m.types m.imports rows
    → IsFirst (other_rules (length rows) (callees rows) m) found → IsFirst (hook_rules m) found
first_other m rows found floats are first =
    first_behind (float_rules m)
    (import_rules m.types m.imports ++ other_rules (length (calls_of m.imports)) (calls_of m.imports) m) found floats
    (first_behind (import_rules m.types m.imports) (other_rules (length (calls_of m.imports)) (calls_of m.imports) m)
    found are.kept
    (subst (λ rules. IsFirst rules found) (rules_of_rows m rows are) first))

pub all_kept : (m : Module) (rows : List CallNo) → AreKept (float_rules m) → AreRows m.types m.imports rows
    → AreKept (other_rules (length rows) (callees rows) m) → IsRuled m
all_kept m rows floats are others =
    kept_both (float_rules m)
    (import_rules m.types m.imports ++ other_rules (length (calls_of m.imports)) (calls_of m.imports) m) floats
    (kept_both (import_rules m.types m.imports) (other_rules (length (calls_of m.imports)) (calls_of m.imports) m)
    are.kept
    (subst AreKept (rules_of_rows m rows are) others))

-- the export `hook` is there
pub hook_kept : (m : Module) (imported : ℕ) (calls : List Callee) → AreKept (other_rules imported calls m) →
    list_any is_hook m.exports ≡ true
hook_kept m imported calls kept =
    one_hook (has_repeats m.exports) (list_any is_hook m.exports) (list_any (is_bad_export imported m) m.exports)
    (kept.1.1.1.1.1.0 0 0)
