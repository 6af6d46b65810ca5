-- What the rules say of imports and exports.
use Rattle.std.proofs.Common.{ℕ, ◌≡◌, ◌+◌, ◌-◌, ◌<◌, ◌≤◌, ◌==◌, ◌&&◌, ◌||◌, inl, inr, suc, zero, List, [], ◌∷◌, ◌∙◌}
use Rattle.std.proofs.Common.{not, Bool, true, false, Option, Some, None, refl, sym, ap, ap₂, subst, length, reverse}
use Rattle.std.proofs.Common.{arith}
use Rattle.std.proofs.lemmas.Bool.{and_parts, or_left as or_true_left, or_right as or_true_right}
use Rattle.std.specs.Prelude.{slice_get, find, if◌then◌else◌, option_map, codes, nat_le}
use Rattle.std.specs.List.{list_any}
use Rattle.std.specs.Option.{option_map_or}
use Rattle.std.specs.Str.{bytes_eq}
use Rattle.std.proofs.lemmas.Option.{slice_get_within}
use Rattle.wa_ops.specs.declared.modules.FuncType.{FuncType}
use Rattle.wa_ops.specs.declared.modules.Import.{Import}
use Rattle.wa_ops.specs.declared.modules.ImportItem.{ImportItem}
use Rattle.wa_ops.specs.declared.modules.ImportItem.TheVariants.{Function, Table, Memory, Global}
use Rattle.wa_ops.specs.declared.modules.Module.{Module}
use Rattle.wa_ops.specs.declared.modules.ModuleExport.{ModuleExport}
use Rattle.wa_ops.specs.declared.op.ValueType.{ValueType}
use Rattle.wa_ops.specs.declared.op.ValueType.TheVariants.{I32, I64}
use Rattle.wa_ops.specs.Callees.{takes, gives}
use Rattle.wa_ops.specs.Contexts.{calls_of, callee_of_row, first_of, function_type, parameters_of, result_of}
use Rattle.wa_ops.specs.HookRules.{are_types, count_of_kind, has_repeats, is_api_import, is_bad_export, is_cbak}
use Rattle.wa_ops.specs.HookRules.{is_entry, is_function_type, is_hook, is_row_item, is_row_type, IsRuled, passes}
use Rattle.wa_ops.proofs.RowLemmas.{row_gives, row_takes}
use Rattle.wa_ops.proofs.RulesByName.{rules_by_name}
use Rattle.wa_ops.proofs.Types.{same_type}
use Rattle.wa_ops.specs.Rows.{row_named, row_parameters, row_answer}
use Rattle.wa_ops.specs.Typing.{and_then, is_same_type}
use Rattle.wa_validate.specs.Needs.{AllRowTypes, HasRowType, IsTypeOf}
use Rattle.wa_ops.specs.Functions.{entry_of}
use Rattle.hk_rules.proofs.Importing.{both_true}
use Rattle.hk_bound.specs.Laws.{EntryTypes, IsEntryType}

-- ---- imports

types_same : (xs ys : List ValueType) → are_types xs ys ≡ true → xs ≡ ys
types_same [] [] e = refl
types_same [] (y ∷ ys) e = absurd (cc e)
types_same (x ∷ xs) [] e = absurd (cc e)
types_same (x ∷ xs) (y ∷ ys) e =
    let both = and_parts (is_same_type x y) (are_types xs ys) e in
    ap₂ (λ z zs. z ∷ zs) (same_type x y both.0) (types_same xs ys both.1)

passed : {A : Type 0} (test : A → Bool) (xs : List A) (i : ℕ) → passes test xs i ≡ true →
    (x : A) × (slice_get xs i ≡ Some x) × (test x ≡ true)
passed {A = A} test xs i e = at (slice_get xs i) refl e
  where
    at : (o : Option A) → slice_get xs i ≡ o → option_map_or test o false ≡ true →
        (x : A) × (slice_get xs i ≡ Some x) × (test x ≡ true)
    at None h e = absurd (cc e)
    at (Some x) h e = (x, h, e)

abbrev pub HasTypeOf : List FuncType → ℕ → Option ℕ → Type 0
HasTypeOf types index row = (t : FuncType) × (slice_get types index ≡ Some t) × IsTypeOf (callee_of_row row) t

listed : (types : List FuncType) (index : ℕ) (row : Option ℕ) → is_row_type types index row ≡ true →
    HasTypeOf types index row
listed types index None e = absurd (cc e)
listed types index (Some row) e =
    let p = passed (is_function_type (row_parameters row) (row_answer row)) types index e in
    let t : FuncType = p.0 in
    let both =
    and_parts (are_types t.parameters (row_parameters row)) (are_types t.results (row_answer row ∷ [])) p.2 in
    let takes_these : t.parameters ≡ row_parameters row = types_same t.parameters (row_parameters row) both.0 in
    let gives_this : t.results ≡ row_answer row ∷ [] = types_same t.results (row_answer row ∷ []) both.1 in (
      t,
      p.1,
      record {
        parameters = ap reverse takes_these ∙ sym (row_takes row);
        results = gives_this ∙ ap (λ a. a ∷ []) (sym (row_gives row));
      },
    )

row_type : (types : List FuncType) (name : List ℕ) (item : ImportItem) →
    is_row_item types (row_named name) item ≡ true → HasRowType types name item
row_type types name (Function index) e = listed types index (row_named name) e
row_type types name (Table limits) e = absurd (cc e)
row_type types name (Memory limits) e = absurd (cc e)
row_type types name (Global kind mutable) e = absurd (cc e)

pub row_types : (types : List FuncType) (imports : List Import) →
    ((j : ℕ) → passes (λ import. not (is_api_import types import)) imports j ≡ false) → AllRowTypes types imports
row_types types [] kept = tt
row_types types (import ∷ imports) kept = (
  row_type types import.name import.item
      (both_true (bytes_eq import.module (codes "env")) (is_row_item types (row_named import.name) import.item)
      (kept 0)),
  row_types types imports (λ j. kept (suc j)),
)

pub ruled_imports : (m : Module) → IsRuled m → AllRowTypes m.types m.imports
ruled_imports m kept = row_types m.types m.imports (rules_by_name m kept).imports

-- ---- exports

or_left : (a b : Bool) → (a || b) ≡ false → a ≡ false
or_left false b e = refl
or_left true b e = absurd (cc e)

or_right : (a b : Bool) → (a || b) ≡ false → b ≡ false
or_right false b e = e
or_right true b e = absurd (cc e)

not_false : (a : Bool) → not a ≡ false → a ≡ true
not_false true e = refl
not_false false e = absurd (cc e)

-- an export of this name that breaks no rule
pub record IsNamed (is_named bad : ModuleExport → Bool) (number : ModuleExport → ℕ) (func : ℕ) : Type 0 where
  pub found : ModuleExport
  pub named : is_named found ≡ true
  pub fine : bad found ≡ false
  pub is : number found ≡ func

named_in : (is_named bad : ModuleExport → Bool) (number : ModuleExport → ℕ) (exports : List ModuleExport) (func : ℕ) →
    list_any bad exports ≡ false
    → option_map number (find is_named exports) ≡ Some func → IsNamed is_named bad number func
named_in is_named bad number [] func kept e = absurd (cc e)
named_in is_named bad number (x ∷ exports) func kept e =
    at (is_named x) refl
    (λ h. named_in is_named bad number exports func (or_right (bad x) (list_any bad exports) kept) h) e
  where
    at : (b : Bool) → is_named x ≡ b →
        (option_map number (find is_named exports) ≡ Some func → IsNamed is_named bad number func)
        → option_map number (if b then Some x else find is_named exports) ≡ Some func → IsNamed is_named bad number func
    at true named more h = record {
      found = x;
      named = named;
      fine = or_left (bad x) (list_any bad exports) kept;
      is = cc h;
    }
    at false named more h = more h

typed_within : (functions : List ℕ) (i : ℕ) (types : ℕ → Option FuncType) (test : FuncType → Bool) →
    option_map_or test (and_then (slice_get functions i) types) false ≡ true → i < length functions
typed_within functions i types test e = at (slice_get functions i) refl e
  where
    at : (o : Option ℕ) → slice_get functions i ≡ o → option_map_or test (and_then o types) false ≡ true →
        i < length functions
    at None h e = absurd (cc e)
    at (Some x) h e = slice_get_within functions i x h

entry_by : (m : Module) (i : ℕ) → option_map_or (is_function_type (I32 ∷ []) I64) (function_type m i) false ≡ true →
    IsEntryType m i
entry_by m i e = at (function_type m i) refl e
  where
    at : (o : Option FuncType) → function_type m i ≡ o →
        option_map_or (is_function_type (I32 ∷ []) I64) o false ≡ true → IsEntryType m i
    at None h k = absurd (cc k)
    at (Some t) h k = record {
      within = typed_within m.functions i (λ index. slice_get m.types index) (is_function_type (I32 ∷ []) I64) e;
      parameters =
          ap parameters_of h
          ∙ types_same t.parameters (I32 ∷ [])
          (and_parts (are_types t.parameters (I32 ∷ [])) (are_types t.results (I64 ∷ [])) k).0;
      result =
          ap result_of h
          ∙ ap first_of (types_same t.results (I64 ∷ [])
          (and_parts (are_types t.parameters (I32 ∷ [])) (are_types t.results (I64 ∷ [])) k).1);
    }

entry_fine : (imported : ℕ) (m : Module) (x : ModuleExport) → (is_hook x || is_cbak x) ≡ true →
    is_bad_export imported m x ≡ false → IsEntryType m (x.index - imported)
entry_fine imported m x named fine =
    let arms : (if is_hook x || is_cbak x then not (is_entry imported m x) else x.kind == 0) ≡ false =
    or_right (nat_le (count_of_kind imported m x.kind) x.index)
    (if is_hook x || is_cbak x then not (is_entry imported m x) else x.kind == 0) fine in
    let is : is_entry imported m x ≡ true =
    not_false (is_entry imported m x)
    (ap (λ b. if b then not (is_entry imported m x) else x.kind == 0) (sym named) ∙ arms) in
    entry_by m (x.index - imported) (and_parts (nat_le imported x.index)
    (option_map_or (is_function_type (I32 ∷ []) I64) (function_type m (x.index - imported)) false)
    (and_parts (x.kind == 0)
    (nat_le imported x.index &&
    option_map_or (is_function_type (I32 ∷ []) I64) (function_type m (x.index - imported)) false) is).1).1

no_bad : (m : Module) → IsRuled m → list_any (is_bad_export (length (calls_of m.imports)) m) m.exports ≡ false
no_bad m kept =
    or_right (not (list_any is_hook m.exports)) (list_any (is_bad_export (length (calls_of m.imports)) m) m.exports)
    (or_right (has_repeats m.exports)
    (not (list_any is_hook m.exports) || list_any (is_bad_export (length (calls_of m.imports)) m) m.exports)
    (rules_by_name m kept).exports)

entry_named : (m : Module) (is_named : ModuleExport → Bool) (func : ℕ) →
    ((x : ModuleExport) → is_named x ≡ true → (is_hook x || is_cbak x) ≡ true) → IsRuled m
    → entry_of (length (calls_of m.imports)) is_named m.exports ≡ Some func → IsEntryType m func
entry_named m is_named func either kept e =
    let x =
    named_in is_named (is_bad_export (length (calls_of m.imports)) m) (λ x. x.index - length (calls_of m.imports))
    m.exports func (no_bad m kept) e in
    subst (IsEntryType m) x.is (entry_fine (length (calls_of m.imports)) m x.found (either x.found x.named) x.fine)

pub entry_types : EntryTypes
entry_types m func kept (inl e) = entry_named m is_hook func (λ x h. or_true_left (is_hook x) (is_cbak x) h) kept e
entry_types m func kept (inr e) = entry_named m is_cbak func (λ x h. or_true_right (is_hook x) (is_cbak x) h) kept e

pub hook_within : (m : Module) (func : ℕ) → IsRuled m →
    entry_of (length (calls_of m.imports)) is_hook m.exports ≡ Some func → func < length m.functions
hook_within m func kept e = (entry_types m func kept (inl e)).within

pub cbak_within : (m : Module) (func : ℕ) → IsRuled m →
    entry_of (length (calls_of m.imports)) is_cbak m.exports ≡ Some func → func < length m.functions
cbak_within m func kept e = (entry_types m func kept (inr e)).within
