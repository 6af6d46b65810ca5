-- Of each accepted code all is there that `check` keeps.
use Rattle.std.proofs.Common.{ℕ, ◌≡◌, ◌<◌, ◌≤◌, ◌^◌, ◌∙◌, inl, inr, suc, List, [], ◌∷◌, ◌++◌, Bool, true, false, not}
use Rattle.std.proofs.Common.{Option, Some, None, refl, sym, ap, ap₂, subst, length, length-append, arith}
use Rattle.std.specs.Prelude.{◌==◌, if◌then◌else◌, codes, map, option_map, slice_get, unwrap_or, MatchOption}
use Rattle.std.specs.List.{list_any, range_with_len}
use Rattle.std.specs.Str.{bytes_eq}
use Rattle.std.proofs.lemmas.List.FromFn.{get_or-map-range_with_len, length-map-range_with_len}
use Rattle.std.proofs.lemmas.Option.{same_Some, slice_get-get_or, slice_get_cases}
use Rattle.wa_ops.specs.Bound.{bound_at}
use Rattle.wa_ops.specs.Contexts.{calls_of, context_of, locals_of}
use Rattle.wa_ops.specs.Ends.{ends_of}
use Rattle.wa_ops.specs.Functions.{body_of, entry_of}
use Rattle.wa_ops.specs.HookRules.{IsRuled, has_repeats, is_api_import, is_bad_export, is_cbak, is_hook, is_row_item}
use Rattle.wa_ops.specs.HookRules.{passes}
use Rattle.wa_ops.specs.Opcodes.{form_at}
use Rattle.wa_ops.specs.Rows.{row_named}
use Rattle.wa_ops.specs.Sequences.{Sequence, tree_of}
use Rattle.wa_ops.specs.Soundness.{AreSound, Each, IsCounted, IsSound, IsSoundBody, IsSoundCode, IsSoundElement}
use Rattle.wa_ops.specs.Soundness.{IsSoundExport, IsSoundImport, IsSoundOp, IsSoundSegment, IsSoundType}
use Rattle.wa_ops.specs.Typing.{and_then}
use Rattle.wa_ops.specs.declared.call_no.CallNo.{CallNo}
use Rattle.wa_ops.specs.declared.modules.Code.{Code}
use Rattle.wa_ops.specs.declared.modules.FuncType.{FuncType}
use Rattle.wa_ops.specs.declared.modules.Import.{Import}
use Rattle.wa_ops.specs.declared.modules.ImportItem.{ImportItem}
use Rattle.wa_ops.specs.declared.modules.ImportItem.TheVariants.{Function, Table, Memory, Global}
use Rattle.wa_ops.specs.declared.modules.Module.{Module}
use Rattle.wa_ops.specs.declared.modules.ModuleExport.{ModuleExport}
use Rattle.wa_ops.specs.declared.op.Op.{Op}
use Rattle.wa_ops.specs.declared.op.Op.TheVariants.{BrTable, Load, Store, Number, Float}
use Rattle.wa_ops.proofs.Parsing.{found_tree}
use Rattle.wa_ops.proofs.RulesByName.{rules_by_name}
use Rattle.wa_decode.specs.Grammar.{IsUnsigned, SpellsAll, SpellsBytes, SpellsVector, Then}
use Rattle.wa_decode.specs.Instructions.{SpellsExpression, SpellsOp, SpellsValueType}
use Rattle.wa_decode.specs.Modules.{Part, Section, Spells, SpellsCode, SpellsElement, SpellsExport, SpellsFuncType}
use Rattle.wa_decode.specs.Modules.{SpellsGlobal, SpellsGlobalType, SpellsImport, SpellsLimits}
use Rattle.wa_decode.specs.Modules.{SpellsLocals, SpellsRange, SpellsSection, SpellsSegment, SpellsTable, header}
use Rattle.wa_decode.specs.Modules.{body_of as section_body}
use Rattle.wa_decode.proofs.ExpressionReaders.{items_long, op_some}
use Rattle.wa_decode.proofs.ModuleReaders.{no_section}
use Rattle.wa_decode.proofs.Soundness.{float_sound}
use Rattle.wa_validate.specs.Depths.{body_depth, surface}
use Rattle.wa_validate.specs.Untyped.{HasDepths}
use Rattle.wa_validate.specs.declared.depth.Depth.{Depth}
use Rattle.wa_validate.proofs.Judging.{function_within}
use Rattle.hk_rules.specs.Guards.{AreGuards}
use Rattle.hk_rules.specs.Imports.{found_rows, rows_named}
use Rattle.hk_rules.specs.Loops.{body_guards, code_guards}
use Rattle.hk_rules.specs.declared.guards.FunctionGuards.{FunctionGuards}
use Rattle.hk_rules.specs.declared.guards.Guards.{Guards}
use Rattle.hk_rules.proofs.Entries.{entry_kept, one_hook}
use Rattle.hk_rules.proofs.Importing.{both_true}
use Rattle.hk_bound.specs.Bounds.{bound_of, export_bound}
use Rattle.hk_bound.specs.Checks.{Held, Holds, IsHook, hash_of}
use Rattle.hk_bound.specs.Entries.{AreEntry, IsEntry}
use Rattle.hk_bound.specs.declared.entries.Entry.{Entry}
use Rattle.hk_bound.proofs.Keeping.{body_code}
use Rattle.hk_bound.proofs.Ruled.{cbak_within, hook_within}

-- ---- what few bytes spell is sound, whatever their values are

front_counted : (whole front rest : List ℕ) → IsCounted whole → whole ≡ front ++ rest → IsCounted front
front_counted whole front rest few e =
    let same : length whole ≡ length (front ++ rest) = ap length e in
    let most : length whole < 2 ^ 32 = few in omega (arith, same, most, length-append front rest)

rest_counted : (whole front rest : List ℕ) → IsCounted whole → whole ≡ front ++ rest → IsCounted rest
rest_counted whole front rest few e =
    let same : length whole ≡ length (front ++ rest) = ap length e in
    let most : length whole < 2 ^ 32 = few in omega (arith, same, most, length-append front rest)

-- two parts take a byte where the first does
then_some : (First Second : List ℕ → Type 0) → (First [] → ⊥) → Then First Second [] → ⊥
then_some First Second some h = at h.0 h.2 h.4
  where
    at : (front : List ℕ) → First front → [] ≡ front ++ h.1 → ⊥
    at [] first e = some first
    at (x ∷ xs) first e = absurd (cc e)

text_some : (text : List ℕ) → SpellsBytes text [] → ⊥
text_some text h = then_some (IsUnsigned 32 (length text)) (λ rest. rest ≡ text) (λ none. none) h

text_counted : (text bytes : List ℕ) → IsCounted bytes → SpellsBytes text bytes → IsCounted text
text_counted text bytes few h = subst IsCounted h.3 (rest_counted bytes h.0 h.1 few h.4)

-- an item takes a byte at least, and one that few bytes spell is sound
record Items {A : Type 0} (Spelling : A → List ℕ → Type 0) (Holds : A → Type 0) : Type 0 where
  pub some : (x : A) → Spelling x [] → ⊥
  pub one : (x : A) (bytes : List ℕ) → IsCounted bytes → Spelling x bytes → Holds x

each_sound : {A : Type 0} {Spelling : A → List ℕ → Type 0} {Holds : A → Type 0} → Items Spelling Holds →
    (xs : List A) (bytes : List ℕ) → IsCounted bytes → SpellsAll Spelling xs bytes → Each Holds xs
each_sound items [] bytes few h = tt
each_sound items (x ∷ xs) bytes few h = (
  items.one x h.0 (front_counted bytes h.0 h.1 few h.4) h.2,
  each_sound items xs h.1 (rest_counted bytes h.0 h.1 few h.4) h.3,
)

vector_sound : {A : Type 0} {Spelling : A → List ℕ → Type 0} {Holds : A → Type 0} → Items Spelling Holds →
    (xs : List A) (bytes : List ℕ) → IsCounted bytes → SpellsVector Spelling xs bytes → AreSound Holds xs
vector_sound {Spelling = Spelling} items xs bytes few h =
    let rest : length h.1 < 2 ^ 32 = rest_counted bytes h.0 h.1 few h.4 in
    record {
      counted = omega (arith, rest, items_long Spelling items.some xs h.1 h.3);
      each = each_sound items xs h.1 rest h.3;
    }

-- ---- of code

index_items : Items (IsUnsigned 32) (λ n. Unit {0})
index_items = record { some = λ n none. none; one = λ n bytes few h. tt }

op_sound : (op : Op) (bytes : List ℕ) → IsCounted bytes → SpellsOp op bytes → IsSoundOp op
op_sound (BrTable labels last) bytes few h =
    let behind = rest_counted bytes (0x0E ∷ []) h.0 few h.2 in
    (vector_sound index_items labels h.1.0 (front_counted h.0 h.1.0 h.1.1 behind h.1.4) h.1.2).counted
op_sound (Load opcode align offset) bytes few h = h.0
op_sound (Store opcode align offset) bytes few h = h.0
op_sound (Number opcode) bytes few h = h.0
op_sound (Float opcode) bytes few h = float_sound (form_at opcode) opcode bytes refl h
op_sound op bytes few h = tt

op_items : Items SpellsOp IsSoundOp
op_items = record { some = op_some; one = op_sound }

code_sound : (ops : List Op) (bytes : List ℕ) → IsCounted bytes → SpellsExpression ops bytes → IsSoundCode ops
code_sound ops bytes few h =
    let most : length bytes < 2 ^ 32 = few in
    record {
      nested = h.0;
      sound = record {
        counted = omega (arith, most, items_long SpellsOp op_some ops bytes h.1);
        each = each_sound op_items ops bytes few h.1;
      };
    }

-- ---- of each section

kind_items : Items SpellsValueType (λ kind. Unit {0})
kind_items = record { some = λ kind e. absurd (cc e); one = λ kind bytes few h. tt }

type_items : Items SpellsFuncType IsSoundType
type_items = record {
  some = λ t h. absurd (cc (h.2));
  one = λ t bytes few h.
      let behind = rest_counted bytes (0x60 ∷ []) h.0 few h.2 in
      record {
        parameters =
            (vector_sound kind_items t.parameters h.1.0 (front_counted h.0 h.1.0 h.1.1 behind h.1.4) h.1.2).counted;
        results = (vector_sound kind_items t.results h.1.1 (rest_counted h.0 h.1.0 h.1.1 behind h.1.4) h.1.3).counted;
      };
}

import_items : Items SpellsImport IsSoundImport
import_items = record {
  some = λ i h. then_some (SpellsBytes i.module) _ (text_some i.module) h;
  one = λ i bytes few h.
      let behind = rest_counted bytes h.0 h.1 few h.4 in
      record {
        from = text_counted i.module h.0 (front_counted bytes h.0 h.1 few h.4) h.2;
        name = text_counted i.name h.3.0 (front_counted h.1 h.3.0 h.3.1 behind h.3.4) h.3.2;
      };
}

table_items : Items SpellsTable (λ l. Unit {0})
table_items = record { some = λ l h. absurd (cc (h.2)); one = λ l bytes few h. tt }

range_some : (min : ℕ) (max : Option ℕ) → SpellsRange min max [] → ⊥
range_some min None h = absurd (cc (h.2))
range_some min (Some max) h = absurd (cc (h.2))

range_items : Items SpellsLimits (λ l. Unit {0})
range_items = record { some = λ l h. range_some l.min l.max h; one = λ l bytes few h. tt }

global_items : Items SpellsGlobal (λ g. AreSound IsSoundOp g.init)
global_items = record {
  some = λ g h. then_some (SpellsGlobalType g.kind g.mutable) _
      (λ first. then_some (SpellsValueType g.kind) _ (λ e. absurd (cc e)) first) h;
  one = λ g bytes few h. (code_sound g.init h.1 (rest_counted bytes h.0 h.1 few h.4) h.3).sound;
}

export_items : Items SpellsExport IsSoundExport
export_items = record {
  some = λ e h. then_some (SpellsBytes e.name) _ (text_some e.name) h;
  one = λ e bytes few h. record {
    name = text_counted e.name h.0 (front_counted bytes h.0 h.1 few h.4) h.2;
    kind = h.3.2.0;
  };
}

element_items : Items SpellsElement IsSoundElement
element_items = record {
  some = λ e h. then_some (IsUnsigned 32 e.table) _ (λ none. none) h;
  one = λ e bytes few h.
      let behind = rest_counted bytes h.0 h.1 few h.4 in
      record {
        offset = (code_sound e.offset h.3.0 (front_counted h.1 h.3.0 h.3.1 behind h.3.4) h.3.2).sound;
        functions =
            (vector_sound index_items e.functions h.3.1 (rest_counted h.1 h.3.0 h.3.1 behind h.3.4) h.3.3).counted;
      };
}

run_items : Items SpellsLocals (λ run. Unit {0})
run_items = record {
  some = λ run h. then_some (IsUnsigned 32 run.0) _ (λ none. none) h;
  one = λ run bytes few h. tt;
}

body_items : Items SpellsCode IsSoundBody
body_items = record {
  some = λ c h. text_some h.0 h.2;
  one = λ c bytes few h.
      let body = text_counted h.0 bytes few h.2 in
      record {
        locals = (vector_sound run_items c.locals h.1.0 (front_counted h.0 h.1.0 h.1.1 body h.1.4) h.1.2).counted;
        ops = code_sound c.ops h.1.1 (rest_counted h.0 h.1.0 h.1.1 body h.1.4) h.1.3;
      };
}

segment_items : Items SpellsSegment IsSoundSegment
segment_items = record {
  some = λ s h. then_some (IsUnsigned 32 s.memory) _ (λ none. none) h;
  one = λ s bytes few h.
      let behind = rest_counted bytes h.0 h.1 few h.4 in
      record {
        offset = (code_sound s.offset h.3.0 (front_counted h.1 h.3.0 h.3.1 behind h.3.4) h.3.2).sound;
        bytes = text_counted s.bytes h.3.1 (rest_counted h.1 h.3.0 h.3.1 behind h.3.4) h.3.3;
      };
}

section_items : Items SpellsSection (λ s. IsCounted s.body)
section_items = record {
  some = no_section;
  one = λ s bytes few h. text_counted s.body h.0 (rest_counted bytes (s.id ∷ []) h.0 few h.2) h.1;
}

-- a section that is there, or nothing
list_sound : {A : Type 0} {Spelling : A → List ℕ → Type 0} {Holds : A → Type 0} → Items Spelling Holds →
    (id : ℕ) (xs : List A) (ss : List Section) → Each (λ s. IsCounted s.body) ss →
    Part id (SpellsVector Spelling) [] xs ss → AreSound Holds xs
list_sound {Holds = Holds} items id xs [] few h =
    subst (AreSound Holds) (sym h) (record { counted = omega arith; each = tt })
list_sound {Spelling = Spelling} {Holds = Holds} items id xs (s ∷ ss) few h =
    at (s.id == id) h (list_sound items id xs ss few.1)
  where
    at : (b : Bool) → MatchOption (if b then Some s.body else section_body id ss) (xs ≡ [])
        (λ body. SpellsVector Spelling xs body) → (Part id (SpellsVector Spelling) [] xs ss → AreSound Holds xs) →
        AreSound Holds xs
    at true here later = vector_sound items xs s.body few.0 here
    at false here later = later here

few_sound : (m : Module) (bytes : List ℕ) → IsCounted bytes → Spells m bytes → IsSound m
few_sound m bytes few h =
    let bodies_few =
    each_sound section_items h.sections h.behind (rest_counted bytes header h.behind few h.whole) h.spelled in
    let p = h.parts in
    record {
      types = list_sound type_items 1 m.types h.sections bodies_few p.types;
      imports = list_sound import_items 2 m.imports h.sections bodies_few p.imports;
      functions = (list_sound index_items 3 m.functions h.sections bodies_few p.functions).counted;
      tables = (list_sound table_items 4 m.tables h.sections bodies_few p.tables).counted;
      memories = (list_sound range_items 5 m.memories h.sections bodies_few p.memories).counted;
      globals = list_sound global_items 6 m.globals h.sections bodies_few p.globals;
      exports = list_sound export_items 7 m.exports h.sections bodies_few p.exports;
      elements = list_sound element_items 9 m.elements h.sections bodies_few p.elements;
      codes = list_sound body_items 10 m.codes h.sections bodies_few p.codes;
      segments = list_sound segment_items 11 m.segments h.sections bodies_few p.segments;
      paired = p.paired;
    }

hook_sound : (version : ℕ) (code : List ℕ) (m : Module) → IsHook version code m → IsSound m
hook_sound version code m h =
    let short : length code ≤ 65535 = h.spelled.short in
    let few : length code < 2 ^ 32 = omega (arith, short) in few_sound m code few h.spelled.spelled.spelled

-- ---- bodies

-- the defined function that is exported so
abbrev exported : Module → (ModuleExport → Bool) → Option ℕ
exported m is_named = entry_of (length (calls_of m.imports)) is_named m.exports

-- a function that the module defines has a body
body_found : (m : Module) (func : ℕ) → IsSound m → func < length m.codes →
    (body : Sequence) × (body_of m func ≡ Some body)
body_found m func sound within =
    elim (slice_get_cases m.codes func).1 [
      | inl found ↦ let nested = (body_code m func found.0 sound found.2).nested in (
        nested.0,
        ap (λ o. and_then o (λ (code : Code). tree_of code.ops)) found.2 ∙ found_tree found.0.ops nested.0 nested.1,
      )
      | inr past ↦ let least = past.0 in absurd (omega (arith, within, least))
    ]

-- ---- guards

row_found : (types : List FuncType) (row : Option ℕ) (item : ImportItem) → is_row_item types row item ≡ true →
    (n : ℕ) × (row ≡ Some n)
row_found types (Some n) item e = (n, refl)
row_found types None (Function index) e = absurd (cc e)
row_found types None (Table limits) e = absurd (cc e)
row_found types None (Memory limits) e = absurd (cc e)
row_found types None (Global kind mutable) e = absurd (cc e)

rows_found : (types : List FuncType) (imports : List Import) →
    ((j : ℕ) → passes (λ import. not (is_api_import types import)) imports j ≡ false) →
    (rows : List CallNo) × (found_rows rows ≡ rows_named imports)
rows_found types [] kept = ([], refl)
rows_found types (import ∷ imports) kept =
    let named : is_row_item types (row_named import.name) import.item ≡ true =
    both_true (bytes_eq import.module (codes "env")) (is_row_item types (row_named import.name) import.item) (kept 0) in
    let row = row_found types (row_named import.name) import.item named in
    let more = rows_found types imports (λ j. kept (suc j)) in
    (record { 0 = row.0 } ∷ more.0, ap₂ (λ x xs. x ∷ xs) (sym row.1) more.1)

loops_found : (codes : List Code) → Each IsSoundBody codes →
    (functions : List FunctionGuards) × (map (λ loops. Some loops) functions ≡ code_guards codes)
loops_found [] each = ([], refl)
loops_found (code ∷ codes) each =
    let nested = each.0.ops.nested in
    let more = loops_found codes each.1 in
    let tree = found_tree code.ops nested.0 nested.1 in
    (body_guards nested.0 ∷ more.0, ap₂ (λ x xs. x ∷ xs) (sym (ap (option_map body_guards) tree)) more.1)

-- the export `hook` is there
hook_found : (m : Module) → IsRuled m → (func : ℕ) × (exported m is_hook ≡ Some func)
hook_found m ruled =
    let imported = length (calls_of m.imports) in
    let some : list_any is_hook m.exports ≡ true =
    one_hook (has_repeats m.exports) (list_any is_hook m.exports) (list_any (is_bad_export imported m) m.exports)
    (rules_by_name m ruled).exports in
    (unwrap_or (exported m is_hook) 0, entry_kept imported is_hook m.exports some)

guards_found : (m : Module) → IsSound m → IsRuled m → (guards : Guards) × AreGuards m guards
guards_found m sound ruled =
    let hook = hook_found m ruled in
    let rows = rows_found m.types m.imports (rules_by_name m ruled).imports in
    let loops = loops_found m.codes sound.codes.each in (
      record { hook = hook.0; cbak = exported m is_cbak; imports = rows.0; functions = loops.0 },
      record { hook = hook.1; cbak = refl; imports = rows.1; functions = loops.1 },
    )

-- ---- depths

abbrev depth_in : Module → ℕ → Option Sequence → Depth
depth_in m func None = surface
depth_in m func (Some body) = body_depth (context_of m func) body

abbrev depth_at : Module → ℕ → Depth
depth_at m func = depth_in m func (body_of m func)

abbrev depths_of : Module → List Depth
depths_of m = map (depth_at m) (range_with_len 0 (length m.codes))

have_depths : (m : Module) → HasDepths m (depths_of m)
have_depths m = record {
  each = length-map-range_with_len (depth_at m) 0 (length m.codes);
  deepest = λ func body found.
      let within = function_within m func body found in
      let many = length-map-range_with_len (depth_at m) 0 (length m.codes) in
      slice_get-get_or (depths_of m) func surface (omega (arith, within, many))
      ∙ ap Some (get_or-map-range_with_len (depth_at m) 0 (length m.codes) func func surface within (omega arith))
      ∙ ap (λ o. Some (depth_in m func o)) found;
}

-- ---- entries

entry_found : (m : Module) (is_named : ModuleExport → Bool) (func : ℕ) → IsSound m → func < length m.codes →
    exported m is_named ≡ Some func → (entry : Entry) × IsEntry m is_named entry
entry_found m is_named func sound within e =
    let body = body_found m func sound within in
    let same : (other : Sequence) → body_of m func ≡ Some other → body.0 ≡ other =
    λ other found. same_Some body.0 other (sym body.1 ∙ found) in (
      record {
        function = func;
        ends = ends_of body.0 0 (0 ∷ []);
        locals = length (locals_of (slice_get m.codes func));
        depth = body_depth (context_of m func) body.0;
      },
      record {
        function = e;
        kept = record {
          ends = λ other found. ap (λ b. ends_of b 0 (0 ∷ [])) (same other found);
          locals = refl;
          depth = λ other found. ap (body_depth (context_of m func)) (same other found);
        };
      },
    )

cbak_found : (m : Module) → IsSound m → IsRuled m → (entry : Option Entry) × AreEntry m is_cbak entry
cbak_found m sound ruled = at (exported m is_cbak) refl
  where
    at : (o : Option ℕ) → exported m is_cbak ≡ o → (entry : Option Entry) × AreEntry m is_cbak entry
    at None e = (None, e)
    at (Some func) e =
        let less = cbak_within m func ruled e in
        let paired = sound.paired in
        let entry = entry_found m is_cbak func sound (omega (arith, less, paired)) e in (Some entry.0, entry.1)

-- ---- all of it

pub held_of : (version : ℕ) (code : List ℕ) (m : Module) → version ≤ 1 → IsHook version code m →
    (held : Held) × Holds version code held
held_of version code m known h =
    let sound = hook_sound version code m h in
    let hook = hook_found m h.ruled in
    let less = hook_within m hook.0 h.ruled hook.1 in
    let paired = sound.paired in
    let within : hook.0 < length m.codes = omega (arith, less, paired) in
    let guards = guards_found m sound h.ruled in
    let body = body_found m hook.0 sound within in
    let hook_entry = entry_found m is_hook hook.0 sound within hook.1 in
    let cbak_entry = cbak_found m sound h.ruled in (
      record {
        version = version;
        wasm = m;
        guards = guards.0;
        typed = record { depths = depths_of m };
        hash = hash_of version code;
        bound_hook = bound_at version body.0;
        bound_cbak = export_bound version is_cbak m;
        hook_entry = hook_entry.0;
        cbak_entry = cbak_entry.0;
      },
      record {
        known = known;
        version_is = refl;
        hook = h;
        sound = sound;
        guards = guards.1;
        depths = have_depths m;
        hash = refl;
        bound_hook = ap (λ o. and_then o (bound_of version m)) hook.1 ∙ ap (option_map (bound_at version)) body.1;
        bound_cbak = refl;
        hook_entry = hook_entry.1;
        cbak_entry = cbak_entry.1;
      },
    )
