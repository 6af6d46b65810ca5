-- A draft fits, and a line makes it longer by few bytes for each of its own.
use Rattle.std.proofs.Common.{◌≡◌, ℕ, ◌+◌, ◌*◌, ◌<◌, ◌≤◌, ◌==◌, ◌&&◌, nat_le, nat_lt, Bool, true, false, if◌then◌else◌}
use Rattle.std.proofs.Common.{List, [], ◌∷◌, ◌++◌, length, codes, flat_map, Option, Some, None, refl, sym, subst}
use Rattle.std.proofs.Common.{length-append, arith}
use Rattle.std.proofs.lemmas.Bool.{and_parts, eqb-true}
use Rattle.std.proofs.lemmas.List.Quantifiers.{position-Some}
use Rattle.std.specs.Str.{bytes_eq}
use Rattle.wa_ops.specs.Rows.{row_named}
use Rattle.wa_ops.specs.Soundness.{Each}
use Rattle.wa_ops.specs.declared.modules.Code.{Code}
use Rattle.wa_ops.specs.declared.modules.Element.{Element}
use Rattle.wa_ops.specs.declared.modules.Import.{Import}
use Rattle.wa_ops.specs.declared.modules.Limits.{Limits}
use Rattle.wa_ops.specs.declared.modules.Module.{Module}
use Rattle.wa_ops.specs.declared.modules.ModuleExport.{ModuleExport}
use Rattle.wa_ops.specs.declared.modules.ModuleGlobal.{ModuleGlobal}
use Rattle.wa_ops.specs.declared.modules.Segment.{Segment}
use Rattle.wa_ops.specs.declared.op.Op.{Op}
use Rattle.wa_ops.specs.declared.op.Op.TheVariants.{Call, End}
use Rattle.wa_ops.specs.declared.op.ValueType.{ValueType}
use Rattle.wa_decode.specs.CodeReading.{opened}
use Rattle.wa_decode.proofs.Nesting.{Closes, closes_nested}
use Rattle.wa_encode.specs.Fitting.{IsWord, IsWordIfThere, FitsOp, FitsCode, FitsLimits, FitsItem, FitsExport}
use Rattle.wa_encode.specs.Fitting.{FitsElement, FitsBody, FitsSegment, Fits}
use Rattle.wa_encode.specs.Instructions.{op}
use Rattle.wa_encode.specs.Modules.{value_type, func_type, limits, import, global, export, locals, code, segment}
use Rattle.wa_encode.specs.Numbers.{number}
use Rattle.wa_text.specs.declared.draft.Body.{Body}
use Rattle.wa_text.specs.declared.draft.Draft.{Draft}
use Rattle.wa_text.specs.declared.draft.Part.{Part}
use Rattle.wa_text.specs.declared.draft.Part.TheVariants as part
use Rattle.wa_text.specs.declared.fault.AsmRule.{AsmRule}
use Rattle.wa_text.specs.declared.fault.AsmRule.TheVariants.{BadOrder, RepeatedName, Unbalanced}
use Rattle.wa_text.specs.declared.text_line.Constant.{Constant}
use Rattle.wa_text.specs.declared.text_line.Constant.TheVariants as constant
use Rattle.wa_text.specs.declared.text_line.TextLine.{TextLine}
use Rattle.wa_text.specs.declared.text_line.TextLine.TheVariants as line
use Rattle.wa_text.specs.Draft as drafts
use Rattle.wa_text.specs.Draft.{Step, goes, ends, wrong, step}
use Rattle.wa_text.specs.Numbers.{signed_word}
use Rattle.wa_text.proofs.Sizes.{number_size, more_size, weight, encoded_size}
use Rattle.wa_text.proofs.FittingLines.{FitsPlain, FitsLine}
use Rattle.wa_text.proofs.FittingItems.{each_more, Opens, opens_more, signed_word_fits, end_fits, constant_fits}
use Rattle.wa_text.proofs.FittingItems.{type_size, parameters_few, import_size, global_size, segment_size, export_size}
use Rattle.wa_text.proofs.FittingItems.{code_size}

-- ---- drafts

-- the bytes of the body that is open, with its counts, its size and its end
abbrev open_weight : Option Body → ℕ
open_weight None = 0
open_weight (Some b) = 21 + length (flat_map locals b.locals) + length (flat_map op b.ops)

abbrev open_count : Option Body → ℕ
open_count None = 0
open_count (Some b) = 1

record FitsOpen (b : Body) : Type 0 where
  locals : Each (λ run. IsWord run.0) b.locals
  ops : Each FitsOp b.ops
  opens : Opens b.ops b.regions

abbrev IfOpen : Option Body → Type 0
IfOpen None = Unit {0}
IfOpen (Some b) = FitsOpen b

-- what no line changes
record FitsRest (ts : List Limits) (index : Option ℕ) (es : List Element) : Type 0 where
  tables : Each FitsLimits ts
  start : IsWordIfThere index
  elements : Each FitsElement es

record FitsParts (m : Module) : Type 0 where
  imports : Each (λ i. FitsItem i.item) m.imports
  functions : Each IsWord m.functions
  memories : Each FitsLimits m.memories
  globals : Each (λ g. FitsCode g.init) m.globals
  exports : Each FitsExport m.exports
  codes : Each FitsBody m.codes
  segments : Each FitsSegment m.segments
  rest : FitsRest m.tables m.start m.elements

-- a draft behind so many bytes
pub record Sized (n : ℕ) (draft : Draft) : Type 0 where
  parts : FitsParts draft.module
  opened : IfOpen draft.body
  paired : length draft.module.functions ≡ length draft.module.codes + open_count draft.body
  few : length draft.module.imports ≤ n
  size : weight draft.module + open_weight draft.body ≤ 110 * n + 100

pub first_sized : Sized 0 drafts.first_draft
first_sized = record {
  parts = record {
    imports = tt;
    functions = tt;
    memories = tt;
    globals = tt;
    exports = tt;
    codes = tt;
    segments = tt;
    rest = record { tables = tt; start = tt; elements = tt };
  };
  opened = tt;
  paired = refl;
  few = omega arith;
  size = omega (arith, type_size drafts.hook_type, length-append (func_type drafts.hook_type) []);
}

pub later : (n c : ℕ) (draft : Draft) → Sized n draft → Sized (n + c) draft
later n c draft h = record {
  parts = h.parts;
  opened = h.opened;
  paired = h.paired;
  few = let l = h.few in omega (arith, l);
  size = let l = h.size in omega (arith, l);
}

-- ---- steps

abbrev pub At : ℕ → Step → Type 0
At n (goes draft) = Sized n draft
At n (ends m) = Fits m
At n (wrong rule) = Unit {0}

pub record Leads (n : ℕ) (did : Step) : Type 0 where
  pub leads : At n did

pub refused : {n : ℕ} {rule : AsmRule} → Leads n (wrong rule)
refused = record { leads = tt }

-- a step where a test holds, and a refusal else
tested : {n : ℕ} (test : Bool) (did : Step) (rule : AsmRule) → (test ≡ true → Leads n did) →
    Leads n (if test then did else wrong rule)
tested true did rule h = h refl
tested false did rule h = refused

untested : {n : ℕ} (test : Bool) (did : Step) (rule : AsmRule) → Leads n did →
    Leads n (if test then wrong rule else did)
untested true did rule h = refused
untested false did rule h = h

pub either : {n : ℕ} (test : Bool) {one other : Step} → Leads n one → Leads n other →
    Leads n (if test then one else other)
either true h g = h
either false h g = g

in_part_leads : {n : ℕ} (draft : Draft) (most : Part) (did : Step) → Leads n did →
    Leads n (drafts.in_part draft most did)
in_part_leads draft most did h = tested (nat_le (drafts.rank draft.part) (drafts.rank most)) did BadOrder (λ e. h)

import_sized : (n c : ℕ) (draft : Draft) (name : List ℕ) (row : ℕ) → Sized n draft → 1 ≤ c → n + c ≤ 2097152 →
    length name ≤ c
    → Sized (n + c) (record draft { part = part.Imports; «module» = drafts.with_import draft.module name row })
import_sized n c draft name row h some most long =
    let m = draft.module in
    let p = h.parts in
    let new : Import = drafts.imported name (length m.imports) in
    let few : length m.imports ≤ n = h.few in
    let size : weight m + open_weight draft.body ≤ 110 * n + 100 = h.size in
    let item : FitsItem new.item = omega (arith, few, most) in
    record {
      parts = record {
        imports = each_more (λ i. FitsItem i.item) m.imports new p.imports item;
        functions = p.functions;
        memories = p.memories;
        globals = p.globals;
        exports = p.exports;
        codes = p.codes;
        segments = p.segments;
        rest = p.rest;
      };
      opened = h.opened;
      paired = h.paired;
      few = omega (arith, few, some, length-append m.imports (new ∷ []));
      size = omega (
        arith,
        size,
        some,
        long,
        more_size func_type m.types (drafts.row_type row),
        type_size (drafts.row_type row),
        parameters_few row,
        more_size import m.imports new,
        import_size name (length m.imports),
      );
    }

import_leads : (n c : ℕ) (draft : Draft) (name : List ℕ) (row : Option ℕ) → Sized n draft → 1 ≤ c → n + c ≤ 2097152 →
    length name ≤ c → Leads (n + c) (drafts.import_step draft name row)
import_leads n c draft name None h some most long = refused
import_leads n c draft name (Some row) h some most long =
    untested (drafts.is_imported name draft.module.imports) _ RepeatedName
    (record { leads = import_sized n c draft name row h some most long })

memory_sized : (n c : ℕ) (draft : Draft) (min : ℕ) → Sized n draft → 1 ≤ c → IsWord min
    → Sized (n + c)
    (record draft { part = part.Memory; «module» = drafts.with_memory draft.module (drafts.memory_of min) })
memory_sized n c draft min h some word =
    let m = draft.module in
    let p = h.parts in
    let new : Limits = drafts.memory_of min in
    let few : length m.imports ≤ n = h.few in
    let size : weight m + open_weight draft.body ≤ 110 * n + 100 = h.size in
    record {
      parts = record {
        imports = p.imports;
        functions = p.functions;
        memories = each_more FitsLimits m.memories new p.memories (record { min = word; max = tt });
        globals = p.globals;
        exports = p.exports;
        codes = p.codes;
        segments = p.segments;
        rest = p.rest;
      };
      opened = h.opened;
      paired = h.paired;
      few = omega (arith, few);
      size = omega (arith, size, some, more_size limits m.memories new, number_size min);
    }

global_sized : (n c : ℕ) (draft : Draft) (mutable : Bool) (value : Constant) → Sized n draft → 1 ≤ c →
    FitsOp (drafts.constant_of value)
    → Sized (n + c)
    (record draft { part = part.Globals; «module» = drafts.with_global draft.module (drafts.global_of mutable value) })
global_sized n c draft mutable value h some fits =
    let m = draft.module in
    let p = h.parts in
    let new : ModuleGlobal = drafts.global_of mutable value in
    let few : length m.imports ≤ n = h.few in
    let size : weight m + open_weight draft.body ≤ 110 * n + 100 = h.size in
    record {
      parts = record {
        imports = p.imports;
        functions = p.functions;
        memories = p.memories;
        globals = each_more (λ g. FitsCode g.init) m.globals new p.globals (constant_fits value fits);
        exports = p.exports;
        codes = p.codes;
        segments = p.segments;
        rest = p.rest;
      };
      opened = h.opened;
      paired = h.paired;
      few = omega (arith, few);
      size = omega (arith, size, some, more_size global m.globals new, global_size mutable value);
    }

data_sized : (n c : ℕ) (draft : Draft) (offset : ℕ) (bytes : List ℕ) → Sized n draft → 1 ≤ c → IsWord offset →
    length bytes ≤ c
    → Sized (n + c)
    (record draft { part = part.Data; «module» = drafts.with_segment draft.module (drafts.segment_of offset bytes) })
data_sized n c draft offset bytes h some word long =
    let m = draft.module in
    let p = h.parts in
    let new : Segment = drafts.segment_of offset bytes in
    let few : length m.imports ≤ n = h.few in
    let size : weight m + open_weight draft.body ≤ 110 * n + 100 = h.size in
    let placed : FitsCode new.offset =
    constant_fits (constant.I32 (signed_word offset)) (record { numbers = signed_word_fits offset word; sound = tt }) in
    record {
      parts = record {
        imports = p.imports;
        functions = p.functions;
        memories = p.memories;
        globals = p.globals;
        exports = p.exports;
        codes = p.codes;
        segments = each_more FitsSegment m.segments new p.segments (record { memory = omega arith; offset = placed });
        rest = p.rest;
      };
      opened = h.opened;
      paired = h.paired;
      few = omega (arith, few);
      size = omega (arith, size, some, long, more_size segment m.segments new, segment_size offset bytes);
    }

closed : (found : Option Body) → drafts.is_closed found ≡ true → (open_weight found ≡ 0) × (open_count found ≡ 0)
closed None e = (refl, refl)
closed (Some b) e = absurd (cc e)

first_opens : FitsOpen drafts.first_body
first_opens = record { locals = tt; ops = tt; opens = λ after c. c }

function_sized : (n c : ℕ) (draft : Draft) (name : List ℕ) (before : ℕ) → Sized n draft → 1 ≤ c → n + c ≤ 2097152 →
    length name ≤ 4 → before ≤ 1
    → (drafts.is_closed draft.body && length draft.module.codes == before) ≡ true
    → Sized (n + c)
    (record { part = part.Functions; «module» = drafts.with_function draft.module name; body = Some drafts.first_body })
function_sized n c draft name before h some most short one e =
    let m = draft.module in
    let p = h.parts in
    let new : ModuleExport = drafts.function_export name m in
    let few : length m.imports ≤ n = h.few in
    let size : weight m + open_weight draft.body ≤ 110 * n + 100 = h.size in
    let paired : length m.functions ≡ length m.codes + open_count draft.body = h.paired in
    let tests = and_parts (drafts.is_closed draft.body) (length m.codes == before) e in
    let none = closed draft.body tests.0 in
    let codes_before : length m.codes ≡ before = eqb-true (length m.codes) before tests.1 in
    record {
      parts = record {
        imports = p.imports;
        functions = each_more IsWord m.functions 0 p.functions (omega arith);
        memories = p.memories;
        globals = p.globals;
        exports =
            each_more FitsExport m.exports new p.exports
            (record { kind = omega arith; index = omega (arith, few, most, codes_before, one) });
        codes = p.codes;
        segments = p.segments;
        rest = p.rest;
      };
      opened = first_opens;
      paired = omega (arith, paired, none.1, length-append m.functions (0 ∷ []));
      few = omega (arith, few);
      size =
          omega (
            arith,
            size,
            some,
            short,
            none.0,
            more_size number m.functions 0,
            number_size 0,
            more_size export m.exports new,
            export_size name m,
          );
    }

local_sized : (n c : ℕ) (draft : Draft) (b : Body) (kind : ValueType) → Sized n (record draft { body = Some b }) →
    1 ≤ c → Sized (n + c) (record draft { body = Some (drafts.with_local b kind) })
local_sized n c draft b kind h some =
    let m = draft.module in
    let few : length m.imports ≤ n = h.few in
    let size : weight m + open_weight (Some b) ≤ 110 * n + 100 = h.size in
    let opened : FitsOpen b = h.opened in
    record {
      parts = h.parts;
      opened = record {
        locals = each_more (λ run. IsWord run.0) b.locals (1, kind) opened.locals (omega arith);
        ops = opened.ops;
        opens = opened.opens;
      };
      paired = h.paired;
      few = omega (arith, few);
      size =
          omega (
            arith,
            size,
            some,
            more_size locals b.locals (1, kind),
            length-append (number 1) (value_type kind),
            number_size 1,
          );
    }

op_sized : (n c : ℕ) (draft : Draft) (b : Body) (instruction : Op) (now : List Bool) →
    Sized n (record draft { body = Some b }) → 1 ≤ c → FitsPlain c instruction → opened instruction b.regions ≡ Some now
    → Sized (n + c) (record draft { body = Some (drafts.with_op b instruction now) })
op_sized n c draft b instruction now h some fits e =
    let m = draft.module in
    let few : length m.imports ≤ n = h.few in
    let size : weight m + open_weight (Some b) ≤ 110 * n + 100 = h.size in
    let before : FitsOpen b = h.opened in
    let long : length (op instruction) ≤ 31 + 10 * c = fits.size in
    record {
      parts = h.parts;
      opened = record {
        locals = before.locals;
        ops = each_more FitsOp b.ops instruction before.ops fits.fits;
        opens = opens_more b.ops b.regions now instruction before.opens e;
      };
      paired = h.paired;
      few = omega (arith, few);
      size = omega (arith, size, some, more_size op b.ops instruction, long);
    }

plain_leads : (n c : ℕ) (draft : Draft) (b : Body) (instruction : Op) (found : Option (List Bool)) →
    Sized n (record draft { body = Some b }) → 1 ≤ c → FitsPlain c instruction
    → opened instruction b.regions ≡ found → Leads (n + c) (drafts.plain_step draft b instruction found)
plain_leads n c draft b instruction None h some fits e = refused
plain_leads n c draft b instruction (Some now) h some fits e = record {
  leads = op_sized n c draft b instruction now h some fits e;
}

call_fits : (n c : ℕ) (imports : List Import) (name : List ℕ) (index : ℕ) → length imports ≤ n → n + c ≤ 2097152 →
    drafts.import_named imports name ≡ Some index → FitsPlain c (Call index)
call_fits n c imports name index few most e =
    let within = position-Some (λ i. bytes_eq i.name name) imports index (drafts.imported [] 0) e in
    let below : index < length imports = within.0 in
    record {
      fits = record { numbers = omega (arith, below, few, most); sound = tt };
      size = omega (arith, number_size index);
    }

call_leads : (n c : ℕ) (draft : Draft) (b : Body) (name : List ℕ) (found : Option ℕ) →
    Sized n (record draft { body = Some b }) → 1 ≤ c → n + c ≤ 2097152
    → drafts.import_named draft.module.imports name ≡ found → Leads (n + c) (drafts.call_step draft b found)
call_leads n c draft b name None h some most e = refused
call_leads n c draft b name (Some index) h some most e = record {
  leads =
      op_sized n c draft b (Call index) b.regions h some (call_fits n c draft.module.imports name index h.few most e)
      refl;
}

body_fits : (b : Body) → FitsOpen b → drafts.is_empty b.regions ≡ true → FitsBody (drafts.code_of b)
body_fits b h e =
    let none : b.regions ≡ [] = empty b.regions e in
    let ends_all : Closes (End ∷ []) (Some (b.regions ++ false ∷ [])) =
    subst (λ r. Closes (End ∷ []) (Some (r ++ false ∷ []))) (sym none) refl in
    record {
      locals = h.locals;
      ops = record {
        nested = closes_nested (b.ops ++ End ∷ []) (h.opens (End ∷ []) ends_all);
        each = each_more FitsOp b.ops End h.ops end_fits;
      };
    }
  where
    empty : (regions : List Bool) → drafts.is_empty regions ≡ true → regions ≡ []
    empty [] e = refl
    empty (may ∷ around) e = absurd (cc e)

close_sized : (n c : ℕ) (draft : Draft) (b : Body) → Sized n (record draft { body = Some b }) →
    drafts.is_empty b.regions ≡ true
    → Sized (n + c) (record draft { «module» = drafts.with_code draft.module (drafts.code_of b); body = None })
close_sized n c draft b h e =
    let m = draft.module in
    let p = h.parts in
    let new : Code = drafts.code_of b in
    let few : length m.imports ≤ n = h.few in
    let size : weight m + open_weight (Some b) ≤ 110 * n + 100 = h.size in
    let paired : length m.functions ≡ length m.codes + 1 = h.paired in
    record {
      parts = record {
        imports = p.imports;
        functions = p.functions;
        memories = p.memories;
        globals = p.globals;
        exports = p.exports;
        codes = each_more FitsBody m.codes new p.codes (body_fits b h.opened e);
        segments = p.segments;
        rest = p.rest;
      };
      opened = tt;
      paired = omega (arith, paired, length-append m.codes (new ∷ []));
      few = omega (arith, few);
      size = omega (arith, size, more_size code m.codes new, code_size b);
    }

done_fits : (n : ℕ) (draft : Draft) → Sized n draft → n ≤ 2097152 → drafts.is_closed draft.body ≡ true →
    Fits draft.module
done_fits n draft h most e =
    let m = draft.module in
    let p = h.parts in
    let size : weight m + open_weight draft.body ≤ 110 * n + 100 = h.size in
    let paired : length m.functions ≡ length m.codes + open_count draft.body = h.paired in
    let none = closed draft.body e in
    record {
      imports = p.imports;
      functions = p.functions;
      tables = p.rest.tables;
      memories = p.memories;
      globals = p.globals;
      exports = p.exports;
      start = p.rest.start;
      elements = p.rest.elements;
      codes = p.codes;
      segments = p.segments;
      paired = omega (arith, paired, none.1);
      size = omega (arith, size, most, encoded_size m);
    }

in_body_leads : (n c : ℕ) (draft : Draft) (found : Option Body) (f : Body → Step) → draft.body ≡ found → Sized n draft →
    ((b : Body) → Sized n (record draft { body = Some b }) → Leads (n + c) (f b)) →
    Leads (n + c) (drafts.body_step found f)
in_body_leads n c draft None f e h g = refused
in_body_leads n c draft (Some b) f e h g = g b (subst (λ o. Sized n (record draft { body = o })) e h)

pub step_leads : (n c : ℕ) (draft : Draft) (l : TextLine) → Sized n draft → 1 ≤ c → n + c ≤ 2097152 → FitsLine c l →
    Leads (n + c) (step draft l)
unfolding step
step_leads n c draft (line.Import name) h some most fits =
    in_part_leads draft part.Imports _ (import_leads n c draft name (row_named name) h some most fits)
step_leads n c draft (line.Memory min) h some most fits =
    in_part_leads draft part.Imports _ (record { leads = memory_sized n c draft min h some fits })
step_leads n c draft (line.Global mutable value) h some most fits =
    in_part_leads draft part.Globals _ (record { leads = global_sized n c draft mutable value h some fits })
step_leads n c draft (line.Data offset bytes) h some most fits =
    in_part_leads draft part.Data _ (record { leads = data_sized n c draft offset bytes h some fits.0 fits.1 })
step_leads n c draft line.Hook h some most fits =
    tested (drafts.is_closed draft.body && length draft.module.codes == 0) _ BadOrder
    (λ e. record { leads = function_sized n c draft (codes "hook") 0 h some most (omega arith) (omega arith) e })
step_leads n c draft line.Cbak h some most fits =
    tested (drafts.is_closed draft.body && length draft.module.codes == 1) _ BadOrder
    (λ e. record { leads = function_sized n c draft (codes "cbak") 1 h some most (omega arith) (omega arith) e })
step_leads n c draft (line.Local kind) h some most fits =
    in_body_leads n c draft draft.body (drafts.local_step draft kind) refl h
    (λ b g. tested (drafts.is_empty b.ops) _ BadOrder (λ e. record { leads = local_sized n c draft b kind g some }))
step_leads n c draft (line.Plain instruction) h some most fits =
    in_body_leads n c draft draft.body (λ b. drafts.plain_step draft b instruction (opened instruction b.regions)) refl
    h
    (λ b g. plain_leads n c draft b instruction (opened instruction b.regions) g some fits refl)
step_leads n c draft (line.Call name) h some most fits =
    in_body_leads n c draft draft.body (λ b. drafts.call_step draft b (drafts.import_named draft.module.imports name))
    refl h
    (λ b g. call_leads n c draft b name (drafts.import_named draft.module.imports name) g some most refl)
step_leads n c draft line.Close h some most fits =
    in_body_leads n c draft draft.body (drafts.close_step draft) refl h
    (λ b g. tested (drafts.is_empty b.regions) _ Unbalanced (λ e. record { leads = close_sized n c draft b g e }))
step_leads n c draft line.Done h some most fits =
    tested (drafts.is_closed draft.body && nat_lt 0 (length draft.module.codes)) _ BadOrder
    (λ e.
    record {
      leads =
          done_fits n draft h (omega (arith, most))
          (and_parts (drafts.is_closed draft.body) (nat_lt 0 (length draft.module.codes)) e).0;
    })
