-- What is spelled by bytes is sound.
use Rattle.std.proofs.Common.{◌≡◌, ℕ, suc, ℤ, ◌+◌, ◌-◌, ◌*◌, ◌^◌, ◌<◌, ◌≤◌, inl, inr, Bool, true, false, ◌==◌}
use Rattle.std.proofs.Common.{if◌then◌else◌, List, [], ◌∷◌, ◌++◌, length, get_or, Some, MatchOption, Result, Ok, Err}
use Rattle.std.proofs.Common.{IfOk, refl, sym, ap, subst, length-append, arith, lit<}
use Rattle.wa_ops.specs.Opcodes.{form_at}
use Rattle.wa_ops.specs.Soundness.{IsCounted, Each, AreSound, IsSoundOp, IsSoundCode, IsSoundType, IsSoundImport}
use Rattle.wa_ops.specs.Soundness.{IsSoundExport, IsSoundElement, IsSoundBody, IsSoundSegment, IsSound}
use Rattle.wa_ops.specs.declared.modules.Code.{Code}
use Rattle.wa_ops.specs.declared.modules.Element.{Element}
use Rattle.wa_ops.specs.declared.modules.FuncType.{FuncType}
use Rattle.wa_ops.specs.declared.modules.Import.{Import}
use Rattle.wa_ops.specs.declared.modules.Module.{Module}
use Rattle.wa_ops.specs.declared.modules.ModuleExport.{ModuleExport}
use Rattle.wa_ops.specs.declared.modules.ModuleGlobal.{ModuleGlobal}
use Rattle.wa_ops.specs.declared.modules.Segment.{Segment}
use Rattle.wa_ops.specs.declared.op.Op.{Op}
use Rattle.wa_ops.specs.declared.op.Op.TheVariants.{BrTable, Load, Store, Number, Float}
use Rattle.wa_ops.specs.declared.opcode.Form.{Form}
use Rattle.wa_ops.specs.declared.opcode.Form.TheVariants as forms
use Rattle.wa_decode.specs.Grammar.{IsUnsigned, IsSigned, NumberLengths, SpellsAll, SpellsVector, SpellsBytes}
use Rattle.wa_decode.specs.Instructions.{SpellsFloat, SpellsOp, SpellsExpression}
use Rattle.wa_decode.specs.Modules.{SpellsFuncType, SpellsLimits, SpellsTable, SpellsImport, SpellsGlobal, SpellsExport}
use Rattle.wa_decode.specs.Modules.{SpellsElement, SpellsCode, SpellsSegment, Section, SpellsSection, body_of, Part}
use Rattle.wa_decode.specs.Modules.{header, Spells}
use Rattle.wa_decode.specs.Ranges.{IsBytes}
use Rattle.wa_decode.specs.declared.fault.DecodeFault.{DecodeFault}
use Rattle.wa_decode.proofs.ExpressionReaders.{items_long, op_some}
use Rattle.wa_decode.proofs.Powers.{high_fits}

-- ---- bytes, and lists that a 32-bit number counts

pub bytes_of : (xs : List ℕ) → ((i : ℕ) → get_or xs i 0 < 256) → IsBytes xs
bytes_of [] h = tt
bytes_of (x ∷ xs) h = (h 0, bytes_of xs (λ i. h (suc i)))

bytes_front : (xs ys : List ℕ) → IsBytes (xs ++ ys) → IsBytes xs
bytes_front [] ys h = tt
bytes_front (x ∷ xs) ys h = (h.0, bytes_front xs ys h.1)

bytes_behind : (xs ys : List ℕ) → IsBytes (xs ++ ys) → IsBytes ys
bytes_behind [] ys h = h
bytes_behind (x ∷ xs) ys h = bytes_behind xs ys h.1

pub unsigned_below : (bits n : ℕ) (bytes : List ℕ) → IsBytes bytes → IsUnsigned bits n bytes → n < 2 ^ bits
unsigned_below bits n [] b h = absurd h
unsigned_below bits n (x ∷ xs) b (inl h) = omega (arith, h.1, h.2)
unsigned_below bits n (x ∷ xs) b (inr h) =
    omega (arith, h.3, b.0, high_fits bits h.2 h.1 (unsigned_below (bits - 7) h.2 xs b.1 h.4))

-- bytes, fewer than 4,294,967,296
pub record IsShort (bytes : List ℕ) : Type 0 where
  pub bytes_all : IsBytes bytes
  pub counted : IsCounted bytes

short_front : (whole front rest : List ℕ) → IsShort whole → whole ≡ front ++ rest → IsShort front
short_front whole front rest s e =
    let l : length whole ≡ length (front ++ rest) = ap length e in
    let c : length whole < 2 ^ 32 = s.counted in
    record {
      bytes_all = bytes_front front rest (subst IsBytes e s.bytes_all);
      counted = omega (arith, length-append front rest);
    }

short_behind : (whole front rest : List ℕ) → IsShort whole → whole ≡ front ++ rest → IsShort rest
short_behind whole front rest s e =
    let l : length whole ≡ length (front ++ rest) = ap length e in
    let c : length whole < 2 ^ 32 = s.counted in
    record {
      bytes_all = bytes_behind front rest (subst IsBytes e s.bytes_all);
      counted = omega (arith, length-append front rest);
    }

-- ---- vectors

counted_vector : {A : Type 0} (Spelling : A → List ℕ → Type 0) (xs : List A) (bytes : List ℕ) → IsBytes bytes →
    SpellsVector Spelling xs bytes → IsCounted xs
counted_vector Spelling xs bytes b h = unsigned_below 32 (length xs) h.0 (bytes_front h.0 h.1 (subst IsBytes h.4 b)) h.2

each_sound : {A : Type 0} (Spelling : A → List ℕ → Type 0) (Holds : A → Type 0) →
    ((x : A) (bytes : List ℕ) → IsShort bytes → Spelling x bytes → Holds x) → (xs : List A) (bytes : List ℕ) →
    IsShort bytes → SpellsAll Spelling xs bytes → Each Holds xs
each_sound Spelling Holds one [] bytes s h = tt
each_sound Spelling Holds one (x ∷ xs) bytes s h = (
  one x h.0 (short_front bytes h.0 h.1 s h.4) h.2,
  each_sound Spelling Holds one xs h.1 (short_behind bytes h.0 h.1 s h.4) h.3,
)

vector_sound : {A : Type 0} (Spelling : A → List ℕ → Type 0) (Holds : A → Type 0) →
    ((x : A) (bytes : List ℕ) → IsShort bytes → Spelling x bytes → Holds x) → (xs : List A) (bytes : List ℕ) →
    IsShort bytes → SpellsVector Spelling xs bytes → AreSound Holds xs
vector_sound Spelling Holds one xs bytes s h = record {
  counted = counted_vector Spelling xs bytes s.bytes_all h;
  each = each_sound Spelling Holds one xs h.1 (short_behind bytes h.0 h.1 s h.4) h.3;
}

counted_bytes : (text bytes : List ℕ) → IsBytes bytes → SpellsBytes text bytes → IsCounted text
counted_bytes text bytes b h = unsigned_below 32 (length text) h.0 (bytes_front h.0 h.1 (subst IsBytes h.4 b)) h.2

-- what stands in so many bytes
short_text : (text bytes : List ℕ) → IsBytes bytes → SpellsBytes text bytes → IsShort text
short_text text bytes b h = record {
  bytes_all = subst IsBytes h.3 (bytes_behind h.0 h.1 (subst IsBytes h.4 b));
  counted = counted_bytes text bytes b h;
}

-- ---- code

pub float_sound : (form : Form) (opcode : ℕ) (bytes : List ℕ) → form_at opcode ≡ form → SpellsFloat form opcode bytes →
    IsSoundOp (Float opcode)
float_sound forms.FloatAccess opcode bytes f h = inl f
float_sound forms.FloatNumber opcode bytes f h = inr (inl f)
float_sound forms.FloatConstant opcode bytes f h = inr (inr f)
float_sound forms.Number opcode bytes f h = absurd h
float_sound forms.Load opcode bytes f h = absurd h
float_sound forms.Store opcode bytes f h = absurd h
float_sound forms.Other opcode bytes f h = absurd h

op_sound : (op : Op) (bytes : List ℕ) → IsShort bytes → SpellsOp op bytes → IsSoundOp op
op_sound (BrTable labels last) bytes s h =
    counted_vector (IsUnsigned 32) labels h.1.0
    (bytes_front h.1.0 h.1.1 (subst IsBytes h.1.4 (bytes_behind (0x0E ∷ []) h.0 (subst IsBytes h.2 s.bytes_all)))) h.1.2
op_sound (Load opcode align offset) bytes s h = h.0
op_sound (Store opcode align offset) bytes s h = h.0
op_sound (Number opcode) bytes s h = h.0
op_sound (Float opcode) bytes s h = float_sound (form_at opcode) opcode bytes refl h
op_sound op bytes s h = tt

code_sound : (ops : List Op) (bytes : List ℕ) → IsShort bytes → SpellsExpression ops bytes → IsSoundCode ops
code_sound ops bytes s h =
    let c : length bytes < 2 ^ 32 = s.counted in
    record {
      nested = h.0;
      sound = record {
        counted = omega (arith, items_long SpellsOp op_some ops bytes h.1);
        each = each_sound SpellsOp IsSoundOp op_sound ops bytes s h.1;
      };
    }

-- ---- parts

type_sound : (t : FuncType) (bytes : List ℕ) → IsShort bytes → SpellsFuncType t bytes → IsSoundType t
type_sound t bytes s h =
    let b : IsBytes (h.1.0 ++ h.1.1) =
    subst IsBytes h.1.4 (bytes_behind (0x60 ∷ []) h.0 (subst IsBytes h.2 s.bytes_all)) in
    record {
      parameters = counted_vector _ t.parameters h.1.0 (bytes_front h.1.0 h.1.1 b) h.1.2;
      results = counted_vector _ t.results h.1.1 (bytes_behind h.1.0 h.1.1 b) h.1.3;
    }

import_sound : (i : Import) (bytes : List ℕ) → IsShort bytes → SpellsImport i bytes → IsSoundImport i
import_sound i bytes s h =
    let b : IsBytes (h.0 ++ h.1) = subst IsBytes h.4 s.bytes_all in
    let c : IsBytes (h.3.0 ++ h.3.1) = subst IsBytes h.3.4 (bytes_behind h.0 h.1 b) in
    record {
      from = counted_bytes i.module h.0 (bytes_front h.0 h.1 b) h.2;
      name = counted_bytes i.name h.3.0 (bytes_front h.3.0 h.3.1 c) h.3.2;
    }

global_sound : (g : ModuleGlobal) (bytes : List ℕ) → IsShort bytes → SpellsGlobal g bytes → AreSound IsSoundOp g.init
global_sound g bytes s h = (code_sound g.init h.1 (short_behind bytes h.0 h.1 s h.4) h.3).sound

export_sound : (e : ModuleExport) (bytes : List ℕ) → IsShort bytes → SpellsExport e bytes → IsSoundExport e
export_sound e bytes s h = record {
  name = counted_bytes e.name h.0 (bytes_front h.0 h.1 (subst IsBytes h.4 s.bytes_all)) h.2;
  kind = h.3.2.0;
}

element_sound : (e : Element) (bytes : List ℕ) → IsShort bytes → SpellsElement e bytes → IsSoundElement e
element_sound e bytes s h =
    let behind = short_behind bytes h.0 h.1 s h.4 in
    let last = short_behind h.1 h.3.0 h.3.1 behind h.3.4 in
    record {
      offset = (code_sound e.offset h.3.0 (short_front h.1 h.3.0 h.3.1 behind h.3.4) h.3.2).sound;
      functions = counted_vector _ e.functions h.3.1 last.bytes_all h.3.3;
    }

body_sound : (c : Code) (bytes : List ℕ) → IsShort bytes → SpellsCode c bytes → IsSoundBody c
body_sound c bytes s h =
    let body = short_text h.0 bytes s.bytes_all h.2 in
    let front = short_front h.0 h.1.0 h.1.1 body h.1.4 in
    record {
      locals = counted_vector _ c.locals h.1.0 front.bytes_all h.1.2;
      ops = code_sound c.ops h.1.1 (short_behind h.0 h.1.0 h.1.1 body h.1.4) h.1.3;
    }

segment_sound : (g : Segment) (bytes : List ℕ) → IsShort bytes → SpellsSegment g bytes → IsSoundSegment g
segment_sound g bytes s h =
    let behind = short_behind bytes h.0 h.1 s h.4 in
    let last = short_behind h.1 h.3.0 h.3.1 behind h.3.4 in
    record {
      offset = (code_sound g.offset h.3.0 (short_front h.1 h.3.0 h.3.1 behind h.3.4) h.3.2).sound;
      bytes = counted_bytes g.bytes h.3.1 last.bytes_all h.3.3;
    }

-- ---- sections

sections_short : (ss : List Section) (bytes : List ℕ) → IsBytes bytes → SpellsAll SpellsSection ss bytes →
    Each (λ x. IsShort x.body) ss
sections_short [] bytes b h = tt
sections_short (x ∷ xs) bytes b h =
    let all : IsBytes (h.0 ++ h.1) = subst IsBytes h.4 b in
    let first : IsBytes (x.id ∷ h.2.0) = subst IsBytes h.2.2 (bytes_front h.0 h.1 all) in
    (short_text x.body h.2.0 first.1 h.2.1, sections_short xs h.1 (bytes_behind h.0 h.1 all) h.3)

part_sound : {A : Type 0} (Spelling : A → List ℕ → Type 0) (Holds : A → Type 0) →
    ((x : A) (bytes : List ℕ) → IsShort bytes → Spelling x bytes → Holds x) → (empty : A) → Holds empty
    → (id : ℕ) (x : A) (ss : List Section) → Each (λ y. IsShort y.body) ss → Part id Spelling empty x ss → Holds x
part_sound Spelling Holds one empty none id x [] short h = subst Holds (sym h) none
part_sound {A} Spelling Holds one empty none id x (s ∷ ss) short h =
    pick (s.id == id) h (part_sound Spelling Holds one empty none id x ss short.1)
  where
    pick : (t : Bool) → MatchOption (if t then Some s.body else body_of id ss) (x ≡ empty) (λ body. Spelling x body) →
        (Part id Spelling empty x ss → Holds x) → Holds x
    pick true g deeper = one x s.body short.0 g
    pick false g deeper = deeper g

list_sound : {A : Type 0} (Spelling : A → List ℕ → Type 0) (Holds : A → Type 0) →
    ((x : A) (bytes : List ℕ) → IsShort bytes → Spelling x bytes → Holds x) →
    (id : ℕ) (xs : List A) (ss : List Section) → Each (λ y. IsShort y.body) ss →
    Part id (SpellsVector Spelling) [] xs ss → AreSound Holds xs
list_sound Spelling Holds one id xs ss short h =
    part_sound (SpellsVector Spelling) (λ ys. AreSound Holds ys) (vector_sound Spelling Holds one) []
    (record { counted = lit< tt; each = tt }) id xs ss short h

list_counted : {A : Type 0} (Spelling : A → List ℕ → Type 0) → (id : ℕ) (xs : List A) (ss : List Section) →
    Each (λ y. IsShort y.body) ss → Part id (SpellsVector Spelling) [] xs ss → IsCounted xs
list_counted Spelling id xs ss short h =
    part_sound (SpellsVector Spelling) (λ ys. IsCounted ys)
    (λ ys bytes s g. counted_vector Spelling ys bytes s.bytes_all g) [] (lit< tt) id xs ss short h

pub module_sound : (m : Module) (bytes : List ℕ) → IsBytes bytes → Spells m bytes → IsSound m
module_sound m bytes b h =
    let short = sections_short h.sections h.behind (bytes_behind header h.behind (subst IsBytes h.whole b)) h.spelled in
    let p = h.parts in
    record {
      types = list_sound SpellsFuncType IsSoundType type_sound 1 m.types h.sections short p.types;
      imports = list_sound SpellsImport IsSoundImport import_sound 2 m.imports h.sections short p.imports;
      functions = list_counted (IsUnsigned 32) 3 m.functions h.sections short p.functions;
      tables = list_counted SpellsTable 4 m.tables h.sections short p.tables;
      memories = list_counted SpellsLimits 5 m.memories h.sections short p.memories;
      globals =
          list_sound SpellsGlobal (λ g. AreSound IsSoundOp g.init) global_sound 6 m.globals h.sections short p.globals;
      exports = list_sound SpellsExport IsSoundExport export_sound 7 m.exports h.sections short p.exports;
      elements = list_sound SpellsElement IsSoundElement element_sound 9 m.elements h.sections short p.elements;
      codes = list_sound SpellsCode IsSoundBody body_sound 10 m.codes h.sections short p.codes;
      segments = list_sound SpellsSegment IsSoundSegment segment_sound 11 m.segments h.sections short p.segments;
      paired = p.paired;
    }

pub sound_of : (bytes : List ℕ) (result : Result Module DecodeFault) → IsBytes bytes →
    IfOk result (λ m. Spells m bytes) → IfOk result IsSound
sound_of bytes (Ok m) b h = module_sound m bytes b h
sound_of bytes (Err fault) b h = tt

-- ---- the lengths of numbers

unsigned_length : (bits n : ℕ) (bytes : List ℕ) → 0 < bits → IsUnsigned bits n bytes → 7 * length bytes ≤ bits + 6
unsigned_length bits n [] some h = absurd h
unsigned_length bits n (x ∷ xs) some (inl h) = let l : length xs ≡ 0 = ap length h.3 in omega arith
unsigned_length bits n (x ∷ xs) some (inr h) =
    omega (arith, h.1, unsigned_length (bits - 7) h.2 xs (omega (arith, h.1)) h.4)

signed_length : (bits : ℕ) (z : ℤ) (bytes : List ℕ) → 0 < bits → IsSigned bits z bytes → 7 * length bytes ≤ bits + 6
signed_length bits z [] some h = absurd h
signed_length bits z (x ∷ xs) some (inl h) = let l : length xs ≡ 0 = ap length h.3 in omega arith
signed_length bits z (x ∷ xs) some (inr (inl h)) = let l : length xs ≡ 0 = ap length h.4 in omega arith
signed_length bits z (x ∷ xs) some (inr (inr h)) =
    omega (arith, h.1, signed_length (bits - 7) h.2 xs (omega (arith, h.1)) h.4)

pub number_lengths : NumberLengths
number_lengths = record { unsigned = unsigned_length; signed = signed_length }
