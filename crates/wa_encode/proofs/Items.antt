-- The bytes of a module's parts spell them.
use Rattle.std.proofs.Common.{sym, subst, ◌≡◌, ℕ, zero, suc, ◌+◌, ◌/◌, ◌%◌, ◌<◌, ◌≤◌, ◌⊎◌, inl, inr, Bool, true, false}
use Rattle.std.proofs.Common.{nat_lt, if◌then◌else◌, List, [], ◌∷◌, ◌++◌, length, replicate, flat_map, Option, Some}
use Rattle.std.proofs.Common.{None, ℤ, refl, length-append, arith}
use Rattle.std.proofs.lemmas.List.{length-replicate}
use Rattle.wa_ops.specs.Opcodes.{form_at}
use Rattle.wa_ops.specs.Soundness.{Each}
use Rattle.wa_ops.specs.declared.modules.Code.{Code}
use Rattle.wa_ops.specs.declared.modules.Element.{Element}
use Rattle.wa_ops.specs.declared.modules.FuncType.{FuncType}
use Rattle.wa_ops.specs.declared.modules.Import.{Import}
use Rattle.wa_ops.specs.declared.modules.ImportItem.{ImportItem}
use Rattle.wa_ops.specs.declared.modules.ImportItem.TheVariants.{Function, Table, Memory, Global}
use Rattle.wa_ops.specs.declared.modules.Limits.{Limits}
use Rattle.wa_ops.specs.declared.modules.Segment.{Segment}
use Rattle.wa_ops.specs.declared.op.Op.{Op}
use Rattle.wa_ops.specs.declared.op.Op.TheVariants.{Unreachable, Nop, Block, Loop, If, Else, End, Br, BrIf, BrTable}
use Rattle.wa_ops.specs.declared.op.Op.TheVariants.{Return, Call, CallIndirect, Drop, Select, LocalGet, LocalSet}
use Rattle.wa_ops.specs.declared.op.Op.TheVariants.{LocalTee, GlobalGet, GlobalSet, Load, Store, MemorySize, MemoryGrow}
use Rattle.wa_ops.specs.declared.op.Op.TheVariants.{I32Const, I64Const, Number, Float}
use Rattle.wa_ops.specs.declared.op.ValueType.{ValueType}
use Rattle.wa_ops.specs.declared.opcode.Form.{Form}
use Rattle.wa_ops.specs.declared.opcode.Form.TheVariants as forms
use Rattle.wa_decode.specs.Grammar.{IsUnsigned, IsSigned, SpellsAll, SpellsVector, SpellsBytes}
use Rattle.wa_decode.specs.Instructions.{SpellsValueType, SpellsAccess, SpellsFloat, SpellsOp, SpellsExpression}
use Rattle.wa_decode.specs.Instructions.{constant_size, type_byte}
use Rattle.wa_decode.specs.Modules.{SpellsFuncType, SpellsRange, SpellsLimits, SpellsTable, SpellsGlobalType}
use Rattle.wa_decode.specs.Modules.{mutable_byte, SpellsItem, SpellsImport, SpellsGlobal, SpellsExport, SpellsElement}
use Rattle.wa_decode.specs.Modules.{SpellsLocals, SpellsCode, SpellsSegment}
use Rattle.wa_decode.specs.Ranges.{InBits}
use Rattle.wa_encode.specs.Fitting.{IsWord, IsWordIfThere, FitsOp, FitsCode, FitsLimits, FitsItem, FitsExport}
use Rattle.wa_encode.specs.Fitting.{FitsElement, FitsBody, FitsSegment}
use Rattle.wa_encode.specs.Instructions.{float_operands, op, expression}
use Rattle.wa_encode.specs.Modules.{value_type, func_type, range, limits, table, global_type, item, import, global}
use Rattle.wa_encode.specs.Modules.{export, element, locals, body, code, segment}
use Rattle.wa_encode.specs.Numbers.{shortest, number, signed}
use Rattle.wa_encode.specs.Vectors.{vector, text}
use Rattle.wa_encode.proofs.Shortest.{unsigned_shortest, signed_shortest}

-- ---- lengths

pub front_word : (xs ys : List ℕ) → IsWord (length (xs ++ ys)) → IsWord (length xs)
front_word xs ys l = omega (arith, length-append xs ys)

pub back_word : (xs ys : List ℕ) → IsWord (length (xs ++ ys)) → IsWord (length ys)
back_word xs ys l = omega (arith, length-append xs ys)

pub tail_word : (x : ℕ) (xs : List ℕ) → IsWord (length (x ∷ xs)) → IsWord (length xs)
tail_word x xs l = omega arith

-- ---- numbers

pub word_spelled : (n : ℕ) → IsWord n → IsUnsigned 32 n (number n)
word_spelled n h = (unsigned_shortest 32 n (omega arith) (omega arith) h).0

pub signed_spelled : (bits : ℕ) (z : ℤ) → 0 < bits → bits ≤ 64 → InBits bits z → IsSigned bits z (signed z)
signed_spelled bits z some most h = (signed_shortest bits z some most h).0

-- ---- items: what they are spelled by, and that it isn't nothing

pub record Item {A : Type 0} (spell : A → List ℕ) (Spelling : A → List ℕ → Type 0) (Fitting : A → Type 0) : Type 0 where
  pub spelled : (x : A) → Fitting x → IsWord (length (spell x)) → Spelling x (spell x)
  pub some : (x : A) → 0 < length (spell x)

pub all_spelled : {A : Type 0} (spell : A → List ℕ) (Spelling : A → List ℕ → Type 0) (Fitting : A → Type 0) →
    Item spell Spelling Fitting
    → (xs : List A) → Each Fitting xs → IsWord (length (flat_map spell xs)) → SpellsAll Spelling xs (flat_map spell xs)
all_spelled spell Spelling Fitting i [] e l = refl
all_spelled spell Spelling Fitting i (x ∷ xs) e l = (
  spell x,
  flat_map spell xs,
  i.spelled x e.0 (front_word (spell x) (flat_map spell xs) l),
  all_spelled spell Spelling Fitting i xs e.1 (back_word (spell x) (flat_map spell xs) l),
  refl,
)

-- there are no more items than bytes
counted : {A : Type 0} (spell : A → List ℕ) → ((x : A) → 0 < length (spell x)) → (xs : List A) →
    length xs ≤ length (flat_map spell xs)
counted spell some [] = omega arith
counted spell some (x ∷ xs) = omega (arith, some x, length-append (spell x) (flat_map spell xs), counted spell some xs)

pub vector_spelled : {A : Type 0} (spell : A → List ℕ) (Spelling : A → List ℕ → Type 0) (Fitting : A → Type 0) →
    Item spell Spelling Fitting
    → (xs : List A) → Each Fitting xs → IsWord (length (vector spell xs)) → SpellsVector Spelling xs (vector spell xs)
vector_spelled spell Spelling Fitting i xs e l =
    let items : IsWord (length (flat_map spell xs)) = back_word (number (length xs)) (flat_map spell xs) l in
    let count : IsWord (length xs) = omega (arith, counted spell i.some xs) in (
      number (length xs),
      flat_map spell xs,
      word_spelled (length xs) count,
      all_spelled spell Spelling Fitting i xs e items,
      refl,
    )

pub text_spelled : (bytes : List ℕ) → IsWord (length (text bytes)) → SpellsBytes bytes (text bytes)
text_spelled bytes l =
    (number (length bytes), bytes, word_spelled (length bytes) (back_word (number (length bytes)) bytes l), refl, refl)

-- ---- what fits always

pub each_fits : {A : Type 0} (xs : List A) → Each (λ x. Unit {0}) xs
each_fits [] = tt
each_fits (x ∷ xs) = (tt, each_fits xs)

-- ---- numbers and types as items

number_some : (more n : ℕ) → 0 < length (shortest more n)
unfolding shortest
number_some zero n = omega arith
number_some (suc more) n = split (nat_lt n 128)
  where
    split : (t : Bool) → 0 < length (if t then n ∷ [] else (128 + n % 128) ∷ shortest more (n / 128))
    split true = omega arith
    split false = omega arith

pub number_item : Item number (IsUnsigned 32) IsWord
number_item = record { spelled = λ n h l. word_spelled n h; some = number_some 9 }

-- some bytes in front of others are some
some_front : (xs ys : List ℕ) → 0 < length xs → 0 < length (xs ++ ys)
some_front xs ys h = omega (arith, length-append xs ys)

text_some : (bytes : List ℕ) → 0 < length (text bytes)
text_some bytes = some_front (number (length bytes)) bytes (number_some 9 (length bytes))

type_item : Item value_type SpellsValueType (λ x. Unit {0})
type_item = record { spelled = λ x h l. refl; some = λ x. omega arith }

types_spelled : (xs : List ValueType) → IsWord (length (vector value_type xs)) →
    SpellsVector SpellsValueType xs (vector value_type xs)
types_spelled xs l = vector_spelled value_type SpellsValueType (λ x. Unit {0}) type_item xs (each_fits xs) l

func_type_spelled : (t : FuncType) → IsWord (length (func_type t)) → SpellsFuncType t (func_type t)
func_type_spelled t l =
    let front = vector value_type t.parameters in
    let back = vector value_type t.results in
    let both : IsWord (length (front ++ back)) = tail_word 0x60 (front ++ back) l in (
      front ++ back,
      (
        front,
        back,
        types_spelled t.parameters (front_word front back both),
        types_spelled t.results (back_word front back both),
        refl,
      ),
      refl,
    )

pub func_type_item : Item func_type SpellsFuncType (λ t. Unit {0})
func_type_item = record { spelled = λ t h l. func_type_spelled t l; some = λ t. omega arith }

range_spelled : (min : ℕ) (max : Option ℕ) → IsWord min → IsWordIfThere max → SpellsRange min max (range min max)
range_spelled min None h g = (number min, word_spelled min h, refl)
range_spelled min (Some max) h g =
    (number min ++ number max, (number min, number max, word_spelled min h, word_spelled max g, refl), refl)

limits_spelled : (l : Limits) → FitsLimits l → SpellsLimits l (limits l)
limits_spelled l h = range_spelled l.min l.max h.min h.max

range_some : (min : ℕ) (max : Option ℕ) → 0 < length (range min max)
range_some min None = omega arith
range_some min (Some max) = omega arith

pub limits_item : Item limits SpellsLimits FitsLimits
limits_item = record { spelled = λ x h l. limits_spelled x h; some = λ x. range_some x.min x.max }

pub table_item : Item table SpellsTable FitsLimits
table_item = record { spelled = λ x h l. (limits x, limits_spelled x h, refl); some = λ x. omega arith }

-- ---- instructions

access_operands : (opcode : ℕ) → SpellsFloat forms.FloatAccess opcode (opcode ∷ 0 ∷ 0 ∷ [])
access_operands opcode =
    let zero_byte : IsUnsigned 32 0 (0 ∷ []) = inl (omega arith, omega arith, refl, refl) in
    (0 ∷ 0 ∷ [], (0, 0, (0 ∷ [], 0 ∷ [], zero_byte, zero_byte, refl)), refl)

-- an opcode of one of the three forms, and its zeros
abbrev SpellsZeros : ℕ → Form → Type 0
SpellsZeros opcode form = SpellsFloat form opcode (opcode ∷ float_operands form opcode)

float_spelled : (form : Form) (opcode : ℕ)
    → (form ≡ forms.FloatAccess) ⊎ (form ≡ forms.FloatNumber) ⊎ (form ≡ forms.FloatConstant) → SpellsZeros opcode form
float_spelled form opcode (inl e) = subst (λ (f : Form). SpellsZeros opcode f) (sym e) (access_operands opcode)
float_spelled form opcode (inr (inl e)) = subst (λ (f : Form). SpellsZeros opcode f) (sym e) refl
float_spelled form opcode (inr (inr e)) =
    let zeros = replicate (constant_size opcode) 0 in
    subst (λ (f : Form). SpellsZeros opcode f) (sym e) (zeros, length-replicate (constant_size opcode) 0, refl)

access_spelled : (align offset : ℕ) → IsWord align → IsWord offset →
    SpellsAccess align offset (number align ++ number offset)
access_spelled align offset h g = (number align, number offset, word_spelled align h, word_spelled offset g, refl)

op_spelled : (x : Op) → FitsOp x → IsWord (length (op x)) → SpellsOp x (op x)
op_spelled Unreachable h l = refl
op_spelled Nop h l = refl
op_spelled (Block result) h l = refl
op_spelled (Loop result) h l = refl
op_spelled (If result) h l = refl
op_spelled Else h l = refl
op_spelled End h l = refl
op_spelled (Br label) h l = (number label, word_spelled label h.numbers, refl)
op_spelled (BrIf label) h l = (number label, word_spelled label h.numbers, refl)
op_spelled (BrTable labels last) h l =
    let front = vector number labels in
    let fits : IsWord (length front) = front_word front (number last) (tail_word 0x0E (front ++ number last) l) in (
      front ++ number last,
      (
        front,
        number last,
        vector_spelled number (IsUnsigned 32) IsWord number_item labels h.numbers.0 fits,
        word_spelled last h.numbers.1,
        refl,
      ),
      refl,
    )
op_spelled Return h l = refl
op_spelled (Call index) h l = (number index, word_spelled index h.numbers, refl)
op_spelled (CallIndirect index) h l =
    (number index ++ 0 ∷ [], (number index, 0 ∷ [], word_spelled index h.numbers, refl, refl), refl)
op_spelled Drop h l = refl
op_spelled Select h l = refl
op_spelled (LocalGet index) h l = (number index, word_spelled index h.numbers, refl)
op_spelled (LocalSet index) h l = (number index, word_spelled index h.numbers, refl)
op_spelled (LocalTee index) h l = (number index, word_spelled index h.numbers, refl)
op_spelled (GlobalGet index) h l = (number index, word_spelled index h.numbers, refl)
op_spelled (GlobalSet index) h l = (number index, word_spelled index h.numbers, refl)
op_spelled (Load opcode align offset) h l =
    (h.sound, (number align ++ number offset, access_spelled align offset h.numbers.0 h.numbers.1, refl))
op_spelled (Store opcode align offset) h l =
    (h.sound, (number align ++ number offset, access_spelled align offset h.numbers.0 h.numbers.1, refl))
op_spelled MemorySize h l = refl
op_spelled MemoryGrow h l = refl
op_spelled (I32Const n) h l = (signed n, signed_spelled 32 n (omega arith) (omega arith) h.numbers, refl)
op_spelled (I64Const n) h l = (signed n, signed_spelled 64 n (omega arith) (omega arith) h.numbers, refl)
op_spelled (Number opcode) h l = (h.sound, refl)
op_spelled (Float opcode) h l = float_spelled (form_at opcode) opcode h.sound

op_some : (x : Op) → 0 < length (op x)
op_some Unreachable = omega arith
op_some Nop = omega arith
op_some (Block result) = omega arith
op_some (Loop result) = omega arith
op_some (If result) = omega arith
op_some Else = omega arith
op_some End = omega arith
op_some (Br label) = omega arith
op_some (BrIf label) = omega arith
op_some (BrTable labels last) = omega arith
op_some Return = omega arith
op_some (Call index) = omega arith
op_some (CallIndirect index) = omega arith
op_some Drop = omega arith
op_some Select = omega arith
op_some (LocalGet index) = omega arith
op_some (LocalSet index) = omega arith
op_some (LocalTee index) = omega arith
op_some (GlobalGet index) = omega arith
op_some (GlobalSet index) = omega arith
op_some (Load opcode align offset) = omega arith
op_some (Store opcode align offset) = omega arith
op_some MemorySize = omega arith
op_some MemoryGrow = omega arith
op_some (I32Const n) = omega arith
op_some (I64Const n) = omega arith
op_some (Number opcode) = omega arith
op_some (Float opcode) = omega arith

op_item : Item op SpellsOp FitsOp
op_item = record { spelled = op_spelled; some = op_some }

expression_spelled : (ops : List Op) → FitsCode ops → IsWord (length (expression ops)) →
    SpellsExpression ops (expression ops)
expression_spelled ops h l = (h.nested, all_spelled op SpellsOp FitsOp op_item ops h.each l)

-- ---- what the sections have in them

global_type_spelled : (kind : ValueType) (mutable : Bool) → SpellsGlobalType kind mutable (global_type kind mutable)
global_type_spelled kind mutable = (type_byte kind ∷ [], mutable_byte mutable ∷ [], refl, refl, refl)

item_spelled : (x : ImportItem) → FitsItem x → SpellsItem x (item x)
item_spelled (Function index) h = (number index, word_spelled index h, refl)
item_spelled (Table l) h = (table l, (limits l, limits_spelled l h, refl), refl)
item_spelled (Memory l) h = (limits l, limits_spelled l h, refl)
item_spelled (Global kind mutable) h = (global_type kind mutable, global_type_spelled kind mutable, refl)

import_spelled : (x : Import) → FitsItem x.item → IsWord (length (import x)) → SpellsImport x (import x)
import_spelled x h l =
    let from = text x.module in
    let name = text x.name in
    let kind = item x.item in
    let behind : IsWord (length (name ++ kind)) = back_word from (name ++ kind) l in (
      from,
      name ++ kind,
      text_spelled x.module (front_word from (name ++ kind) l),
      (name, kind, text_spelled x.name (front_word name kind behind), item_spelled x.item h, refl),
      refl,
    )

pub import_item : Item import SpellsImport (λ x. FitsItem x.item)
import_item = record {
  spelled = import_spelled;
  some = λ x. some_front (text x.module) (text x.name ++ item x.item) (text_some x.module);
}

pub global_item : Item global SpellsGlobal (λ x. FitsCode x.init)
global_item = record {
  spelled = λ x h l. (
    global_type x.kind x.mutable,
    expression x.init,
    global_type_spelled x.kind x.mutable,
    expression_spelled x.init h (back_word (global_type x.kind x.mutable) (expression x.init) l),
    refl,
  );
  some = λ x. omega arith;
}

pub export_item : Item export SpellsExport FitsExport
export_item = record {
  spelled = λ x h l. (
    text x.name,
    x.kind ∷ number x.index,
    text_spelled x.name (front_word (text x.name) (x.kind ∷ number x.index) l),
    (x.kind ∷ [], number x.index, (h.kind, refl), word_spelled x.index h.index, refl),
    refl,
  );
  some = λ x. some_front (text x.name) (x.kind ∷ number x.index) (text_some x.name);
}

element_spelled : (x : Element) → FitsElement x → IsWord (length (element x)) → SpellsElement x (element x)
element_spelled x h l =
    let offset = expression x.offset in
    let functions = vector number x.functions in
    let behind : IsWord (length (offset ++ functions)) = back_word (number x.table) (offset ++ functions) l in
    let placed = expression_spelled x.offset h.offset (front_word offset functions behind) in
    let listed =
    vector_spelled number (IsUnsigned 32) IsWord number_item x.functions h.functions
    (back_word offset functions behind) in
    (number x.table, offset ++ functions, word_spelled x.table h.table, (offset, functions, placed, listed, refl), refl)

pub element_item : Item element SpellsElement FitsElement
element_item = record {
  spelled = element_spelled;
  some = λ x. some_front (number x.table) (expression x.offset ++ vector number x.functions) (number_some 9 x.table);
}

locals_item : Item locals SpellsLocals (λ run. IsWord run.0)
locals_item = record {
  spelled = λ run h l. (number run.0, value_type run.1, word_spelled run.0 h, refl, refl);
  some = λ run. some_front (number run.0) (value_type run.1) (number_some 9 run.0);
}

code_spelled : (x : Code) → FitsBody x → IsWord (length (code x)) → SpellsCode x (code x)
code_spelled x h l =
    let runs = vector locals x.locals in
    let ops = expression x.ops in
    let whole : IsWord (length (runs ++ ops)) = back_word (number (length (body x))) (body x) l in
    let spelled_runs =
    vector_spelled locals SpellsLocals (λ run. IsWord run.0) locals_item x.locals h.locals
    (front_word runs ops whole) in (
      body x,
      (runs, ops, spelled_runs, expression_spelled x.ops h.ops (back_word runs ops whole), refl),
      text_spelled (body x) l,
    )

pub code_item : Item code SpellsCode FitsBody
code_item = record { spelled = code_spelled; some = λ x. text_some (body x) }

segment_spelled : (x : Segment) → FitsSegment x → IsWord (length (segment x)) → SpellsSegment x (segment x)
segment_spelled x h l =
    let offset = expression x.offset in
    let bytes = text x.bytes in
    let behind : IsWord (length (offset ++ bytes)) = back_word (number x.memory) (offset ++ bytes) l in (
      number x.memory,
      offset ++ bytes,
      word_spelled x.memory h.memory,
      (
        offset,
        bytes,
        expression_spelled x.offset h.offset (front_word offset bytes behind),
        text_spelled x.bytes (back_word offset bytes behind),
        refl,
      ),
      refl,
    )

pub segment_item : Item segment SpellsSegment FitsSegment
segment_item = record {
  spelled = segment_spelled;
  some = λ x. some_front (number x.memory) (expression x.offset ++ text x.bytes) (number_some 9 x.memory);
}
