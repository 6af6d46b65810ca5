-- Instructions and expressions are read as they are spelled.
use Rattle.std.proofs.Common.{◌≡◌, ℕ, ◌⊎◌, inl, inr, true, false, ◌==◌, if◌then◌else◌, List, [], ◌∷◌, ◌++◌, length}
use Rattle.std.proofs.Common.{Option, Some, None, refl, sym, ap, ap₂, ◌∙◌, subst}
use Rattle.std.proofs.lemmas.Bool.{eqb-true}
use Rattle.wa_ops.specs.Opcodes.{form_at}
use Rattle.wa_ops.specs.declared.op.Op.{Op}
use Rattle.wa_ops.specs.declared.op.Op.TheVariants.{Unreachable, Nop, Block, Loop, If, Else, End, Br, BrIf, BrTable}
use Rattle.wa_ops.specs.declared.op.Op.TheVariants.{Return, Call, CallIndirect, Drop, Select, LocalGet, LocalSet}
use Rattle.wa_ops.specs.declared.op.Op.TheVariants.{LocalTee, GlobalGet, GlobalSet, Load, Store, MemorySize, MemoryGrow}
use Rattle.wa_ops.specs.declared.op.Op.TheVariants.{I32Const, I64Const, Number, Float}
use Rattle.wa_ops.specs.declared.op.ValueType.{ValueType}
use Rattle.wa_ops.specs.declared.op.ValueType.TheVariants.{I32, I64, F32, F64}
use Rattle.wa_ops.specs.declared.opcode.Form.{Form}
use Rattle.wa_ops.specs.declared.opcode.Form.TheVariants as forms
use Rattle.wa_decode.specs.CodeReading.{type_of, value_type_at, result_at, access_at, zero_at, table_at, indirect_at}
use Rattle.wa_decode.specs.CodeReading.{br_table, call_indirect, other_at, formed_at, op_at}
use Rattle.wa_decode.specs.Grammar.{IsUnsigned, IsSigned, Then, SpellsVector}
use Rattle.wa_decode.specs.Instructions.{type_byte, SpellsValueType, result_byte, SpellsAccess, constant_size}
use Rattle.wa_decode.specs.Instructions.{SpellsFloat, SpellsOp}
use Rattle.wa_decode.specs.Reading.{◌>>=◌, unsigned_at, signed_at, cut_at, vector_at}
use Rattle.wa_decode.proofs.NumberReaders.{unsigned_reader, signed_reader, cut_forth, cut_back, vector_reader}
use Rattle.wa_decode.proofs.Readers.{Reader, bind_some, choice_some, some_both, both, Back, never, when, bare, mapped}

-- ---- value types and results

-- the byte that a type was read from
abbrev pub HasByte : ℕ → Option ValueType → Type 0
HasByte b read = (kind : ValueType) → read ≡ Some kind → b ≡ type_byte kind

byte_when : (k : ValueType) (b : ℕ) (other : Option ValueType) → HasByte b other →
    HasByte b (if b == type_byte k then Some k else other)
byte_when k b other there kind e = pick (choice_some (b == type_byte k) (Some k) other kind e)
  where
    pick : (((b == type_byte k) ≡ true) × (Some k ≡ Some kind)) ⊎ (((b == type_byte k) ≡ false) × (other ≡ Some kind)) →
        b ≡ type_byte kind
    pick (inl h) = let p : k ≡ kind = cc (h.1) in eqb-true b (type_byte k) h.0 ∙ ap type_byte p
    pick (inr h) = there kind h.1

pub type_of_back : (b : ℕ) (kind : ValueType) → type_of b ≡ Some kind → b ≡ type_byte kind
type_of_back b =
    byte_when I32 b
    (if b == 0x7E then Some I64 else (if b == 0x7D then Some F32 else (if b == 0x7C then Some F64 else None)))
    (byte_when I64 b (if b == 0x7D then Some F32 else (if b == 0x7C then Some F64 else None))
    (byte_when F32 b (if b == 0x7C then Some F64 else None)
    (byte_when F64 b None (λ kind e. absurd cc))))

pub value_type_reader : Reader SpellsValueType value_type_at
unfolding value_type_at
value_type_reader = record { forth = types_forth; back = types_back }
  where
    types_forth : (kind : ValueType) (front rest : List ℕ) → SpellsValueType kind front →
        value_type_at (front ++ rest) ≡ Some (kind, rest)
    types_forth I32 front rest h = ap (λ bs. value_type_at (bs ++ rest)) h
    types_forth I64 front rest h = ap (λ bs. value_type_at (bs ++ rest)) h
    types_forth F32 front rest h = ap (λ bs. value_type_at (bs ++ rest)) h
    types_forth F64 front rest h = ap (λ bs. value_type_at (bs ++ rest)) h

    types_back : (bytes : List ℕ) (kind : ValueType) (rest : List ℕ) → value_type_at bytes ≡ Some (kind, rest) →
        (front : List ℕ) × SpellsValueType kind front × (bytes ≡ front ++ rest)
    types_back [] kind rest e = absurd cc
    types_back (b ∷ bs) kind rest e =
        let f = bind_some (type_of b) (λ k. Some (k, bs)) (kind, rest) e in
        let s = some_both (f.0, bs) (kind, rest) f.2 in
        let p : b ≡ type_byte kind = type_of_back b f.0 f.1 ∙ ap type_byte s.0 in
        (type_byte kind ∷ [], refl, ap₂ (λ (n : ℕ) (ns : List ℕ). n ∷ ns) p s.1)

abbrev pub SpellsResult : Option ValueType → List ℕ → Type 0
SpellsResult result bytes = bytes ≡ result_byte result ∷ []

pub result_reader : Reader SpellsResult result_at
unfolding result_at
result_reader = record { forth = results_forth; back = results_back }
  where
    results_forth : (result : Option ValueType) (front rest : List ℕ) → SpellsResult result front →
        result_at (front ++ rest) ≡ Some (result, rest)
    results_forth None front rest h = ap (λ bs. result_at (bs ++ rest)) h
    results_forth (Some I32) front rest h = ap (λ bs. result_at (bs ++ rest)) h
    results_forth (Some I64) front rest h = ap (λ bs. result_at (bs ++ rest)) h
    results_forth (Some F32) front rest h = ap (λ bs. result_at (bs ++ rest)) h
    results_forth (Some F64) front rest h = ap (λ bs. result_at (bs ++ rest)) h

    some_type : (b : ℕ) (bs : List ℕ) → Back SpellsResult b bs (type_of b >>= λ kind. Some (Some kind, bs))
    some_type b bs = record {
      gives = λ result rest e.
          let f = bind_some (type_of b) (λ k. Some (Some k, bs)) (result, rest) e in
          let s = some_both (Some f.0, bs) (result, rest) f.2 in
          let p : b ≡ result_byte result = type_of_back b f.0 f.1 ∙ ap result_byte s.0 in
          (result_byte result ∷ [], refl, ap₂ (λ (n : ℕ) (ns : List ℕ). n ∷ ns) p s.1);
    }

    results_back : (bytes : List ℕ) (result : Option ValueType) (rest : List ℕ) →
        result_at bytes ≡ Some (result, rest) → (front : List ℕ) × SpellsResult result front × (bytes ≡ front ++ rest)
    results_back [] result rest e = absurd cc
    results_back (b ∷ bs) result rest e =
        (when 0x40 b bs (Some (None, bs)) (type_of b >>= λ kind. Some (Some kind, bs))
        (bare SpellsResult None 0x40 bs refl) (some_type b bs)).gives result rest e

-- ---- what stands behind an opcode

pub access_reader : Reader (λ a. SpellsAccess a.0 a.1) access_at
unfolding access_at
access_reader =
    both (IsUnsigned 32) (unsigned_at 32) (IsUnsigned 32) (unsigned_at 32) (unsigned_reader 32) (unsigned_reader 32)

abbrev pub IsZero : Unit {0} → List ℕ → Type 0
IsZero u bytes = bytes ≡ 0x00 ∷ []

pub zero_reader : Reader IsZero zero_at
unfolding zero_at
zero_reader = record {
  forth = λ u front rest h. ap (λ bs. zero_at (bs ++ rest)) h;
  back = zeros_back;
}
  where
    zeros_back : (bytes : List ℕ) (u : Unit {0}) (rest : List ℕ) → zero_at bytes ≡ Some (u, rest) →
        (front : List ℕ) × IsZero u front × (bytes ≡ front ++ rest)
    zeros_back [] u rest e = absurd cc
    zeros_back (b ∷ bs) u rest e =
        (when {Spelling = IsZero} 0x00 b bs (Some (tt, bs)) None (bare IsZero tt 0x00 bs refl) (never b bs)).gives u
        rest e

pub table_reader : Reader (λ t. Then (SpellsVector (IsUnsigned 32) t.0) (IsUnsigned 32 t.1)) table_at
unfolding table_at
table_reader =
    both (SpellsVector (IsUnsigned 32)) (vector_at (unsigned_at 32)) (IsUnsigned 32) (unsigned_at 32)
    (vector_reader (IsUnsigned 32) (unsigned_at 32) (unsigned_reader 32)) (unsigned_reader 32)

pub indirect_reader : Reader (λ c. Then (IsUnsigned 32 c.0) (IsZero c.1)) indirect_at
unfolding indirect_at
indirect_reader = both (IsUnsigned 32) (unsigned_at 32) IsZero zero_at (unsigned_reader 32) zero_reader

-- so many bytes, whatever they are
pub cut_reader : (size : ℕ) → Reader (λ text bytes. (length text ≡ size) × (bytes ≡ text)) (cut_at size)
cut_reader size = record {
  forth = λ text front rest h.
      ap (λ bs. cut_at size (bs ++ rest)) h.1 ∙ ap (λ n. cut_at n (text ++ rest)) (sym h.0) ∙ cut_forth text rest;
  back = λ bytes text rest e. let c = cut_back size bytes text rest e in (text, (sym c.0, refl), c.1);
}

-- ---- instructions are spelled so

-- a float's opcode, by its form
pub float_forth : (form : Form) (opcode : ℕ) (front rest : List ℕ) → form_at opcode ≡ form →
    SpellsFloat form opcode front → op_at (front ++ rest) ≡ Some (Float opcode, rest)
unfolding op_at formed_at
float_forth forms.FloatAccess opcode front rest f h =
    ap (λ bs. op_at (bs ++ rest)) h.2 ∙ rw (f, access_reader.forth (h.1.0, h.1.1) h.0 rest h.1.2) refl
float_forth forms.FloatNumber opcode front rest f h = ap (λ bs. op_at (bs ++ rest)) h ∙ rw f refl
float_forth forms.FloatConstant opcode front rest f h =
    ap (λ bs. op_at (bs ++ rest)) h.2 ∙ rw (f, (cut_reader (constant_size opcode)).forth h.0 h.0 rest (h.1, refl)) refl
float_forth forms.Number opcode front rest f h = absurd h
float_forth forms.Load opcode front rest f h = absurd h
float_forth forms.Store opcode front rest f h = absurd h
float_forth forms.Other opcode front rest f h = absurd h

pub op_forth : (op : Op) (front rest : List ℕ) → SpellsOp op front → op_at (front ++ rest) ≡ Some (op, rest)
unfolding op_at formed_at other_at
op_forth Unreachable front rest h = ap (λ bs. op_at (bs ++ rest)) h
op_forth Nop front rest h = ap (λ bs. op_at (bs ++ rest)) h
op_forth (Block result) front rest h =
    ap (λ bs. op_at (bs ++ rest)) h ∙ rw (result_reader.forth result (result_byte result ∷ []) rest refl) refl
op_forth (Loop result) front rest h =
    ap (λ bs. op_at (bs ++ rest)) h ∙ rw (result_reader.forth result (result_byte result ∷ []) rest refl) refl
op_forth (If result) front rest h =
    ap (λ bs. op_at (bs ++ rest)) h ∙ rw (result_reader.forth result (result_byte result ∷ []) rest refl) refl
op_forth Else front rest h = ap (λ bs. op_at (bs ++ rest)) h
op_forth End front rest h = ap (λ bs. op_at (bs ++ rest)) h
op_forth (Br label) front rest h =
    ap (λ bs. op_at (bs ++ rest)) h.2 ∙ rw ((unsigned_reader 32).forth label h.0 rest h.1) refl
op_forth (BrIf label) front rest h =
    ap (λ bs. op_at (bs ++ rest)) h.2 ∙ rw ((unsigned_reader 32).forth label h.0 rest h.1) refl
op_forth (BrTable labels last) front rest h =
    ap (λ bs. op_at (bs ++ rest)) h.2 ∙ rw (table_reader.forth (labels, last) h.0 rest h.1) refl
op_forth Return front rest h = ap (λ bs. op_at (bs ++ rest)) h
op_forth (Call index) front rest h =
    ap (λ bs. op_at (bs ++ rest)) h.2 ∙ rw ((unsigned_reader 32).forth index h.0 rest h.1) refl
op_forth (CallIndirect index) front rest h =
    ap (λ bs. op_at (bs ++ rest)) h.2 ∙ rw (indirect_reader.forth (index, tt) h.0 rest h.1) refl
op_forth Drop front rest h = ap (λ bs. op_at (bs ++ rest)) h
op_forth Select front rest h = ap (λ bs. op_at (bs ++ rest)) h
op_forth (LocalGet index) front rest h =
    ap (λ bs. op_at (bs ++ rest)) h.2 ∙ rw ((unsigned_reader 32).forth index h.0 rest h.1) refl
op_forth (LocalSet index) front rest h =
    ap (λ bs. op_at (bs ++ rest)) h.2 ∙ rw ((unsigned_reader 32).forth index h.0 rest h.1) refl
op_forth (LocalTee index) front rest h =
    ap (λ bs. op_at (bs ++ rest)) h.2 ∙ rw ((unsigned_reader 32).forth index h.0 rest h.1) refl
op_forth (GlobalGet index) front rest h =
    ap (λ bs. op_at (bs ++ rest)) h.2 ∙ rw ((unsigned_reader 32).forth index h.0 rest h.1) refl
op_forth (GlobalSet index) front rest h =
    ap (λ bs. op_at (bs ++ rest)) h.2 ∙ rw ((unsigned_reader 32).forth index h.0 rest h.1) refl
op_forth (Load opcode align offset) front rest h =
    ap (λ bs. op_at (bs ++ rest)) h.1.2 ∙ rw (h.0, access_reader.forth (align, offset) h.1.0 rest h.1.1) refl
op_forth (Store opcode align offset) front rest h =
    ap (λ bs. op_at (bs ++ rest)) h.1.2 ∙ rw (h.0, access_reader.forth (align, offset) h.1.0 rest h.1.1) refl
op_forth MemorySize front rest h =
    ap (λ bs. op_at (bs ++ rest)) h ∙ rw (zero_reader.forth tt (0x00 ∷ []) rest refl) refl
op_forth MemoryGrow front rest h =
    ap (λ bs. op_at (bs ++ rest)) h ∙ rw (zero_reader.forth tt (0x00 ∷ []) rest refl) refl
op_forth (I32Const n) front rest h =
    ap (λ bs. op_at (bs ++ rest)) h.2 ∙ rw ((signed_reader 32).forth n h.0 rest h.1) refl
op_forth (I64Const n) front rest h =
    ap (λ bs. op_at (bs ++ rest)) h.2 ∙ rw ((signed_reader 64).forth n h.0 rest h.1) refl
op_forth (Number opcode) front rest h = ap (λ bs. op_at (bs ++ rest)) h.1 ∙ rw h.0 refl
op_forth (Float opcode) front rest h = float_forth (form_at opcode) opcode front rest refl h

-- ---- what is read is an instruction

pub other_back : (code : ℕ) (bytes : List ℕ) → Back SpellsOp code bytes (other_at code bytes)
unfolding other_at
other_back code bytes =
    when 0x00 code bytes _ _ (bare SpellsOp Unreachable 0x00 bytes refl) (
    when 0x01 code bytes _ _ (bare SpellsOp Nop 0x01 bytes refl) (
    when 0x02 code bytes _ _
    (mapped SpellsOp SpellsResult result_at result_reader Block 0x02 bytes (λ a front h. ap (λ bs. 0x02 ∷ bs) h)) (
    when 0x03 code bytes _ _
    (mapped SpellsOp SpellsResult result_at result_reader Loop 0x03 bytes (λ a front h. ap (λ bs. 0x03 ∷ bs) h)) (
    when 0x04 code bytes _ _
    (mapped SpellsOp SpellsResult result_at result_reader If 0x04 bytes (λ a front h. ap (λ bs. 0x04 ∷ bs) h)) (
    when 0x05 code bytes _ _ (bare SpellsOp Else 0x05 bytes refl) (
    when 0x0B code bytes _ _ (bare SpellsOp End 0x0B bytes refl) (
    when 0x0C code bytes _ _ (mapped SpellsOp (IsUnsigned 32) (unsigned_at 32) (unsigned_reader 32) Br 0x0C bytes
    (λ a front h. (front, h, refl))) (
    when 0x0D code bytes _ _ (mapped SpellsOp (IsUnsigned 32) (unsigned_at 32) (unsigned_reader 32) BrIf 0x0D bytes
    (λ a front h. (front, h, refl))) (
    when 0x0E code bytes _ _ (mapped SpellsOp (λ t. Then (SpellsVector (IsUnsigned 32) t.0) (IsUnsigned 32 t.1))
    table_at table_reader br_table 0x0E bytes (λ a front h. (front, h, refl))) (
    when 0x0F code bytes _ _ (bare SpellsOp Return 0x0F bytes refl) (
    when 0x10 code bytes _ _ (mapped SpellsOp (IsUnsigned 32) (unsigned_at 32) (unsigned_reader 32) Call 0x10 bytes
    (λ a front h. (front, h, refl))) (
    when 0x11 code bytes _ _ (mapped SpellsOp (λ c. Then (IsUnsigned 32 c.0) (IsZero c.1)) indirect_at indirect_reader
    call_indirect 0x11 bytes (λ a front h. (front, h, refl))) (
    when 0x1A code bytes _ _ (bare SpellsOp Drop 0x1A bytes refl) (
    when 0x1B code bytes _ _ (bare SpellsOp Select 0x1B bytes refl) (
    when 0x20 code bytes _ _ (mapped SpellsOp (IsUnsigned 32) (unsigned_at 32) (unsigned_reader 32) LocalGet 0x20 bytes
    (λ a front h. (front, h, refl))) (
    when 0x21 code bytes _ _ (mapped SpellsOp (IsUnsigned 32) (unsigned_at 32) (unsigned_reader 32) LocalSet 0x21 bytes
    (λ a front h. (front, h, refl))) (
    when 0x22 code bytes _ _ (mapped SpellsOp (IsUnsigned 32) (unsigned_at 32) (unsigned_reader 32) LocalTee 0x22 bytes
    (λ a front h. (front, h, refl))) (
    when 0x23 code bytes _ _ (mapped SpellsOp (IsUnsigned 32) (unsigned_at 32) (unsigned_reader 32) GlobalGet 0x23 bytes
    (λ a front h. (front, h, refl))) (
    when 0x24 code bytes _ _ (mapped SpellsOp (IsUnsigned 32) (unsigned_at 32) (unsigned_reader 32) GlobalSet 0x24 bytes
    (λ a front h. (front, h, refl))) (
    when 0x3F code bytes _ _
    (mapped SpellsOp IsZero zero_at zero_reader (λ z. MemorySize) 0x3F bytes (λ a front h. ap (λ bs. 0x3F ∷ bs) h)) (
    when 0x40 code bytes _ _
    (mapped SpellsOp IsZero zero_at zero_reader (λ z. MemoryGrow) 0x40 bytes (λ a front h. ap (λ bs. 0x40 ∷ bs) h)) (
    when 0x41 code bytes _ _ (mapped SpellsOp (IsSigned 32) (signed_at 32) (signed_reader 32) I32Const 0x41 bytes
    (λ a front h. (front, h, refl))) (
    when 0x42 code bytes _ _ (mapped SpellsOp (IsSigned 64) (signed_at 64) (signed_reader 64) I64Const 0x42 bytes
    (λ a front h. (front, h, refl))) (
    never code bytes))))))))))))))))))))))))

pub float_spelled : (code : ℕ) (bytes : List ℕ) (form : Form) → form_at code ≡ form → SpellsFloat form code bytes →
    SpellsOp (Float code) bytes
float_spelled code bytes form f h = subst (λ (g : Form). SpellsFloat g code bytes) (sym f) h

-- of an opcode of this form
pub formed_back : (form : Form) (code : ℕ) (bytes : List ℕ) → form_at code ≡ form →
    Back SpellsOp code bytes (formed_at form code bytes)
unfolding formed_at
formed_back forms.Number code bytes f = bare SpellsOp (Number code) code bytes (f, refl)
formed_back forms.Load code bytes f =
    mapped SpellsOp (λ a. SpellsAccess a.0 a.1) access_at access_reader (λ a. Load code a.0 a.1) code bytes
    (λ a front h. (f, (front, h, refl)))
formed_back forms.Store code bytes f =
    mapped SpellsOp (λ a. SpellsAccess a.0 a.1) access_at access_reader (λ a. Store code a.0 a.1) code bytes
    (λ a front h. (f, (front, h, refl)))
formed_back forms.FloatAccess code bytes f =
    mapped SpellsOp (λ a. SpellsAccess a.0 a.1) access_at access_reader (λ a. Float code) code bytes
    (λ a front h. float_spelled code (code ∷ front) forms.FloatAccess f (front, (a.0, a.1, h), refl))
formed_back forms.FloatNumber code bytes f =
    bare SpellsOp (Float code) code bytes (float_spelled code (code ∷ []) forms.FloatNumber f refl)
formed_back forms.FloatConstant code bytes f =
    mapped SpellsOp (λ text bytes. (length text ≡ constant_size code) × (bytes ≡ text)) (cut_at (constant_size code))
    (cut_reader (constant_size code)) (λ a. Float code) code bytes
    (λ a front h. float_spelled code (code ∷ front) forms.FloatConstant f (front, ap length h.1 ∙ h.0, refl))
formed_back forms.Other code bytes f = other_back code bytes

pub op_back : (bytes : List ℕ) (op : Op) (rest : List ℕ) → op_at bytes ≡ Some (op, rest) →
    (front : List ℕ) × SpellsOp op front × (bytes ≡ front ++ rest)
unfolding op_at
op_back [] op rest e = absurd cc
op_back (code ∷ bytes) op rest e = (formed_back (form_at code) code bytes refl).gives op rest e

pub op_reader : Reader SpellsOp op_at
op_reader = record { forth = op_forth; back = op_back }
