-- What a line says fits, and is no longer than the line.
use Rattle.std.proofs.Common.{◌≡◌, ℕ, suc, ◌+◌, ◌-◌, ◌*◌, ◌^◌, ◌<◌, ◌≤◌, ◌==◌, nat_le, pos, negsuc, Bool, true, false}
use Rattle.std.proofs.Common.{cond, if◌then◌else◌, List, [], ◌∷◌, ◌++◌, length, codes, Option, Some, None, option_map}
use Rattle.std.proofs.Common.{option_and_then, Result, Ok, Err, refl, length-append, arith}
use Rattle.std.proofs.lemmas.Int.{ints}
use Rattle.std.specs.List.{slice_split, onto_first}
use Rattle.std.specs.Str.{bytes_eq}
use Rattle.wa_ops.specs.Opcodes.{form_at}
use Rattle.wa_ops.specs.Soundness.{Each, IsSoundOp}
use Rattle.wa_ops.specs.declared.op.Op.{Op}
use Rattle.wa_ops.specs.declared.op.Op.TheVariants.{Unreachable, Nop, Block, Loop, If, Else, End, Br, BrIf, BrTable}
use Rattle.wa_ops.specs.declared.op.Op.TheVariants.{Return, Drop, Select, LocalGet, LocalSet, LocalTee, GlobalGet}
use Rattle.wa_ops.specs.declared.op.Op.TheVariants.{GlobalSet, Load, Store, MemorySize, I32Const, I64Const, Number}
use Rattle.wa_ops.specs.declared.op.ValueType.{ValueType}
use Rattle.wa_ops.specs.declared.op.ValueType.TheVariants.{I32, I64, F32, F64}
use Rattle.wa_ops.specs.declared.opcode.Form.{Form}
use Rattle.wa_ops.specs.declared.opcode.Form.TheVariants as forms
use Rattle.wa_decode.specs.Ranges.{InBits}
use Rattle.wa_encode.specs.Fitting.{IsWord, FitsNumbers, FitsOp}
use Rattle.wa_encode.specs.Instructions.{op}
use Rattle.wa_encode.specs.Numbers.{number}
use Rattle.wa_encode.specs.Vectors.{vector}
use Rattle.hk_base.specs.Hexadecimal.{digit_value, pair_value, all_of, hex_bytes}
use Rattle.hk_lines.specs.Cut.{trim}
use Rattle.hk_lines.specs.Words.{words_of, number_of, some_bytes, some_bytes_of}
use Rattle.hk_lines.proofs.Numerals.{number_is}
use Rattle.wa_text.specs.declared.fault.AsmRule.{AsmRule}
use Rattle.wa_text.specs.declared.text_line.Constant.TheVariants as constant
use Rattle.wa_text.specs.declared.text_line.TextLine.{TextLine}
use Rattle.wa_text.specs.declared.text_line.TextLine.TheVariants as line
use Rattle.wa_text.specs.Draft.{constant_of}
use Rattle.wa_text.specs.Instructions.{alone, one, two, name_of, result_of, labels_of, made, bare, instructions}
use Rattle.wa_text.specs.Instructions.{opcode_in, own_operands, operands}
use Rattle.wa_text.specs.Lines.{import_of, memory_of, global_of, integer_type_of, mutable_of, value_of, data_of}
use Rattle.wa_text.specs.Lines.{function_of, local_of, shaped, instruction_read, words_read, text_read, without_spaces}
use Rattle.wa_text.specs.Lines.{shown}
use Rattle.wa_text.specs.Numbers.{word_of, signed_of}
use Rattle.wa_text.proofs.Sizes.{number_size, signed_size, vector_size, items_size}

-- ---- what is read has a property, where something is read

abbrev pub IfThere : {A : Type 0} → (A → Type 0) → Option A → Type 0
IfThere P None = Unit {0}
IfThere P (Some x) = P x

pub record Found {A : Type 0} (P : A → Type 0) (read : Option A) : Type 0 where
  pub found : IfThere P read

none : {A : Type 0} {P : A → Type 0} → Found P None
none = record { found = tt }

some : {A : Type 0} {P : A → Type 0} {x : A} → P x → Found P (Some x)
some p = record { found = p }

from_read : {A : Type 0} {P : A → Type 0} (read : Option A) → ((x : A) → read ≡ Some x → P x) → Found P read
from_read None h = none
from_read (Some x) h = some (h x refl)

mapped : {A B : Type 0} (P : A → Type 0) {Q : B → Type 0} (f : A → B) (read : Option A) → Found P read →
    ((x : A) → P x → Q (f x)) → Found Q (option_map f read)
mapped P f None h g = none
mapped P f (Some x) h g = some (g x h.found)

followed : {A B : Type 0} (P : A → Type 0) {Q : B → Type 0} (f : A → Option B) (read : Option A) → Found P read →
    ((x : A) → P x → Found Q (f x)) → Found Q (option_and_then f read)
followed P f None h g = none
followed P f (Some x) h g = g x h.found

weaker : {A : Type 0} {P Q : A → Type 0} (read : Option A) → Found P read → ((x : A) → P x → Q x) → Found Q read
weaker None h g = none
weaker (Some x) h g = some (g x h.found)

either : {A : Type 0} {P : A → Type 0} (test : Bool) {a b : Option A} → Found P a → Found P b →
    Found P (if test then a else b)
either true h g = h
either false h g = g

-- ---- words

-- the bytes of words, with one more for each
abbrev pub total : List (List ℕ) → ℕ
total [] = 0
total (word ∷ words) = length word + 1 + total words

onto_total : (byte : ℕ) (words : List (List ℕ)) (n : ℕ) → total words ≤ n + 1 →
    total (onto_first byte words) ≤ suc n + 1
onto_total byte [] n h = omega arith
onto_total byte (word ∷ words) n h = omega (arith, h)

split_total : (is_space : ℕ → Bool) (bytes : List ℕ) → total (slice_split is_space bytes) ≤ length bytes + 1
split_total is_space [] = omega arith
split_total is_space (byte ∷ bytes) = split (is_space byte) (split_total is_space bytes)
  where
    split : (t : Bool) → total (slice_split is_space bytes) ≤ length bytes + 1 →
        total (cond t ([] ∷ slice_split is_space bytes) (onto_first byte (slice_split is_space bytes)))
        ≤ length (byte ∷ bytes) + 1
    split true h = omega (arith, h)
    split false h = onto_total byte (slice_split is_space bytes) (length bytes) h

one_found : {A : Type 0} {P : A → Type 0} (read : List ℕ → Option A) (t : ℕ) (words : List (List ℕ)) → total words ≤ t
    → ((word : List ℕ) → length word ≤ t → Found P (read word)) → Found P (one read words)
one_found read t [] few h = none
one_found read t (word ∷ []) few h = h word (omega (arith, few))
one_found read t (word ∷ other ∷ words) few h = none

two_found : {A B : Type 0} (P : A → Type 0) (Q : B → Type 0) (first : List ℕ → Option A) (second : List ℕ → Option B)
    (t : ℕ) (words : List (List ℕ)) → total words ≤ t
    → ((word : List ℕ) → length word ≤ t → Found P (first word)) →
    ((word : List ℕ) → length word ≤ t → Found Q (second word)) →
    Found (λ (x : A × B). P x.0 × Q x.1) (two first second words)
two_found P Q first second t [] few f g = none
two_found P Q first second t (word ∷ []) few f g = none
two_found P Q first second t (word ∷ other ∷ []) few f g =
    followed P (λ a. option_map (λ b. (a, b)) (second other)) (first word) (f word (omega (arith, few)))
    (λ a p. mapped Q (λ b. (a, b)) (second other) (g other (omega (arith, few))) (λ b q. (p, q)))
two_found P Q first second t (word ∷ other ∷ another ∷ words) few f g = none

-- ---- numbers and bytes

word_found : (word : List ℕ) → Found IsWord (word_of word)
word_found word = from_read (word_of word) (λ n e. omega (arith, (number_is 0 4294967295 n word e).2))

pub not_negative : (bits n : ℕ) → n < 2 ^ (bits - 1) → InBits bits (pos n)
not_negative bits n h = (omega (arith, ints), omega (arith, ints, h))

pub negative : (bits n : ℕ) → n < 2 ^ (bits - 1) → InBits bits (negsuc n)
negative bits n h = (omega (arith, ints, h), omega (arith, ints))

signed_found : (bits half : ℕ) → half ≡ 2 ^ (bits - 1) → 1 ≤ half → (word : List ℕ) →
    Found (InBits bits) (signed_of half word)
signed_found bits half is some [] = none
signed_found bits half is some (byte ∷ bytes) = either (byte == 45) below above
  where
    below : Found (InBits bits) (option_map (λ n. negsuc (n - 1)) (number_of 1 half bytes))
    below =
        mapped (λ n. n - 1 < half) (λ n. negsuc (n - 1)) (number_of 1 half bytes)
        (from_read (number_of 1 half bytes) (λ n e. let r = number_is 1 half n bytes e in omega (arith, r.1, r.2)))
        (λ n h. negative bits (n - 1) (omega (arith, h, is)))

    above : Found (InBits bits) (option_map (λ n. pos n) (number_of 0 (half - 1) (byte ∷ bytes)))
    above =
        mapped (λ n. n < half) (λ n. pos n) (number_of 0 (half - 1) (byte ∷ bytes))
        (from_read (number_of 0 (half - 1) (byte ∷ bytes))
        (λ n e. let r = number_is 0 (half - 1) n (byte ∷ bytes) e in omega (arith, r.2, some)))
        (λ n h. not_negative bits n (omega (arith, h, is)))

pairs_found : (byte : Option ℕ) (bytes : Option (List ℕ)) (t : ℕ) → Found (λ found. length found ≤ t) bytes →
    Found (λ found. length found ≤ suc (suc t)) (all_of byte bytes)
pairs_found None None t h = none
pairs_found None (Some bytes) t h = none
pairs_found (Some byte) None t h = none
pairs_found (Some byte) (Some bytes) t h = some (let l = h.found in omega (arith, l))

hex_found : (word : List ℕ) → Found (λ bytes. length bytes ≤ length word) (hex_bytes word)
hex_found [] = some (omega arith)
hex_found (high ∷ []) = none
hex_found (high ∷ low ∷ word) =
    pairs_found (pair_value (digit_value high) (digit_value low)) (hex_bytes word) (length word) (hex_found word)

bytes_found : (word : List ℕ) → Found (λ bytes. length bytes ≤ length word) (some_bytes_of word)
bytes_found word =
    followed (λ bytes. length bytes ≤ length word) some_bytes (hex_bytes word) (hex_found word)
    (λ bytes h. either (nat_le 1 (length bytes)) (some h) none)

name_found : (word : List ℕ) → Found (λ name. length name ≤ length word) (name_of word)
name_found [] = none
name_found (byte ∷ bytes) = some (omega arith)

-- ---- instructions

-- an instruction of a line with so many bytes
pub record FitsPlain (t : ℕ) (instruction : Op) : Type 0 where
  pub fits : FitsOp instruction
  pub size : length (op instruction) ≤ 31 + 10 * t

abbrev pub FitsLine : ℕ → TextLine → Type 0
FitsLine t (line.Import name) = length name ≤ t
FitsLine t (line.Memory min) = IsWord min
FitsLine t (line.Global mutable value) = FitsOp (constant_of value)
FitsLine t (line.Data offset bytes) = IsWord offset × (length bytes ≤ t)
FitsLine t (line.Plain instruction) = FitsPlain t instruction
FitsLine t l = Unit {0}

short : (t : ℕ) (instruction : Op) → FitsNumbers instruction → IsSoundOp instruction → length (op instruction) ≤ 31 →
    FitsPlain t instruction
short t instruction numbers sound few = record {
  fits = record { numbers = numbers; sound = sound };
  size = omega (arith, few);
}

bare_found : (t : ℕ) (instruction : Op) (words : List (List ℕ)) → FitsPlain t instruction →
    Found (FitsLine t) (bare instruction words)
bare_found t instruction [] h = some h
bare_found t instruction (word ∷ words) h = none

made_found : {A : Type 0} (t : ℕ) (P : A → Type 0) (make : A → Op) (read : Option A) → Found P read →
    ((x : A) → P x → FitsPlain t (make x)) → Found (FitsLine t) (made make read)
made_found t P make read h g = mapped P (λ x. line.Plain (make x)) read h g

any : {A : Type 0} (read : Option A) → Found (λ x. Unit {0}) read
any read = from_read read (λ x e. tt)

-- an instruction with an index or a label
indexed : (t : ℕ) (make : ℕ → Op) (words : List (List ℕ)) → total words ≤ t →
    ((n : ℕ) → IsWord n → FitsPlain t (make n)) → Found (FitsLine t) (made make (one word_of words))
indexed t make words few h =
    made_found t IsWord make (one word_of words) (one_found word_of t words few (λ word l. word_found word)) h

-- labels, and the last of them
abbrev FitsLabels : ℕ → List ℕ × ℕ → Type 0
FitsLabels t labels = Each IsWord labels.0 × IsWord labels.1 × (length labels.0 ≤ t)

labels_found : (words : List (List ℕ)) → Found (FitsLabels (total words)) (labels_of words)
labels_found [] = none
labels_found (word ∷ []) = mapped IsWord (λ n. ([], n)) (word_of word) (word_found word) (λ n h. (tt, h, omega arith))
labels_found (word ∷ other ∷ words) =
    followed IsWord (λ n. option_map (λ t. (n ∷ t.0, t.1)) (labels_of (other ∷ words))) (word_of word) (word_found word)
    (λ n h.
    mapped (FitsLabels (total (other ∷ words))) (λ t. (n ∷ t.0, t.1)) (labels_of (other ∷ words))
    (labels_found (other ∷ words)) (λ t g. ((h, g.0), g.1, let l = g.2 in omega (arith, l))))

table_fits : (t : ℕ) (words : List (List ℕ)) → total words ≤ t → t ≤ 2097152 → (labels : List ℕ × ℕ) →
    FitsLabels (total words) labels → FitsPlain t (BrTable labels.0 labels.1)
table_fits t words few most labels h =
    let l : length labels.0 ≤ t = let k = h.2 in omega (arith, k, few) in
    record {
      fits = record { numbers = (h.0, h.1); sound = omega (arith, l, most) };
      size = omega (
        arith,
        l,
        length-append (vector number labels.0) (number labels.1),
        vector_size number labels.0,
        items_size number 10 number_size labels.0,
        number_size labels.1,
      );
    }

access_size : (align offset : ℕ) → length (number align ++ number offset) ≤ 20
access_size align offset =
    omega (arith, length-append (number align) (number offset), number_size align, number_size offset)

own_found : (t opcode : ℕ) (words : List (List ℕ)) → total words ≤ t → t ≤ 2097152 →
    Found (FitsLine t) (own_operands opcode words)
unfolding own_operands
own_found t opcode words few most =
    either (opcode == 0x00) (bare_found t Unreachable words (short t Unreachable tt tt (omega arith)))
    (either (opcode == 0x01) (bare_found t Nop words (short t Nop tt tt (omega arith)))
    (either (opcode == 0x02) (made_found t (λ x. Unit {0}) Block (result_of words) (any (result_of words))
    (λ x h. short t (Block x) tt tt (omega arith)))
    (either (opcode == 0x03) (made_found t (λ x. Unit {0}) Loop (result_of words) (any (result_of words))
    (λ x h. short t (Loop x) tt tt (omega arith)))
    (either (opcode == 0x04) (made_found t (λ x. Unit {0}) If (result_of words) (any (result_of words))
    (λ x h. short t (If x) tt tt (omega arith)))
    (either (opcode == 0x05) (bare_found t Else words (short t Else tt tt (omega arith)))
    (either (opcode == 0x0B) (bare_found t End words (short t End tt tt (omega arith)))
    (either (opcode == 0x0C) (indexed t Br words few (λ n h. short t (Br n) h tt (omega (arith, number_size n))))
    (either (opcode == 0x0D) (indexed t BrIf words few (λ n h. short t (BrIf n) h tt (omega (arith, number_size n))))
    (either (opcode == 0x0E) (made_found t (FitsLabels (total words)) (λ t. BrTable t.0 t.1) (labels_of words)
    (labels_found words) (table_fits t words few most))
    (either (opcode == 0x0F) (bare_found t Return words (short t Return tt tt (omega arith)))
    (either (opcode == 0x10)
    (mapped (λ x. Unit {0}) (λ name. line.Call name) (one name_of words) (any (one name_of words)) (λ x h. tt))
    (either (opcode == 0x1A) (bare_found t Drop words (short t Drop tt tt (omega arith)))
    (either (opcode == 0x1B) (bare_found t Select words (short t Select tt tt (omega arith)))
    (either (opcode == 0x20)
    (indexed t LocalGet words few (λ n h. short t (LocalGet n) h tt (omega (arith, number_size n))))
    (either (opcode == 0x21)
    (indexed t LocalSet words few (λ n h. short t (LocalSet n) h tt (omega (arith, number_size n))))
    (either (opcode == 0x22)
    (indexed t LocalTee words few (λ n h. short t (LocalTee n) h tt (omega (arith, number_size n))))
    (either (opcode == 0x23)
    (indexed t GlobalGet words few (λ n h. short t (GlobalGet n) h tt (omega (arith, number_size n))))
    (either (opcode == 0x24)
    (indexed t GlobalSet words few (λ n h. short t (GlobalSet n) h tt (omega (arith, number_size n))))
    (either (opcode == 0x3F) (bare_found t MemorySize words (short t MemorySize tt tt (omega arith)))
    (either (opcode == 0x41)
    (made_found t (InBits 32) I32Const (one (signed_of 2147483648) words)
    (one_found (signed_of 2147483648) t words few (λ word l. signed_found 32 2147483648 refl (omega arith) word))
    (λ z h. short t (I32Const z) h tt (omega (arith, signed_size z))))
    (either (opcode == 0x42)
    (made_found t (InBits 64) I64Const (one (signed_of 9223372036854775808) words)
    (one_found (signed_of 9223372036854775808) t words few
    (λ word l. signed_found 64 9223372036854775808 refl (omega arith) word))
    (λ z h. short t (I64Const z) h tt (omega (arith, signed_size z))))
    none)))))))))))))))))))))

-- an instruction with an alignment and an offset
access_found : (t : ℕ) (make : ℕ → ℕ → Op) (words : List (List ℕ)) → total words ≤ t →
    ((align offset : ℕ) → IsWord align → IsWord offset → FitsPlain t (make align offset))
    → Found (FitsLine t) (made (λ (a : ℕ × ℕ). make a.0 a.1) (two word_of word_of words))
access_found t make words few h =
    made_found t (λ (a : ℕ × ℕ). IsWord a.0 × IsWord a.1) (λ a. make a.0 a.1) (two word_of word_of words)
    (two_found IsWord IsWord word_of word_of t words few (λ word l. word_found word) (λ word l. word_found word))
    (λ a g. h a.0 a.1 g.0 g.1)

operands_found : (form : Form) (t opcode : ℕ) (words : List (List ℕ)) → form_at opcode ≡ form → total words ≤ t →
    t ≤ 2097152 → Found (FitsLine t) (operands form opcode words)
unfolding operands
operands_found forms.Number t opcode words e few most =
    bare_found t (Number opcode) words (short t (Number opcode) tt e (omega arith))
operands_found forms.Load t opcode words e few most =
    access_found t (Load opcode) words few
    (λ align offset f g. short t (Load opcode align offset) (f, g) e (omega (arith, access_size align offset)))
operands_found forms.Store t opcode words e few most =
    access_found t (Store opcode) words few
    (λ align offset f g. short t (Store opcode align offset) (f, g) e (omega (arith, access_size align offset)))
operands_found forms.Other t opcode words e few most = own_found t opcode words few most
operands_found forms.FloatAccess t opcode words e few most = none
operands_found forms.FloatNumber t opcode words e few most = none
operands_found forms.FloatConstant t opcode words e few most = none

-- ---- the other lines

value_found : (kind : ValueType) (word : List ℕ) → Found (λ value. FitsOp (constant_of value)) (value_of kind word)
value_found I32 word =
    mapped (InBits 32) (λ n. constant.I32 n) (signed_of 2147483648 word)
    (signed_found 32 2147483648 refl (omega arith) word) (λ z h. record { numbers = h; sound = tt })
value_found I64 word =
    mapped (InBits 64) (λ n. constant.I64 n) (signed_of 9223372036854775808 word)
    (signed_found 64 9223372036854775808 refl (omega arith) word) (λ z h. record { numbers = h; sound = tt })
value_found F32 word =
    mapped (InBits 64) (λ n. constant.I64 n) (signed_of 9223372036854775808 word)
    (signed_found 64 9223372036854775808 refl (omega arith) word) (λ z h. record { numbers = h; sound = tt })
value_found F64 word =
    mapped (InBits 64) (λ n. constant.I64 n) (signed_of 9223372036854775808 word)
    (signed_found 64 9223372036854775808 refl (omega arith) word) (λ z h. record { numbers = h; sound = tt })

global_found : (t : ℕ) (words : List (List ℕ)) → Found (FitsLine t) (global_of words)
global_found t [] = none
global_found t (kind ∷ []) = none
global_found t (kind ∷ mutable ∷ []) = none
global_found t (kind ∷ mutable ∷ value ∷ []) =
    followed (λ k. Unit {0})
    (λ k. option_and_then (λ m. option_map (λ v. line.Global m v) (value_of k value)) (mutable_of mutable))
    (integer_type_of kind) (any (integer_type_of kind))
    (λ k h. followed (λ m. Unit {0}) (λ m. option_map (λ v. line.Global m v) (value_of k value)) (mutable_of mutable)
    (any (mutable_of mutable))
    (λ m g.
    mapped (λ v. FitsOp (constant_of v)) (λ v. line.Global m v) (value_of k value) (value_found k value) (λ v f. f)))
global_found t (kind ∷ mutable ∷ value ∷ other ∷ words) = none

import_found : (t : ℕ) (words : List (List ℕ)) → total words ≤ t → Found (FitsLine t) (import_of words)
import_found t words few =
    mapped (λ name. length name ≤ t) (λ name. line.Import name) (one name_of words)
    (one_found name_of t words few (λ word l. weaker (name_of word) (name_found word) (λ name h. omega (arith, h, l))))
    (λ name h. h)

memory_found : (t : ℕ) (words : List (List ℕ)) → total words ≤ t → Found (FitsLine t) (memory_of words)
memory_found t words few =
    mapped IsWord (λ min. line.Memory min) (one (number_of 0 16) words)
    (one_found (number_of 0 16) t words few
    (λ word l. from_read (number_of 0 16 word) (λ n e. let r = number_is 0 16 n word e in omega (arith, r.2))))
    (λ min h. h)

data_found : (t : ℕ) (words : List (List ℕ)) → total words ≤ t → Found (FitsLine t) (data_of words)
data_found t words few =
    mapped (λ (d : ℕ × List ℕ). IsWord d.0 × (length d.1 ≤ t)) (λ d. line.Data d.0 d.1)
    (two word_of some_bytes_of words)
    (two_found IsWord (λ bytes. length bytes ≤ t) word_of some_bytes_of t words few (λ word l. word_found word)
    (λ word l. weaker (some_bytes_of word) (bytes_found word) (λ bytes h. omega (arith, h, l))))
    (λ d h. h)

alone_found : (t : ℕ) (l : TextLine) (words : List (List ℕ)) → FitsLine t l → Found (FitsLine t) (alone l words)
alone_found t l [] h = some h
alone_found t l (word ∷ words) h = none

function_found : (t : ℕ) (word : List ℕ) → Found (FitsLine t) (function_of word)
function_found t word =
    either (bytes_eq word (codes "hook")) (some tt) (either (bytes_eq word (codes "cbak")) (some tt) none)

-- ---- a line

-- what a line says fits, where it is right
abbrev pub IfRight : ℕ → Result TextLine AsmRule → Type 0
IfRight t (Ok l) = FitsLine t l
IfRight t (Err rule) = Unit {0}

pub record Right (t : ℕ) (read : Result TextLine AsmRule) : Type 0 where
  pub right : IfRight t read

wrong : {t : ℕ} {rule : AsmRule} → Right t (Err rule)
wrong = record { right = tt }

choose : {t : ℕ} (test : Bool) {a b : Result TextLine AsmRule} → Right t a → Right t b → Right t (if test then a else b)
choose true h g = h
choose false h g = g

shaped_right : (t : ℕ) (read : Option TextLine) → Found (FitsLine t) read → Right t (shaped read)
shaped_right t None h = wrong
shaped_right t (Some l) h = record { right = h.found }

instruction_right : (t : ℕ) (opcode : Option ℕ) (words : List (List ℕ)) → total words ≤ t → t ≤ 2097152 →
    Right t (instruction_read opcode words)
instruction_right t None words few most = wrong
instruction_right t (Some opcode) words few most =
    shaped_right t (operands (form_at opcode) opcode words)
    (operands_found (form_at opcode) t opcode words refl few most)

words_right : (t : ℕ) (words : List (List ℕ)) → total words ≤ t → t ≤ 2097152 → Right t (words_read words)
words_right t [] few most = wrong
words_right t (word ∷ parts) few most =
    let fewer : total parts ≤ t = omega (arith, few) in
    choose (bytes_eq word (codes "import")) (shaped_right t (import_of parts) (import_found t parts fewer))
    (choose (bytes_eq word (codes "memory")) (shaped_right t (memory_of parts) (memory_found t parts fewer))
    (choose (bytes_eq word (codes "global")) (shaped_right t (global_of parts) (global_found t parts))
    (choose (bytes_eq word (codes "data")) (shaped_right t (data_of parts) (data_found t parts fewer))
    (choose (bytes_eq word (codes "func"))
    (shaped_right t (one function_of parts) (one_found function_of t parts fewer (λ w l. function_found t w)))
    (choose (bytes_eq word (codes "local")) (shaped_right t (local_of parts) (mapped (λ kind. Unit {0})
    (λ kind. line.Local kind) (one integer_type_of parts) (any (one integer_type_of parts)) (λ kind h. tt)))
    (choose (bytes_eq word (codes "close"))
    (shaped_right t (alone line.Close parts) (alone_found t line.Close parts tt))
    (choose (bytes_eq word (codes "done")) (shaped_right t (alone line.Done parts) (alone_found t line.Done parts tt))
    (instruction_right t (opcode_in instructions word) parts fewer most))))))))

pub text_right : (t : ℕ) (bytes : List ℕ) → length bytes < t → t ≤ 2097152 → Right t (text_read bytes)
text_right t bytes few most =
    words_right t (words_of bytes) (omega (arith, few, split_total (λ byte. byte == 32) bytes)) most

-- ---- a line without the carriage return at its end and the spaces at its front

trim_size : (bytes : List ℕ) → length (trim bytes) ≤ length bytes
trim_size [] = omega arith
trim_size (byte ∷ []) = split (byte == 13)
  where
    split : (t : Bool) → length (if t then [] else byte ∷ []) ≤ 1
    split true = omega arith
    split false = omega arith
trim_size (byte ∷ next ∷ bytes) = omega (arith, trim_size (next ∷ bytes))

spaces_size : (bytes : List ℕ) → length (without_spaces bytes) ≤ length bytes
spaces_size [] = omega arith
spaces_size (byte ∷ bytes) = split (byte == 32) (spaces_size bytes)
  where
    split : (t : Bool) → length (without_spaces bytes) ≤ length bytes →
        length (if t then without_spaces bytes else byte ∷ bytes) ≤ length (byte ∷ bytes)
    split true h = omega (arith, h)
    split false h = omega arith

pub shown_size : (bytes : List ℕ) → length (shown bytes) ≤ length bytes
shown_size bytes = omega (arith, spaces_size (trim bytes), trim_size bytes)
