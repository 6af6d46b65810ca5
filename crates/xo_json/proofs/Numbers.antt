-- What a value is that holds no fields.
use Rattle.std.proofs.Common.{◌≡◌, ℕ, zero, suc, ◌+◌, ◌-◌, ◌<◌, ◌≤◌, ◌^◌, List, ◌++◌, length, take, drop, replicate}
use Rattle.std.proofs.Common.{map, sym, ap, ◌∙◌, arith, Some, None, length-drop, length-append}
use Rattle.std.specs.Option.{option_and_then}
use Rattle.std.specs.Int.{w64, to_be_bytes, from_be_bytes}
use Rattle.std.proofs.lemmas.List.{take-append-drop, take_at, length-replicate, get_or-drop}
use Rattle.std.proofs.lemmas.Nat.{from_be_bytes-to_be_bytes_8, be_bytes_8}
use Rattle.serde_json.specs.Data.{Data, null, boolean, number, string, array, object, unsigned, negative, float, Items}
use Rattle.serde_json.specs.Data.{Members}
use Rattle.serde_json.specs.Find.{as_str, as_number, as_u64, as_object, as_array}
use Rattle.xo_fields.proofs.Digits.{small-to_be_bytes}
use Rattle.xo_showing.specs.Bytes.{AreBytes, number_of_bytes}
use Rattle.xo_showing.specs.Shows.{lower, lowered}

-- ---- texts

pub text_is : (d : Data) (text : List ℕ) → as_str d ≡ Some text → d ≡ string text
text_is null text e = cc e
text_is (boolean b) text e = cc e
text_is (number n) text e = cc e
text_is (string s) text e = ap string (cc e)
text_is (array ds) text e = cc e
text_is (object ms) text e = cc e

pub no_text : (d : Data) (text : List ℕ) → as_str d ≡ None → lowered d ≡ string text → ⊥
no_text null text e h = cc h
no_text (boolean b) text e h = cc h
no_text (number n) text e h = cc h
no_text (string s) text e h = cc e
no_text (array ds) text e h = cc h
no_text (object ms) text e h = cc h

-- the text of a value that shows as one
pub lower_text : (text shown : List ℕ) → lowered (string text) ≡ string shown → map lower text ≡ shown
lower_text text shown e = cc e

-- ---- objects and arrays

pub object_is : (d : Data) (ms : Members) → as_object d ≡ Some ms → d ≡ object ms
object_is null ms e = cc e
object_is (boolean b) ms e = cc e
object_is (number n) ms e = cc e
object_is (string s) ms e = cc e
object_is (array ds) ms e = cc e
object_is (object ns) ms e = ap object (cc e)

pub no_object : (d : Data) (ms : Members) → as_object d ≡ None → lowered d ≡ object ms → ⊥
no_object null ms e h = cc h
no_object (boolean b) ms e h = cc h
no_object (number n) ms e h = cc h
no_object (string s) ms e h = cc h
no_object (array ds) ms e h = cc h
no_object (object ns) ms e h = cc e

pub array_is : (d : Data) (ds : Items) → as_array d ≡ Some ds → d ≡ array ds
array_is null ds e = cc e
array_is (boolean b) ds e = cc e
array_is (number n) ds e = cc e
array_is (string s) ds e = cc e
array_is (array es) ds e = ap array (cc e)
array_is (object ms) ds e = cc e

-- ---- numbers

pub number_is : (d : Data) (n : ℕ) → option_and_then as_u64 (as_number d) ≡ Some n → d ≡ number (unsigned n)
number_is null n e = cc e
number_is (boolean b) n e = cc e
number_is (number (unsigned m)) n e = ap (λ k. number (unsigned k)) (cc e)
number_is (number (negative z)) n e = cc e
number_is (number (float x)) n e = cc e
number_is (string s) n e = cc e
number_is (array ds) n e = cc e
number_is (object ms) n e = cc e

pub no_number : (d : Data) (n : ℕ) → option_and_then as_u64 (as_number d) ≡ None → lowered d ≡ number (unsigned n) → ⊥
no_number null n e h = cc h
no_number (boolean b) n e h = cc h
no_number (number (unsigned m)) n e h = cc e
no_number (number (negative z)) n e h = cc h
no_number (number (float x)) n e h = cc h
no_number (string s) n e h = cc h
no_number (array ds) n e h = cc h
no_number (object ms) n e h = cc h

zeros_small : (n : ℕ) (value : List ℕ) → AreBytes value → AreBytes (replicate n 0 ++ value)
zeros_small zero value small index = small index
zeros_small (suc n) value small zero = omega arith
zeros_small (suc n) value small (suc index) = zeros_small n value small index

-- the last bytes of a number, those before them being 0
module _ (n size : ℕ) (few : size ≤ 4) where
  pub last_bytes : AreBytes (drop (8 - size) (to_be_bytes w64 n))
  last_bytes index = rw (get_or-drop (8 - size) (to_be_bytes w64 n) index 0) (small-to_be_bytes n (8 - size + index))

  pub last_length : length (drop (8 - size) (to_be_bytes w64 n)) ≡ size
  last_length = omega (arith, length-drop (8 - size) (to_be_bytes w64 n))

  pub last_number : n < 2 ^ 64 → take (8 - size) (to_be_bytes w64 n) ≡ replicate (8 - size) 0 →
      number_of_bytes (drop (8 - size) (to_be_bytes w64 n)) ≡ n
  last_number small zeros =
      ap (λ k. from_be_bytes w64 (replicate (8 - k) 0 ++ drop (8 - size) (to_be_bytes w64 n))) last_length
      ∙ ap (λ front. from_be_bytes w64 (front ++ drop (8 - size) (to_be_bytes w64 n))) (sym zeros)
      ∙ ap (from_be_bytes w64) (take-append-drop (8 - size) (to_be_bytes w64 n)) ∙ from_be_bytes-to_be_bytes_8 n small

  pub zeros_before : (value : List ℕ) → AreBytes value → length value ≡ size → number_of_bytes value ≡ n →
      take (8 - size) (to_be_bytes w64 n) ≡ replicate (8 - size) 0
  zeros_before value small long is =
      let padded : List ℕ = replicate (8 - size) 0 ++ value in
      let eight : length padded ≡ 8 =
      omega (arith, length-append (replicate (8 - size) 0) value, length-replicate {A = ℕ} (8 - size) 0, long) in
      let same : to_be_bytes w64 n ≡ padded =
      be_bytes_8 padded n eight (zeros_small (8 - size) value small)
      (sym is ∙ ap (λ k. from_be_bytes w64 (replicate (8 - k) 0 ++ value)) long) in
      ap (take (8 - size)) same
      ∙ take_at (replicate (8 - size) 0) value (8 - size) (length-replicate {A = ℕ} (8 - size) 0)
