-- Which bytes words spell in hex.
use Rattle.std.proofs.Common.{◌≡◌, ℕ, ◌*◌, ◌/◌, ◌%◌, ◌==◌, true, false, List, [], ◌∷◌, length, Option, Some, None}
use Rattle.std.proofs.Common.{Result, Ok, Err, refl, sym, ◌∙◌, arith, option_and_then, eq-eqb, inl, inr}
use Rattle.std.proofs.lemmas.Bool.{cases_eq}
use Rattle.std.proofs.lemmas.Bool.Decides.{nat_tests}
use Rattle.std.specs.Result.{result_ok}
use Rattle.hex.specs.declared.error.FromHexError.{FromHexError}
use Rattle.hex.specs.Hex.{decode_sized, decode_pairs}
use Rattle.hk_base.specs.Hexadecimal.{hex_bytes, digit_value, pair_value, all_of}
use Rattle.hk_base.proofs.HexText.{value_of, decode_of-is, odd_none}
use Rattle.hk_lines.specs.Words.{sized, sized_bytes_of}
use Rattle.hk_base.proofs.HexText.{odd_none}

-- a byte before bytes
all_of-some : (byte : Option ℕ) (rest : Option (List ℕ)) (bytes : List ℕ) → all_of byte rest ≡ Some bytes →
    (first : ℕ) × (more : List ℕ) × (rest ≡ Some more) × (bytes ≡ first ∷ more)
all_of-some (Some first) (Some more) bytes h = (first, more, refl, cc h)
all_of-some (Some first) None bytes h = cc h
all_of-some None rest bytes h = cc h

-- a text has two digits for each of its bytes
pub hex_length : (text bytes : List ℕ) → hex_bytes text ≡ Some bytes → length text ≡ 2 * length bytes
hex_length [] bytes h = let none : [] ≡ bytes = cc h in rw (← none) refl
hex_length (high ∷ []) bytes h = cc h
hex_length (high ∷ low ∷ text) bytes h =
    let parts = all_of-some (pair_value (digit_value high) (digit_value low)) (hex_bytes text) bytes h in
    let rest : length text ≡ 2 * length parts.1 = hex_length text parts.1 parts.2 in
    rw parts.3 (omega (arith, rest))

-- where a text has two digits for each of so many bytes, its bytes are so many
all_sized : (text : List ℕ) (size : ℕ) (found : Option (List ℕ)) → hex_bytes text ≡ found → length text / 2 ≡ size →
    found ≡ option_and_then (sized size) found
all_sized text size None h half = refl
all_sized text size (Some bytes) h half =
    let digits = hex_length text bytes h in
    let test : (length bytes == size) ≡ true = eq-eqb (length bytes) size (omega (arith, digits, half)) in
    rw test refl

-- and where it hasn't, they aren't
none_sized : (text : List ℕ) (size : ℕ) (found : Option (List ℕ)) → hex_bytes text ≡ found →
    (length text / 2 ≡ size → ⊥) →
    None ≡ option_and_then (sized size) found
none_sized text size None h half = refl
none_sized text size (Some bytes) h half =
    let digits = hex_length text bytes h in
    let other : length bytes ≡ size → ⊥ = λ e. half (omega (arith, digits, e)) in
    let test : (length bytes == size) ≡ false = grind (arith, nat_tests) in
    rw test refl

-- what the crate `hex` reads into room for so many bytes
pub decode_sized-is : (text : List ℕ) (size : ℕ) → value_of (decode_sized text size) ≡ sized_bytes_of size text
decode_sized-is text size =
    elim (cases_eq (length text % 2) 1) [
      | inl odd ↦ rw (odd, odd_none text odd) refl
      | inr even ↦
          let odd_test : (length text % 2 == 1) ≡ false = grind (arith, nat_tests) in
          let read : value_of (decode_pairs 0 text) ≡ hex_bytes text = rw odd_test at (decode_of-is text) in
          elim (cases_eq (length text / 2) size) [
            | inl half ↦
                let half_test : (length text / 2 == size) ≡ true = eq-eqb (length text / 2) size half in
                rw (odd_test, half_test) (read ∙ all_sized text size (hex_bytes text) refl half)
            | inr other ↦
                let half_test : (length text / 2 == size) ≡ false = grind (arith, nat_tests) in
                rw (odd_test, half_test) (none_sized text size (hex_bytes text) refl other)
          ]
    ]

-- the value of an answer, if it has one, in the words of std
pub result_ok-is : {A : Type 0} (answer : Result A FromHexError) → result_ok answer ≡ value_of answer
result_ok-is (Ok value) = refl
result_ok-is (Err error) = refl
