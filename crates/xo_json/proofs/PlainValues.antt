-- Texts of hex digits that stand for bytes, and numbers.
use Rattle.std.proofs.Common.{◌≡◌, ℕ, ◌<◌, ◌≤◌, ◌^◌, ◌-◌, List, length, take, drop, replicate, nat_le, true, false}
use Rattle.std.proofs.Common.{if◌then◌else◌, sym, ap, ◌∙◌, arith, Some, None}
use Rattle.std.specs.Int.{w64, to_be_bytes}
use Rattle.std.proofs.lemmas.Bool.Decides.{nat_tests}
use Rattle.serde_json.specs.Data.{Data, number, string, unsigned}
use Rattle.hk_base.specs.Hexadecimal.{hex_bytes, hex_text}
use Rattle.xo_fields.specs.declared.form.Form.TheVariants.{Fixed}
use Rattle.xo_fields.proofs.Cases.{none_some}
use Rattle.xo_showing.proofs.Amounts.{one_string}
use Rattle.xo_showing.proofs.Bytes.{one_hex}
use Rattle.xo_showing.specs.Bytes.{AreBytes, number_of_bytes}
use Rattle.xo_showing.specs.Showing.{hex, fixed_shown}
use Rattle.xo_showing.specs.Shows.{lowered}
use Rattle.xo_told.specs.Reading.{ShowsValue}
use Rattle.xo_json.proofs.HexCase.{hex_sound, hex_complete}
use Rattle.xo_json.proofs.Numbers.{lower_text, last_bytes, last_length, last_number, zeros_before}
use Rattle.xo_showing.proofs.Values.{one_number}

pub is_hex : (d : Data) (text bytes : List ℕ) → d ≡ string text → hex_bytes text ≡ Some bytes →
    AreBytes bytes × (lowered d ≡ hex bytes)
is_hex d text bytes is found = let told = hex_sound text bytes found in (told.0, ap lowered is ∙ ap string told.1)

pub no_hex : (d : Data) (text bytes : List ℕ) → d ≡ string text → hex_bytes text ≡ None → AreBytes bytes →
    lowered d ≡ hex bytes → ⊥
no_hex d text bytes is none small shows =
    let found : hex_bytes text ≡ Some bytes =
    hex_complete text bytes small (lower_text text (hex_text bytes) (sym (ap lowered is) ∙ shows)) in
    none_some bytes (sym none ∙ found)

-- one value shows as one list of bytes
pub hex_length : (d : Data) (bytes value : List ℕ) → AreBytes bytes × (lowered d ≡ hex bytes) → AreBytes value →
    lowered d ≡ hex value → length value ≡ length bytes
hex_length d bytes value told small shows =
    ap length (one_hex value bytes small told.0 (one_string (hex_text value) (hex_text bytes) (sym shows ∙ told.1)))

-- numbers of at most four bytes show as numbers, longer ones and hashes as hex
few_is : (size : ℕ) → size ≤ 4 → nat_le size 4 ≡ true
few_is size few = grind (arith, nat_tests)

many_is : (size : ℕ) → 4 < size → nat_le size 4 ≡ false
many_is size many = grind (arith, nat_tests)

pub fixed_number : (size : ℕ) (value : List ℕ) → size ≤ 4 →
    fixed_shown size value ≡ number (unsigned (number_of_bytes value))
fixed_number size value few =
    ap (λ b. if b then number (unsigned (number_of_bytes value)) else hex value) (few_is size few)

pub fixed_hex : (size : ℕ) (value : List ℕ) → 4 < size → fixed_shown size value ≡ hex value
fixed_hex size value many =
    ap (λ b. if b then number (unsigned (number_of_bytes value)) else hex value) (many_is size many)

-- the last bytes of a number show as it, where those before them are 0
pub number_shows : (room n size : ℕ) (d : Data) → size ≤ 4 → n < 2 ^ 64 → d ≡ number (unsigned n) →
    take (8 - size) (to_be_bytes w64 n) ≡ replicate (8 - size) 0 →
    ShowsValue room (Fixed size) d (drop (8 - size) (to_be_bytes w64 n))
number_shows room n size d few small is zeros =
    let value : List ℕ = drop (8 - size) (to_be_bytes w64 n) in
    record {
      bytes = last_bytes n size few;
      fits = last_length n size few;
      shows =
          ap lowered is
          ∙ ap (λ k. number (unsigned k)) (sym (last_number n size few small zeros))
          ∙ sym (fixed_number size value few);
    }

pub no_number_shows : (room n size : ℕ) (d : Data) (value : List ℕ) → size ≤ 4 → d ≡ number (unsigned n) →
    ShowsValue room (Fixed size) d value →
    take (8 - size) (to_be_bytes w64 n) ≡ replicate (8 - size) 0
no_number_shows room n size d value few is s =
    let same : n ≡ number_of_bytes value =
    one_number n (number_of_bytes value) (sym (ap lowered is) ∙ s.shows ∙ fixed_number size value few) in
    zeros_before n size few value s.bytes s.fits (sym same)
