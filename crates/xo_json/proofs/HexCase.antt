-- A text in hex digits of either case has these bytes exactly where it is their text, up to the case of letters.
use Rattle.std.proofs.Common.{◌≡◌, ℕ, suc, zero, ◌+◌, ◌*◌, ◌/◌, ◌%◌, ◌<◌, List, [], ◌∷◌, map, Option, Some, None, refl}
use Rattle.std.proofs.Common.{sym, ◌∙◌, arith, if◌then◌else◌, nat_lt}
use Rattle.std.proofs.lemmas.Bool.Decides.{nat_tests}
use Rattle.hk_base.specs.Hexadecimal.{digit_value, pair_value, all_of, hex_bytes, lower_digit, hex_text}
use Rattle.xo_showing.specs.Bytes.{AreBytes}
use Rattle.xo_showing.specs.Shows.{lower}
use Rattle.xo_told.proofs.SpelledBytes.{more_bytes}

-- the sixteen digits
digit_is : (n : ℕ) → n < 16 → lower_digit n ≡ (if nat_lt n 10 then 48 + n else 87 + n)
digit_is zero h = refl
digit_is (suc zero) h = refl
digit_is (suc (suc zero)) h = refl
digit_is (suc (suc (suc zero))) h = refl
digit_is (suc (suc (suc (suc zero)))) h = refl
digit_is (suc (suc (suc (suc (suc zero))))) h = refl
digit_is (suc (suc (suc (suc (suc (suc zero)))))) h = refl
digit_is (suc (suc (suc (suc (suc (suc (suc zero))))))) h = refl
digit_is (suc (suc (suc (suc (suc (suc (suc (suc zero)))))))) h = refl
digit_is (suc (suc (suc (suc (suc (suc (suc (suc (suc zero))))))))) h = refl
digit_is (suc (suc (suc (suc (suc (suc (suc (suc (suc (suc zero)))))))))) h = refl
digit_is (suc (suc (suc (suc (suc (suc (suc (suc (suc (suc (suc zero))))))))))) h = refl
digit_is (suc (suc (suc (suc (suc (suc (suc (suc (suc (suc (suc (suc zero)))))))))))) h = refl
digit_is (suc (suc (suc (suc (suc (suc (suc (suc (suc (suc (suc (suc (suc zero))))))))))))) h = refl
digit_is (suc (suc (suc (suc (suc (suc (suc (suc (suc (suc (suc (suc (suc (suc zero)))))))))))))) h = refl
digit_is (suc (suc (suc (suc (suc (suc (suc (suc (suc (suc (suc (suc (suc (suc (suc zero))))))))))))))) h = refl
digit_is (suc (suc (suc (suc (suc (suc (suc (suc (suc (suc (suc (suc (suc (suc (suc (suc n)))))))))))))))) h =
    absurd (omega arith)

digit_shown : (c n : ℕ) → digit_value c ≡ Some n → (n < 16) × (lower c ≡ (if nat_lt n 10 then 48 + n else 87 + n))
digit_shown c n h = grind (arith, nat_tests)

digit_told : (c n : ℕ) → n < 16 → lower c ≡ (if nat_lt n 10 then 48 + n else 87 + n) → digit_value c ≡ Some n
digit_told c n small h = grind (arith, nat_tests)

-- a digit of either case is the digit of its number, up to the case of letters
value_digit : (c n : ℕ) → digit_value c ≡ Some n → (n < 16) × (lower c ≡ lower_digit n)
value_digit c n h = let shown = digit_shown c n h in (shown.0, shown.1 ∙ sym (digit_is n shown.0))

digit_value-lower : (c n : ℕ) → n < 16 → lower c ≡ lower_digit n → digit_value c ≡ Some n
digit_value-lower c n small h = digit_told c n small (h ∙ digit_is n small)

-- the byte of two digits
pair_is : (high low : Option ℕ) (byte : ℕ) → pair_value high low ≡ Some byte →
    (h : ℕ) × (l : ℕ) × (high ≡ Some h) × (low ≡ Some l) × (h * 16 + l ≡ byte)
pair_is None low byte e = cc e
pair_is (Some h) None byte e = cc e
pair_is (Some h) (Some l) byte e = (h, l, refl, refl, cc e)

-- a byte and those after it
all_is : (byte : Option ℕ) (rest : Option (List ℕ)) (bytes : List ℕ) → all_of byte rest ≡ Some bytes →
    (b : ℕ) × (bs : List ℕ) × (byte ≡ Some b) × (rest ≡ Some bs) × (b ∷ bs ≡ bytes)
all_is None rest bytes e = cc e
all_is (Some b) None bytes e = cc e
all_is (Some b) (Some bs) bytes e = (b, bs, refl, refl, cc e)

-- the bytes of a text are bytes, and their text is the text in lower case
pub hex_sound : (text bytes : List ℕ) → hex_bytes text ≡ Some bytes → AreBytes bytes × (map lower text ≡ hex_text bytes)
hex_sound [] [] h = (λ index. omega arith, refl)
hex_sound [] (b ∷ bs) h = cc h
hex_sound (high ∷ []) bytes h = cc h
hex_sound (high ∷ low ∷ text) [] h = let all = all_is _ _ _ h in cc all.4
hex_sound (high ∷ low ∷ text) (b ∷ bs) h =
    let all = all_is _ _ _ h in
    let pair = pair_is _ _ _ all.2 in
    let first = value_digit high pair.0 pair.2 in
    let second = value_digit low pair.1 pair.3 in
    let rest = hex_sound text all.1 all.3 in
    let is : b ≡ pair.0 * 16 + pair.1 = cc (all.4, pair.4) in
    let tail : bs ≡ all.1 = cc (all.4) in
    let up : pair.0 ≡ b / 16 = omega (arith, is, first.0, second.0) in
    let down : pair.1 ≡ b % 16 = omega (arith, is, first.0, second.0) in
    rw (tail, ← up, ← down)
    (more_bytes b all.1 (omega (arith, is, first.0, second.0)) rest.0, λ i. first.1 i ∷ second.1 i ∷ rest.1 i)

pub hex_complete : (text bytes : List ℕ) → AreBytes bytes → map lower text ≡ hex_text bytes →
    hex_bytes text ≡ Some bytes
hex_complete [] [] small h = refl
hex_complete [] (b ∷ bs) small h = cc h
hex_complete (high ∷ []) [] small h = cc h
hex_complete (high ∷ []) (b ∷ bs) small h = cc h
hex_complete (high ∷ low ∷ text) [] small h = cc h
hex_complete (high ∷ low ∷ text) (b ∷ bs) small h =
    let first : lower high ≡ lower_digit (b / 16) = cc h in
    let second : lower low ≡ lower_digit (b % 16) = cc h in
    let more : map lower text ≡ hex_text bs = cc h in
    let one = digit_value-lower high (b / 16) (omega (arith, small 0)) first in
    let other = digit_value-lower low (b % 16) (omega arith) second in
    let rest = hex_complete text bs (λ index. small (suc index)) more in
    let whole : b / 16 * 16 + b % 16 ≡ b = omega arith in
    rw (one, other, rest, whole) refl
