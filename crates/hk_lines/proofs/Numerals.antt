-- Which numbers words spell.
use Rattle.std.proofs.Common.{◌≡◌, ℕ, ◌<◌, ◌≤◌, ◌^◌, ◌&&◌, Bool, true, false, nat_le, if◌then◌else◌, List, Option, Some}
use Rattle.std.proofs.Common.{None, refl, sym, ap, ◌∙◌, arith}
use Rattle.std.proofs.lemmas.Bool.{and_parts}
use Rattle.std.proofs.lemmas.Bool.Decides.{nat_tests}
use Rattle.std.proofs.lemmas.Slice.Eq.{bytes_eq-Decides}
use Rattle.std.proofs.lemmas.Fmt.{decimal_is_IsNumeral}
use Rattle.std.specs.Fmt.{decimal}
use Rattle.std.specs.Str.{bytes_eq}
use Rattle.std.specs.Str.Parse.{digits_value}
use Rattle.hk_lines.specs.Words.{number_of}

-- a value that stands under a test
pub some_if : {A : Type 0} (test : Bool) (value found : A) → (if test then Some value else None) ≡ Some found →
    (test ≡ true) × (value ≡ found)
some_if true value found h = (refl, cc h)
some_if false value found h = cc h

-- a word that has a number is its decimal, and the number is in the range
pub number_is : (least most number : ℕ) (word : List ℕ) → number_of least most word ≡ Some number →
    (word ≡ decimal number) × (least ≤ number) × (number ≤ most)
number_is least most number word h =
    let parts = some_if _ _ _ h in
    let tests = and_parts _ _ parts.0 in
    let range = and_parts _ _ tests.1 in
    let value : digits_value 10 word ≡ number = parts.1 in
    let low : nat_le least (digits_value 10 word) ≡ true = range.0 in
    let high : nat_le (digits_value 10 word) most ≡ true = range.1 in
    let text : word ≡ decimal (digits_value 10 word) =
    (bytes_eq-Decides word (decimal (digits_value 10 word))).0 tests.0 in
    (text ∙ ap decimal value, grind (arith, nat_tests), grind (arith, nat_tests))

-- the decimal of a number in the range has that number
pub number_has : (least most number : ℕ) → most < 2 ^ 64 → least ≤ number → number ≤ most →
    number_of least most (decimal number) ≡ Some number
number_has least most number small low high =
    let value : digits_value 10 (decimal number) ≡ number = (decimal_is_IsNumeral number (omega arith)).1 in
    let text : bytes_eq (decimal number) (decimal number) ≡ true =
    (bytes_eq-Decides (decimal number) (decimal number)).1 refl in
    let low_test : nat_le least number ≡ true = grind (arith, nat_tests) in
    let high_test : nat_le number most ≡ true = grind (arith, nat_tests) in
    rw (value, text, low_test, high_test) refl

-- a word has no number where none fits
no_number : (least most : ℕ) (word : List ℕ) (found : Option ℕ) → number_of least most word ≡ found →
    ((number : ℕ) → word ≡ decimal number → least ≤ number → number ≤ most → ⊥) → found ≡ None
no_number least most word (Some number) h none =
    let is = number_is least most number word h in
    absurd (none number is.0 is.1 is.2)
no_number least most word None h none = refl

pub number_none : (least most : ℕ) (word : List ℕ) →
    ((number : ℕ) → word ≡ decimal number → least ≤ number → number ≤ most → ⊥) → None ≡ number_of least most word
number_none least most word none = sym (no_number least most word (number_of least most word) refl none)
