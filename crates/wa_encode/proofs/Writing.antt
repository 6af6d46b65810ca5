-- The loops that write numbers and items.
use Rattle.std.proofs.Common.{◌≡◌, ℕ, zero, suc, ℤ, pos, negsuc, ◌+◌, ◌-◌, ◌*◌, ◌/◌, ◌%◌, ◌^◌, ◌<◌, ◌≤◌, true, false}
use Rattle.std.proofs.Common.{nat_lt, nat_le, int_lt, int_le, FitsSigned, w64, List, [], ◌∷◌, ◌++◌, refl, ◌∙◌}
use Rattle.std.proofs.Common.{append_assoc, arith}
use Rattle.std.proofs.lemmas.Bool.{lt-ltb, le-ltb, and_left, and_right, and_from}
use Rattle.std.proofs.lemmas.Bool.Decides.{nat_tests}
use Rattle.wa_decode.proofs.Powers.{seven_more, at_most}
use Rattle.wa_encode.specs.Numbers.{shortest, is_short, low_bits, high_bits, shortest_signed}
use Rattle.wa_encode.proofs.Shortest.{wide, Within, high_within, wide_signed, long_beyond}

-- ---- unsigned numbers

-- What is written so far, with the shortest bytes of what is left behind it, is the whole; what is left fits in so many
-- bytes more.
pub record Goes (whole out : List ℕ) (rest : ℕ) : Type 0 where
  pub more : ℕ
  pub bits : ℕ
  pub room : bits ≤ 7 * suc more
  pub below : rest < 2 ^ bits
  pub total : out ++ shortest more rest ≡ whole

pub begins : (out : List ℕ) (n : ℕ) → n < 2 ^ 64 → Goes (out ++ shortest 9 n) out n
begins out n small = record { more = 9; bits = 64; room = omega arith; below = small; total = refl }

next_byte : (whole out : List ℕ) (rest more bits : ℕ) → 128 ≤ rest → bits ≤ 7 * suc more → rest < 2 ^ bits →
    out ++ shortest more rest ≡ whole → Goes whole (out ++ (128 + rest % 128) ∷ []) (rest / 128)
unfolding shortest
next_byte whole out rest zero bits least room below total = absurd (omega (arith, at_most bits 7))
next_byte whole out rest (suc more) bits least room below total =
    let wider : 7 < bits = wide bits rest least below in
    let power : 2 ^ bits ≡ 128 * 2 ^ (bits - 7) = seven_more bits wider in
    let t : nat_lt rest 128 ≡ false = le-ltb rest 128 least in
    let now : out ++ (128 + rest % 128) ∷ shortest more (rest / 128) ≡ whole = rw t at total in
    record {
      more = more;
      bits = bits - 7;
      room = omega arith;
      below = omega arith;
      total = append_assoc out ((128 + rest % 128) ∷ []) (shortest more (rest / 128)) ∙ now;
    }

pub goes_on : (whole out : List ℕ) (rest : ℕ) → 128 ≤ rest → Goes whole out rest →
    Goes whole (out ++ (128 + rest % 128) ∷ []) (rest / 128)
goes_on whole out rest least g = next_byte whole out rest g.more g.bits least g.room g.below g.total

last_byte : (whole out : List ℕ) (rest more : ℕ) → rest < 128 → out ++ shortest more rest ≡ whole →
    out ++ rest ∷ [] ≡ whole
unfolding shortest
last_byte whole out rest zero small total = total
last_byte whole out rest (suc more) small total =
    let t : nat_lt rest 128 ≡ true = lt-ltb rest 128 small in rw t at total

pub ends : (whole out : List ℕ) (rest : ℕ) → rest < 128 → Goes whole out rest → out ++ rest ∷ [] ≡ whole
ends whole out rest small g = last_byte whole out rest g.more small g.total

-- ---- signed numbers

pub record GoesSigned (whole out : List ℕ) (rest : ℤ) : Type 0 where
  pub more : ℕ
  pub bits : ℕ
  pub room : bits ≤ 7 * suc more
  pub below : Within (2 ^ (bits - 1)) rest
  pub total : out ++ shortest_signed more rest ≡ whole

pub begins_signed : (out : List ℕ) (z : ℤ) → FitsSigned w64 z → GoesSigned (out ++ shortest_signed 9 z) out z
begins_signed out (pos n) small = record { more = 9; bits = 64; room = omega arith; below = small.sfits; total = refl }
begins_signed out (negsuc n) small = record {
  more = 9;
  bits = 64;
  room = omega arith;
  below = small.sfits;
  total = refl;
}

next_signed : (whole out : List ℕ) (rest : ℤ) (more bits : ℕ) → is_short rest ≡ false → bits ≤ 7 * suc more →
    Within (2 ^ (bits - 1)) rest → out ++ shortest_signed more rest ≡ whole
    → GoesSigned whole (out ++ (128 + low_bits rest) ∷ []) (high_bits rest)
unfolding shortest_signed
next_signed whole out rest zero bits long room below total =
    absurd (omega (arith, wide_signed bits rest (long_beyond rest long) below))
next_signed whole out rest (suc more) bits long room below total =
    let wider : 7 < bits = wide_signed bits rest (long_beyond rest long) below in
    let now : out ++ (128 + low_bits rest) ∷ shortest_signed more (high_bits rest) ≡ whole = rw long at total in
    record {
      more = more;
      bits = bits - 7;
      room = omega arith;
      below = high_within bits rest wider below;
      total = append_assoc out ((128 + low_bits rest) ∷ []) (shortest_signed more (high_bits rest)) ∙ now;
    }

-- what the code's tests say of a number
pub long_low : (z : ℤ) → int_lt z (negsuc 63) ≡ true → is_short z ≡ false
long_low (pos n) t = absurd cc
long_low (negsuc n) t = let l : nat_le n 63 ≡ false = grind (arith, nat_tests) in and_left (nat_le n 63) true l

pub long_high : (z : ℤ) → int_le (pos 64) z ≡ true → is_short z ≡ false
long_high (pos n) t = let l : nat_lt n 64 ≡ false = grind (arith, nat_tests) in and_right true (nat_lt n 64) l
long_high (negsuc n) t = absurd cc

pub short_between : (z : ℤ) → int_lt z (negsuc 63) ≡ false → int_le (pos 64) z ≡ false → is_short z ≡ true
short_between (pos n) t u = let l : nat_lt n 64 ≡ true = grind (arith, nat_tests) in and_from true (nat_lt n 64) refl l
short_between (negsuc n) t u =
    let l : nat_le n 63 ≡ true = grind (arith, nat_tests) in and_from (nat_le n 63) true l refl

pub goes_on_signed : (whole out : List ℕ) (rest : ℤ) → is_short rest ≡ false → GoesSigned whole out rest →
    GoesSigned whole (out ++ (128 + low_bits rest) ∷ []) (high_bits rest)
goes_on_signed whole out rest long g = next_signed whole out rest g.more g.bits long g.room g.below g.total

last_signed : (whole out : List ℕ) (rest : ℤ) (more : ℕ) → is_short rest ≡ true →
    out ++ shortest_signed more rest ≡ whole → out ++ low_bits rest ∷ [] ≡ whole
unfolding shortest_signed
last_signed whole out rest zero small total = total
last_signed whole out rest (suc more) small total = rw small at total

pub ends_signed : (whole out : List ℕ) (rest : ℤ) → is_short rest ≡ true → GoesSigned whole out rest →
    out ++ low_bits rest ∷ [] ≡ whole
ends_signed whole out rest small g = last_signed whole out rest g.more small g.total
