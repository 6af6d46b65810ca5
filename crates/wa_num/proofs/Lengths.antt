-- How long a memory is.
use Rattle.std.proofs.Common.{◌≡◌, ℕ, ◌+◌, ◌≤◌, Bool, true, false, List, ◌++◌, length, take, drop, refl, arith}
use Rattle.std.proofs.Common.{length-append, length-take, length-drop, if◌then◌else◌}
use Rattle.std.proofs.lemmas.Bool.Decides.{nat_tests}
use Rattle.wa_num.specs.Memory.{fits, written}

front_stays : (m : List ℕ) (at : ℕ) (bytes : List ℕ) → at + length bytes ≤ length m →
    length (take at m ++ bytes ++ drop (at + length bytes) m) ≡ length m
front_stays m at bytes within =
    omega (arith, length-append {A = ℕ}, length-take {A = ℕ}, length-drop {A = ℕ})

-- a memory that is written keeps its length
pub length-written : (m : List ℕ) (at : ℕ) (bytes : List ℕ) → length (written m at bytes) ≡ length m
length-written m at bytes = by_test (fits m at (length bytes)) refl
  where
    by_test : (b : Bool) → fits m at (length bytes) ≡ b →
        length (if b then take at m ++ bytes ++ drop (at + length bytes) m else m) ≡ length m
    by_test false e = refl
    by_test true e = front_stays m at bytes (grind (arith, nat_tests))
