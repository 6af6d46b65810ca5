-- What a test and a comparison of texts say.
use Rattle.std.proofs.Common.{◌≡◌, ℕ, List, Bool, true, false, IsTrue, refl}
use Rattle.std.specs.Prelude.{not, bytes_eq}
use Rattle.std.proofs.lemmas.Slice.Eq.{bytes_eq-Decides}

same_if : (b : Bool) → false ≡ not b → b ≡ true
same_if true e = refl
same_if false e = cc e

other_if : (b : Bool) → true ≡ not b → b ≡ true → ⊥
other_if true e h = cc e
other_if false e h = cc h

pub compared_same : (xs ys : List ℕ) → false ≡ not (bytes_eq xs ys) → xs ≡ ys
compared_same xs ys e = (bytes_eq-Decides xs ys).0 (same_if (bytes_eq xs ys) e)

pub compared_other : (xs ys : List ℕ) → true ≡ not (bytes_eq xs ys) → xs ≡ ys → ⊥
compared_other xs ys e same = other_if (bytes_eq xs ys) e ((bytes_eq-Decides xs ys).1 same)

pub never_true : (b : Bool) → IsTrue b → b ≡ false → ⊥
never_true true t e = cc e
never_true false t e = cc t
