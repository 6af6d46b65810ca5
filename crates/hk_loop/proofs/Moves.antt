-- Bytes that are taken or written in steps.
use Rattle.std.proofs.lemmas.List.{take-append-drop, take_rest}
use Rattle.std.proofs.lemmas.Bool.{eqb-true}
use Rattle.std.proofs.Common.{◌≡◌, ℕ, ◌-◌, ◌==◌, true, ◌∷◌, arith, List, [], ◌++◌, take, drop, length, Option, Some}
use Rattle.std.proofs.Common.{None, ap, sym, ◌∙◌, refl, append_assoc, append-nil}
use Rattle.std.specs.Io.KnownBytes.{Consumes, Appends, Keeps}

-- no bytes are taken
pub takes_none : (known : Option (List ℕ)) → Consumes known known []
takes_none None = tt
takes_none (Some left) = refl

-- some bytes are taken, and then more
pub takes_more : (a b c : Option (List ℕ)) (first more : List ℕ) → Consumes a b first → Consumes b c more →
    Consumes a c (first ++ more)
takes_more None b c first more h k = tt
takes_more (Some a) None c first more h k = absurd h
takes_more (Some a) (Some b) None first more h k = absurd k
takes_more (Some a) (Some b) (Some c) first more h k =
    h ∙ ap (λ left. first ++ left) k ∙ sym (append_assoc first more c)

-- nothing is taken where what is known stays
pub takes_kept : (a b : Option (List ℕ)) → Keeps a b → Consumes a b []
takes_kept None b h = tt
takes_kept (Some a) None h = h
takes_kept (Some a) (Some b) h = sym h

-- nothing is written
pub writes_none : (known : Option (List ℕ)) → Appends known known []
writes_none None = tt
writes_none (Some written) = sym (append-nil written)

-- nothing is written where what is known stays
pub writes_kept : (a b : Option (List ℕ)) → Keeps a b → Appends a b []
writes_kept None b h = tt
writes_kept (Some a) None h = h
writes_kept (Some a) (Some b) h = h ∙ sym (append-nil a)

-- some bytes are written, and then more
pub writes_more : (a b c : Option (List ℕ)) (first more : List ℕ) → Appends a b first → Appends b c more →
    Appends a c (first ++ more)
writes_more None b c first more h k = tt
writes_more (Some a) None c first more h k = absurd h
writes_more (Some a) (Some b) None first more h k = absurd k
writes_more (Some a) (Some b) (Some c) first more h k =
    k ∙ ap (λ written. written ++ more) h ∙ append_assoc a first more

-- some bytes are written, and then nothing
pub writes_still : (a b c : Option (List ℕ)) (front : List ℕ) → Appends a b front → Keeps b c → Appends a c front
writes_still None b c front h k = tt
writes_still (Some a) None c front h k = absurd h
writes_still (Some a) (Some b) None front h k = k
writes_still (Some a) (Some b) (Some c) front h k = k ∙ h

-- a text whose next n bytes are written
pub front_grows : (text front rest : List ℕ) (n : ℕ) → text ≡ front ++ rest →
    text ≡ (front ++ take n rest) ++ take (length rest - n) (drop n rest)
front_grows text front rest n is =
    is ∙ ap (λ l. front ++ l) (sym (take-append-drop n rest))
    ∙ sym (append_assoc front (take n rest) (drop n rest))
    ∙ ap (λ l. (front ++ take n rest) ++ l) (sym (take_rest rest n))

-- a text of which nothing is left is its front
pub all_front : (text front rest : List ℕ) → text ≡ front ++ rest → length rest == 0 ≡ true → front ≡ text
all_front text front [] is h = sym (is ∙ append-nil front)
all_front text front (byte ∷ rest) is h = let no : length (byte ∷ rest) ≡ 0 = eqb-true _ _ h in absurd (omega arith)
