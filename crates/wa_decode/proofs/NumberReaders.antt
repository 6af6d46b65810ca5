-- LEB128 numbers and vectors are read as they are spelled.
use Rattle.std.proofs.Common.{◌≡◌, ℕ, zero, suc, ℤ, pos, ◌+◌, ◌-◌, ◌*◌, ◌^◌, ◌≤◌, ◌+ℤ◌, ◌-ℤ◌, ◌*ℤ◌, ◌⊎◌, inl, inr, Bool}
use Rattle.std.proofs.Common.{true, false, nat_lt, nat_le, if◌then◌else◌, List, [], ◌∷◌, ◌++◌, length, take, drop}
use Rattle.std.proofs.Common.{Option, Some, None, refl, sym, ap, ap₂, ◌∙◌, subst, append_assoc, length-append, arith}
use Rattle.std.proofs.lemmas.Bool.{ltb-true, lt-ltb, ltb-false, le-ltb, leb-true, le-leb}
use Rattle.std.proofs.lemmas.List.{append-nil, take-append-drop, length-take-le}
use Rattle.wa_decode.specs.Grammar.{IsUnsigned, IsSigned, SpellsAll, SpellsVector, SpellsBytes, SpellsSized}
use Rattle.wa_decode.specs.Reading.{◌>>=◌, ended, whole_at, wider, wider_signed, unsigned_at, signed_at, cut_at}
use Rattle.wa_decode.specs.Reading.{bytes_at, items_at, vector_at, sized_at}
use Rattle.wa_decode.proofs.Readers.{Reader, bind_some, guard_some, choice_some, some_both, some_pair, pair_of}

-- ---- unsigned numbers

pub unsigned_forth : (bits n : ℕ) (front rest : List ℕ) → IsUnsigned bits n front →
    unsigned_at bits (front ++ rest) ≡ Some (n, rest)
unfolding unsigned_at
unsigned_forth bits n [] rest h = absurd h
unsigned_forth bits n (b ∷ bs) rest (inl h) =
    rw (lt-ltb b 128 h.0, lt-ltb b (2 ^ bits) h.1) (pair_of b n (bs ++ rest) rest (sym h.2) (ap (λ xs. xs ++ rest) h.3))
unsigned_forth bits n (b ∷ bs) rest (inr h) =
    rw (le-ltb b 128 h.0, lt-ltb 7 bits h.1, unsigned_forth (bits - 7) h.2 bs rest h.4)
    (pair_of ((b - 128) + 128 * h.2) n rest rest (sym h.3) refl)

-- what an unsigned number was read from
abbrev pub UnsignedBack : ℕ → List ℕ → ℕ → List ℕ → Type 0
UnsignedBack bits bytes n rest = (front : List ℕ) × IsUnsigned bits n front × (bytes ≡ front ++ rest)

-- the readings by the first byte: below 128, and further on
abbrev pub last_at : ℕ → ℕ → List ℕ → Option (ℕ × List ℕ)
last_at bits b bs = if nat_lt b (2 ^ bits) then Some (b, bs) else None

abbrev pub longer_at : ℕ → ℕ → List ℕ → Option (ℕ × List ℕ)
longer_at bits b bs = if nat_lt 7 bits then (unsigned_at (bits - 7) bs >>= λ r. Some (wider b r)) else None

pub unsigned_last : (bits b : ℕ) (bs : List ℕ) (n : ℕ) (rest : List ℕ) → nat_lt b 128 ≡ true →
    last_at bits b bs ≡ Some (n, rest) → UnsignedBack bits (b ∷ bs) n rest
unsigned_last bits b bs n rest t e =
    let g = guard_some (nat_lt b (2 ^ bits)) (Some (b, bs)) (n, rest) e in
    let s = some_both (b, bs) (n, rest) g.1 in
    (b ∷ [], inl (ltb-true b 128 t, ltb-true b (2 ^ bits) g.0, sym s.0, refl), ap (λ xs. b ∷ xs) s.1)

pub unsigned_more : (bits b : ℕ) (bs : List ℕ) (n : ℕ) (rest : List ℕ) →
    ((m : ℕ) (others : List ℕ) → unsigned_at (bits - 7) bs ≡ Some (m, others) → UnsignedBack (bits - 7) bs m others) →
    nat_lt b 128 ≡ false
    → longer_at bits b bs ≡ Some (n, rest) → UnsignedBack bits (b ∷ bs) n rest
unsigned_more bits b bs n rest deeper t e =
    let g = guard_some (nat_lt 7 bits) (unsigned_at (bits - 7) bs >>= λ r. Some (wider b r)) (n, rest) e in
    let f = bind_some (unsigned_at (bits - 7) bs) (λ r. Some (wider b r)) (n, rest) g.1 in
    let s = some_both (wider b f.0) (n, rest) f.2 in
    let d = deeper f.0.0 f.0.1 f.1 in (
      b ∷ d.0,
      inr (ltb-false b 128 t, ltb-true 7 bits g.0, f.0.0, sym s.0, d.1),
      ap (λ xs. b ∷ xs) (d.2 ∙ ap (λ xs. d.0 ++ xs) s.1),
    )

pub unsigned_back : (bits : ℕ) (bytes : List ℕ) (n : ℕ) (rest : List ℕ) → unsigned_at bits bytes ≡ Some (n, rest) →
    UnsignedBack bits bytes n rest
unfolding unsigned_at
unsigned_back bits [] n rest e = absurd cc
unsigned_back bits (b ∷ bs) n rest e =
    split (choice_some (nat_lt b 128) (last_at bits b bs) (longer_at bits b bs) (n, rest) e)
    (unsigned_back (bits - 7) bs)
  where
    split : ((nat_lt b 128 ≡ true) × (last_at bits b bs ≡ Some (n, rest)))
        ⊎ ((nat_lt b 128 ≡ false) × (longer_at bits b bs ≡ Some (n, rest)))
        → ((m : ℕ) (others : List ℕ) → unsigned_at (bits - 7) bs ≡ Some (m, others) →
        UnsignedBack (bits - 7) bs m others) → UnsignedBack bits (b ∷ bs) n rest
    split (inl h) deeper = unsigned_last bits b bs n rest h.0 h.1
    split (inr h) deeper = unsigned_more bits b bs n rest deeper h.0 h.1

pub unsigned_reader : (bits : ℕ) → Reader (IsUnsigned bits) (unsigned_at bits)
unsigned_reader bits = record { forth = unsigned_forth bits; back = unsigned_back bits }

-- ---- signed numbers

-- the readings by the first byte: below 64, below 128, and further on
abbrev pub low_at : ℕ → ℕ → List ℕ → Option (ℤ × List ℕ)
low_at bits b bs = if nat_lt b (2 ^ (bits - 1)) then Some (pos b, bs) else None

abbrev pub negative_at : ℕ → ℕ → List ℕ → Option (ℤ × List ℕ)
negative_at bits b bs = if nat_le 128 (b + 2 ^ (bits - 1)) then Some (pos b -ℤ pos 128, bs) else None

abbrev pub more_at : ℕ → ℕ → List ℕ → Option (ℤ × List ℕ)
more_at bits b bs = if nat_lt 7 bits then (signed_at (bits - 7) bs >>= λ r. Some (wider_signed b r)) else None

chosen : {A : Type 0} (t : Bool) (o p : Option A) → t ≡ true → (if t then o else p) ≡ o
chosen true o p e = refl
chosen false o p e = absurd cc

otherwise : {A : Type 0} (t : Bool) (o p : Option A) → t ≡ false → (if t then o else p) ≡ p
otherwise false o p e = refl
otherwise true o p e = absurd cc

pub signed_forth : (bits : ℕ) (z : ℤ) (front rest : List ℕ) → IsSigned bits z front →
    signed_at bits (front ++ rest) ≡ Some (z, rest)
unfolding signed_at
signed_forth bits z [] rest h = absurd h
signed_forth bits z (b ∷ bs) rest (inl h) =
    rw (lt-ltb b 64 h.0, lt-ltb b (2 ^ (bits - 1)) h.1)
    (pair_of (pos b) z (bs ++ rest) rest (sym h.2) (ap (λ xs. xs ++ rest) h.3))
signed_forth bits z (b ∷ bs) rest (inr (inl h)) =
    otherwise (nat_lt b 64) (low_at bits b (bs ++ rest))
    (if nat_lt b 128 then negative_at bits b (bs ++ rest) else more_at bits b (bs ++ rest)) (le-ltb b 64 h.0)
    ∙ chosen (nat_lt b 128) (negative_at bits b (bs ++ rest)) (more_at bits b (bs ++ rest)) (lt-ltb b 128 h.1)
    ∙ chosen (nat_le 128 (b + 2 ^ (bits - 1))) (some_pair (pos b -ℤ pos 128) (bs ++ rest)) None
    (le-leb 128 (b + 2 ^ (bits - 1)) h.2)
    ∙ pair_of (pos b -ℤ pos 128) z (bs ++ rest) rest (sym h.3) (ap (λ xs. xs ++ rest) h.4)
signed_forth bits z (b ∷ bs) rest (inr (inr h)) =
    let wide : 64 ≤ b = omega (arith, h.0) in
    rw (le-ltb b 64 wide, le-ltb b 128 h.0, lt-ltb 7 bits h.1, signed_forth (bits - 7) h.2 bs rest h.4)
    (pair_of (pos (b - 128) +ℤ (pos 128 *ℤ h.2)) z rest rest (sym h.3) refl)

abbrev pub SignedBack : ℕ → List ℕ → ℤ → List ℕ → Type 0
SignedBack bits bytes z rest = (front : List ℕ) × IsSigned bits z front × (bytes ≡ front ++ rest)

pub signed_low : (bits b : ℕ) (bs : List ℕ) (z : ℤ) (rest : List ℕ) → nat_lt b 64 ≡ true →
    low_at bits b bs ≡ Some (z, rest) → SignedBack bits (b ∷ bs) z rest
signed_low bits b bs z rest t e =
    let g = guard_some (nat_lt b (2 ^ (bits - 1))) (Some (pos b, bs)) (z, rest) e in
    let s = some_both (pos b, bs) (z, rest) g.1 in
    (b ∷ [], inl (ltb-true b 64 t, ltb-true b (2 ^ (bits - 1)) g.0, sym s.0, refl), ap (λ xs. b ∷ xs) s.1)

pub signed_negative : (bits b : ℕ) (bs : List ℕ) (z : ℤ) (rest : List ℕ) → nat_lt b 64 ≡ false → nat_lt b 128 ≡ true →
    negative_at bits b bs ≡ Some (z, rest) → SignedBack bits (b ∷ bs) z rest
signed_negative bits b bs z rest t u e =
    let g = guard_some (nat_le 128 (b + 2 ^ (bits - 1))) (Some (pos b -ℤ pos 128, bs)) (z, rest) e in
    let s = some_both (pos b -ℤ pos 128, bs) (z, rest) g.1 in (
      b ∷ [],
      inr (inl (ltb-false b 64 t, ltb-true b 128 u, leb-true 128 (b + 2 ^ (bits - 1)) g.0, sym s.0, refl)),
      ap (λ xs. b ∷ xs) s.1,
    )

pub signed_further : (bits b : ℕ) (bs : List ℕ) (z : ℤ) (rest : List ℕ) →
    ((m : ℤ) (others : List ℕ) → signed_at (bits - 7) bs ≡ Some (m, others) → SignedBack (bits - 7) bs m others)
    → nat_lt b 128 ≡ false → more_at bits b bs ≡ Some (z, rest) → SignedBack bits (b ∷ bs) z rest
signed_further bits b bs z rest deeper t e =
    let g = guard_some (nat_lt 7 bits) (signed_at (bits - 7) bs >>= λ r. Some (wider_signed b r)) (z, rest) e in
    let f = bind_some (signed_at (bits - 7) bs) (λ r. Some (wider_signed b r)) (z, rest) g.1 in
    let s = some_both (wider_signed b f.0) (z, rest) f.2 in
    let d = deeper f.0.0 f.0.1 f.1 in (
      b ∷ d.0,
      inr (inr (ltb-false b 128 t, ltb-true 7 bits g.0, f.0.0, sym s.0, d.1)),
      ap (λ xs. b ∷ xs) (d.2 ∙ ap (λ xs. d.0 ++ xs) s.1),
    )

pub signed_back : (bits : ℕ) (bytes : List ℕ) (z : ℤ) (rest : List ℕ) → signed_at bits bytes ≡ Some (z, rest) →
    SignedBack bits bytes z rest
unfolding signed_at
signed_back bits [] z rest e = absurd cc
signed_back bits (b ∷ bs) z rest e =
    split (choice_some (nat_lt b 64) (low_at bits b bs)
    (if nat_lt b 128 then negative_at bits b bs else more_at bits b bs) (z, rest) e) (signed_back (bits - 7) bs)
  where
    split_further : nat_lt b 64 ≡ false →
        ((nat_lt b 128 ≡ true) × (negative_at bits b bs ≡ Some (z, rest)))
        ⊎ ((nat_lt b 128 ≡ false) × (more_at bits b bs ≡ Some (z, rest)))
        → ((m : ℤ) (others : List ℕ) → signed_at (bits - 7) bs ≡ Some (m, others) → SignedBack (bits - 7) bs m others) →
        SignedBack bits (b ∷ bs) z rest
    split_further t (inl h) deeper = signed_negative bits b bs z rest t h.0 h.1
    split_further t (inr h) deeper = signed_further bits b bs z rest deeper h.0 h.1

    split : ((nat_lt b 64 ≡ true) × (low_at bits b bs ≡ Some (z, rest)))
        ⊎ ((nat_lt b 64 ≡ false)
        × ((if nat_lt b 128 then negative_at bits b bs else more_at bits b bs) ≡ Some (z, rest)))
        → ((m : ℤ) (others : List ℕ) → signed_at (bits - 7) bs ≡ Some (m, others) → SignedBack (bits - 7) bs m others) →
        SignedBack bits (b ∷ bs) z rest
    split (inl h) deeper = signed_low bits b bs z rest h.0 h.1
    split (inr h) deeper =
        split_further h.0 (choice_some (nat_lt b 128) (negative_at bits b bs) (more_at bits b bs) (z, rest) h.1) deeper

pub signed_reader : (bits : ℕ) → Reader (IsSigned bits) (signed_at bits)
signed_reader bits = record { forth = signed_forth bits; back = signed_back bits }

-- ---- so many bytes

take-front : (xs ys : List ℕ) → take (length xs) (xs ++ ys) ≡ xs
take-front [] ys = refl
take-front (x ∷ xs) ys = ap (λ zs. x ∷ zs) (take-front xs ys)

drop-front : (xs ys : List ℕ) → drop (length xs) (xs ++ ys) ≡ ys
drop-front [] ys = refl
drop-front (x ∷ xs) ys = drop-front xs ys

pub cut_forth : (text rest : List ℕ) → cut_at (length text) (text ++ rest) ≡ Some (text, rest)
cut_forth text rest =
    let t : nat_le (length text) (length (text ++ rest)) ≡ true =
    le-leb (length text) (length (text ++ rest)) (omega (arith, length-append text rest)) in
    rw t (pair_of (take (length text) (text ++ rest)) text (drop (length text) (text ++ rest)) rest
    (take-front text rest) (drop-front text rest))

pub cut_back : (size : ℕ) (bytes text rest : List ℕ) → cut_at size bytes ≡ Some (text, rest) →
    (size ≡ length text) × (bytes ≡ text ++ rest)
cut_back size bytes text rest e =
    let g = guard_some (nat_le size (length bytes)) (Some (take size bytes, drop size bytes)) (text, rest) e in
    let s = some_both (take size bytes, drop size bytes) (text, rest) g.1 in (
      sym (length-take-le size bytes (leb-true size (length bytes) g.0)) ∙ ap length s.0,
      sym (take-append-drop size bytes) ∙ ap₂ (λ (xs ys : List ℕ). xs ++ ys) s.0 s.1,
    )

pub bytes_reader : Reader SpellsBytes bytes_at
unfolding bytes_at
bytes_reader = record {
  forth = λ text front rest h.
      let e : front ++ rest ≡ h.0 ++ (text ++ rest) =
      ap (λ bs. bs ++ rest) (h.4 ∙ ap (λ bs. h.0 ++ bs) h.3) ∙ append_assoc h.0 text rest in
      ap bytes_at e ∙ rw (unsigned_forth 32 (length text) h.0 (text ++ rest) h.2) (cut_forth text rest);
  back = λ bytes text rest e.
      let f = bind_some (unsigned_at 32 bytes) (λ size. cut_at size.0 size.1) (text, rest) e in
      let c = cut_back f.0.0 f.0.1 text rest f.2 in
      let d = unsigned_back 32 bytes f.0.0 f.0.1 f.1 in
      let P : ℕ → Type 0 = λ n. IsUnsigned 32 n d.0 in
      let w : bytes ≡ (d.0 ++ text) ++ rest = d.2 ∙ ap (λ bs. d.0 ++ bs) c.1 ∙ sym (append_assoc d.0 text rest) in
      (d.0 ++ text, (d.0, text, subst P c.0 d.1, refl, refl), w);
}

-- ---- vectors

pub items_forth : {A : Type 0} (Spelling : A → List ℕ → Type 0) (read : List ℕ → Option (A × List ℕ)) →
    Reader Spelling read → (xs : List A) (front rest : List ℕ) → SpellsAll Spelling xs front →
    items_at read (length xs) (front ++ rest) ≡ Some (xs, rest)
unfolding items_at
items_forth Spelling read r [] front rest h = ap (λ bs. Some ([], bs ++ rest)) h
items_forth Spelling read r (x ∷ xs) front rest h =
    let e : front ++ rest ≡ h.0 ++ (h.1 ++ rest) = ap (λ bs. bs ++ rest) h.4 ∙ append_assoc h.0 h.1 rest in
    ap (items_at read (suc (length xs))) e
    ∙ rw (r.forth x h.0 (h.1 ++ rest) h.2, items_forth Spelling read r xs h.1 rest h.3) refl

abbrev pub ItemsBack : {A : Type 0} → (A → List ℕ → Type 0) → ℕ → List ℕ → List A → List ℕ → Type 0
ItemsBack Spelling n bytes xs rest =
    (front : List ℕ) × SpellsAll Spelling xs front × (n ≡ length xs) × (bytes ≡ front ++ rest)

pub items_back : {A : Type 0} (Spelling : A → List ℕ → Type 0) (read : List ℕ → Option (A × List ℕ)) →
    Reader Spelling read → (n : ℕ) (bytes : List ℕ) (xs : List A) (rest : List ℕ) →
    items_at read n bytes ≡ Some (xs, rest) → ItemsBack Spelling n bytes xs rest
unfolding items_at
items_back {A} Spelling read r zero bytes xs rest e =
    let s = some_both ([], bytes) (xs, rest) e in
    let P : List A → Type 0 = λ ys. ItemsBack Spelling 0 bytes ys rest in
    subst P s.0 ([], refl, refl, s.1)
items_back {A} Spelling read r (suc n) bytes xs rest e =
    let f = bind_some (read bytes) (λ x. items_at read n x.1 >>= λ ys. Some (x.0 ∷ ys.0, ys.1)) (xs, rest) e in
    let g = bind_some (items_at read n f.0.1) (λ ys. Some (f.0.0 ∷ ys.0, ys.1)) (xs, rest) f.2 in
    let s = some_both (f.0.0 ∷ g.0.0, g.0.1) (xs, rest) g.2 in
    let a = r.back bytes f.0.0 f.0.1 f.1 in
    let b = items_back Spelling read r n f.0.1 g.0.0 g.0.1 g.1 in
    let P : List A → Type 0 = λ ys. ItemsBack Spelling (suc n) bytes ys rest in
    let w : bytes ≡ (a.0 ++ b.0) ++ rest =
    a.2 ∙ ap (λ bs. a.0 ++ bs) (b.3 ∙ ap (λ bs. b.0 ++ bs) s.1) ∙ sym (append_assoc a.0 b.0 rest) in
    subst P s.0 (a.0 ++ b.0, (a.0, b.0, a.1, b.1, refl), ap suc b.2, w)

pub vector_reader : {A : Type 0} (Spelling : A → List ℕ → Type 0) (read : List ℕ → Option (A × List ℕ)) →
    Reader Spelling read → Reader (SpellsVector Spelling) (vector_at read)
unfolding vector_at
vector_reader Spelling read r = record {
  forth = λ xs front rest h.
      let e : front ++ rest ≡ h.0 ++ (h.1 ++ rest) = ap (λ bs. bs ++ rest) h.4 ∙ append_assoc h.0 h.1 rest in
      ap (vector_at read) e
      ∙ rw (unsigned_forth 32 (length xs) h.0 (h.1 ++ rest) h.2) (items_forth Spelling read r xs h.1 rest h.3);
  back = λ bytes xs rest e.
      let f = bind_some (unsigned_at 32 bytes) (λ count. items_at read count.0 count.1) (xs, rest) e in
      let i = items_back Spelling read r f.0.0 f.0.1 xs rest f.2 in
      let d = unsigned_back 32 bytes f.0.0 f.0.1 f.1 in
      let P : ℕ → Type 0 = λ n. IsUnsigned 32 n d.0 in
      let w : bytes ≡ (d.0 ++ i.0) ++ rest = d.2 ∙ ap (λ bs. d.0 ++ bs) i.3 ∙ sym (append_assoc d.0 i.0 rest) in
      (d.0 ++ i.0, (d.0, i.0, subst P i.2 d.1, i.1, refl), w);
}

-- ---- all of a body

pub whole_forth : {A : Type 0} (Spelling : A → List ℕ → Type 0) (read : List ℕ → Option (A × List ℕ)) →
    Reader Spelling read → (x : A) (body : List ℕ) → Spelling x body → whole_at read body ≡ Some x
whole_forth {A} Spelling read r x body h =
    let e : read body ≡ Some (x, []) = ap read (sym (append-nil body)) ∙ r.forth x body [] h in rw e refl

pub ended_some : {A : Type 0} (r : A × List ℕ) (x : A) → ended r ≡ Some x → r ≡ (x, [])
ended_some {A} (y, []) x e = let p : y ≡ x = cc in ap (λ (z : A). (z, [])) p
ended_some (y, (b ∷ bs)) x e = absurd cc

pub whole_back : {A : Type 0} (Spelling : A → List ℕ → Type 0) (read : List ℕ → Option (A × List ℕ)) →
    Reader Spelling read → (body : List ℕ) (x : A) → whole_at read body ≡ Some x → Spelling x body
whole_back {A} Spelling read r body x e =
    let f = bind_some (read body) ended x e in
    let p : f.0 ≡ (x, []) = ended_some f.0 x f.2 in
    let q : read body ≡ Some (x, []) = f.1 ∙ ap Some p in
    let g = r.back body x [] q in
    let P : List ℕ → Type 0 = λ bs. Spelling x bs in
    subst P (sym (g.2 ∙ append-nil g.0)) g.1

pub sized_reader : {A : Type 0} (Spelling : A → List ℕ → Type 0) (read : List ℕ → Option (A × List ℕ)) →
    Reader Spelling read → Reader (λ x. SpellsSized (Spelling x)) (sized_at read)
unfolding sized_at
sized_reader {A} Spelling read r = record {
  forth = λ x front rest h. rw (bytes_reader.forth h.0 front rest h.2, whole_forth Spelling read r x h.0 h.1) refl;
  back = λ bytes x rest e.
      let f = bind_some (bytes_at bytes) (λ body. whole_at read body.0 >>= λ y. Some (y, body.1)) (x, rest) e in
      let g = bind_some (whole_at read f.0.0) (λ y. Some (y, f.0.1)) (x, rest) f.2 in
      let s = some_both (g.0, f.0.1) (x, rest) g.2 in
      let b = bytes_reader.back bytes f.0.0 f.0.1 f.1 in
      let h = whole_back Spelling read r f.0.0 g.0 g.1 in
      let P : A → Type 0 = λ y. Spelling y f.0.0 in
      (b.0, (f.0.0, subst P s.0 h, b.1), b.2 ∙ ap (λ bs. b.0 ++ bs) s.1);
}
