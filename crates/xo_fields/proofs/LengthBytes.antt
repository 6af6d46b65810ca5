-- What the table of lengths says is what the definition of lengths says.
use Rattle.std.proofs.Common.{◌≡◌, ℕ, suc, ◌+◌, ◌-◌, ◌*◌, ◌<◌, ◌≤◌, ◌⊎◌, inl, inr, List, [], ◌∷◌, ◌++◌, length, take}
use Rattle.std.proofs.Common.{refl, sym, ap, ◌∙◌, arith, append-nil, nat_le}
use Rattle.std.proofs.lemmas.Bool.Decides.{nat_tests}
use Rattle.xo_fields.specs.declared.length.LengthRead.{LengthRead}
use Rattle.xo_fields.specs.declared.length.LengthRead.TheVariants.{Cut, Bad, Length}
use Rattle.xo_fields.specs.Length.{prefix, IsLength, LengthGives}
use Rattle.xo_fields.specs.Spelling.{Begins}
use Rattle.xo_fields.specs.Table.{length_at, two_bytes, three_bytes}
use Rattle.xo_fields.proofs.Cases.{IsBytes, pick, either}

-- a length is found again, whatever comes after it
pub length_again : (n : ℕ) (rest : List ℕ) → n ≤ 918744 → length_at (prefix n ++ rest) ≡ Length n (length (prefix n))
length_again n rest small =
    either (nat_le n 192) (λ one. grind (arith, nat_tests))
    (λ more. either (nat_le n 12480) (λ two. grind (arith, nat_tests)) (λ three. grind (arith, nat_tests)))

stays_bad : (bytes more : List ℕ) → length_at bytes ≡ Bad → length_at (bytes ++ more) ≡ Bad
stays_bad [] more h = cc
stays_bad (a ∷ []) more h = grind (arith, nat_tests)
stays_bad (a ∷ b ∷ []) [] h = h
stays_bad (a ∷ b ∷ []) (c ∷ more) h = grind (arith, nat_tests)
stays_bad (a ∷ b ∷ c ∷ rest) more h = grind (arith, nat_tests)

goes_on : (bytes : List ℕ) → length_at bytes ≡ Cut → IsBytes bytes → (more : List ℕ) × IsLength (bytes ++ more)
goes_on [] h small = (0 ∷ [], (0, omega arith, refl))
goes_on (a ∷ []) h small = let ab : a < 256 = small 0 in
    either (nat_le a 240)
    (λ two. (0 ∷ [], (193 + (a - 193) * 256, grind (arith, nat_tests), grind (arith, nat_tests))))
    (λ three. (0 ∷ 0 ∷ [], (12481 + (a - 241) * 65536, grind (arith, nat_tests), grind (arith, nat_tests))))
goes_on (a ∷ b ∷ []) h small = let ab : a < 256 = small 0 in let bb : b < 256 = small 1 in
    (0 ∷ [], (12481 + (a - 241) * 65536 + b * 256, grind (arith, nat_tests), grind (arith, nat_tests)))
goes_on (a ∷ b ∷ c ∷ rest) h small = absurd (grind (arith, nat_tests))

abbrev pub Spells : List ℕ → ℕ → ℕ → Type 0
Spells bytes n size = (n ≤ 918744) × (size ≤ length bytes) × (take size bytes ≡ prefix n)

abbrev pub Good : List ℕ → LengthRead → Type 0
Good bytes Cut = Unit {0}
Good bytes Bad = Unit {0}
Good bytes (Length n size) = Spells bytes n size

good_two : (a : ℕ) (rest : List ℕ) → 193 ≤ a → a ≤ 240 → IsBytes rest → Good (a ∷ rest) (two_bytes a rest)
good_two a [] low high small = tt
good_two a (b ∷ rest) low high small =
    let bb : b < 256 = small 0 in (omega arith, omega arith, grind (arith, nat_tests))

good_three : (a : ℕ) (rest : List ℕ) → 241 ≤ a → a ≤ 254 → IsBytes rest → Good (a ∷ rest) (three_bytes a rest)
good_three a [] low high small = tt
good_three a (b ∷ []) low high small =
    pick (Good (a ∷ b ∷ [])) (nat_le (12481 + (a - 241) * 65536 + b * 256) 918744) _ _ (λ e. tt) (λ e. tt)
good_three a (b ∷ c ∷ rest) low high small = let bb : b < 256 = small 0 in let cb : c < 256 = small 1 in
    pick (Good (a ∷ b ∷ c ∷ rest)) (nat_le (12481 + (a - 241) * 65536 + b * 256 + c) 918744) _ _
    (λ e. (grind (arith, nat_tests), omega arith, grind (arith, nat_tests))) (λ e. tt)

good : (bytes : List ℕ) → IsBytes bytes → Good bytes (length_at bytes)
good [] small = tt
good (a ∷ rest) small = let ab : a < 256 = small 0 in let more : IsBytes rest = λ i. small (suc i) in
    pick (Good (a ∷ rest)) (nat_le a 192) _ _
    (λ e. (grind (arith, nat_tests), omega arith, grind (arith, nat_tests)))
    (λ e. pick (Good (a ∷ rest)) (nat_le a 240) _ _
    (λ two. good_two a rest (grind (arith, nat_tests)) (grind (arith, nat_tests)) more)
    (λ m. pick (Good (a ∷ rest)) (nat_le a 254) _ _
    (λ three. good_three a rest (grind (arith, nat_tests)) (grind (arith, nat_tests)) more) (λ n. tt)))

no_begin : (bytes : List ℕ) (read : LengthRead) → length_at bytes ≡ read → (read ≡ Cut) ⊎ (read ≡ Bad) →
    Begins IsLength bytes → ⊥
no_begin bytes read h which (front, rest, (n, small, e), whole) =
    let again : length_at bytes ≡ Length n (length (prefix n)) =
    ap length_at (whole ∙ ap (λ x. x ++ rest) e) ∙ length_again n rest small in
    elim which [ inl c ↦ cc | inr b ↦ cc ]

gives : (bytes : List ℕ) (read : LengthRead) → length_at bytes ≡ read → Good bytes read → IsBytes bytes →
    LengthGives bytes read
gives bytes Cut h g small = (no_begin bytes Cut h (inl refl), goes_on bytes h small)
gives bytes Bad h g small = (
  no_begin bytes Bad h (inr refl),
  λ more spelled.
      no_begin (bytes ++ more) Bad (stays_bad bytes more h) (inr refl)
      (bytes ++ more, [], spelled, sym (append-nil (bytes ++ more))),
)
gives bytes (Length n size) h g small = g

pub length_gives : (bytes : List ℕ) → IsBytes bytes → LengthGives bytes (length_at bytes)
length_gives bytes small = gives bytes (length_at bytes) refl (good bytes small) small
