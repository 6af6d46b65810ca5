-- The lines of joined bytes are the joined lines.
use Rattle.std.proofs.Common.{◌≡◌, ◌≢◌, Bor, Option, Some, None, MatchOption, unwrap_or, inl, inr, ℕ, ◌+◌, ◌≤◌, ◌==◌}
use Rattle.std.proofs.Common.{Bool, true, false, if◌then◌else◌, List, [], ◌∷◌, ◌++◌, length, refl, sym, ap, ◌∙◌, arith}
use Rattle.std.proofs.Common.{append_assoc}
use Rattle.std.proofs.lemmas.Bool.{eqb-true, cases_eq}
use Rattle.std.proofs.lemmas.Bool.Decides.{nat_tests}
use Rattle.hk_lines.specs.Cut.{Cut, behind, whole, onto, cut, begun, joined, trim, CutsJoined}

-- nothing in front changes nothing
pub begun_nothing : (c : Cut) → begun [] c ≡ c
begun_nothing (behind bytes) = refl
begun_nothing (whole line more) = refl

-- two beginnings are one
pub begun_begun : (first second : List ℕ) (c : Cut) → begun (first ++ second) c ≡ begun first (begun second c)
begun_begun first second (behind bytes) = ap behind (append_assoc first second bytes)
begun_begun first second (whole line more) = ap (λ l. whole l more) (append_assoc first second line)

-- a beginning of the first of two
pub begun_joined : (bytes : List ℕ) (c next : Cut) → begun bytes (joined c next) ≡ joined (begun bytes c) next
begun_joined bytes (behind more) next = sym (begun_begun bytes more next)
begun_joined bytes (whole line more) next = refl

-- lines of three are joined from either side
pub joined_joined : (first second third : Cut) → joined (joined first second) third ≡ joined first (joined second third)
joined_joined (behind bytes) second third = sym (begun_joined bytes second third)
joined_joined (whole line more) second third = ap (whole line) (joined_joined more second third)

-- a byte in front of the first of two
onto_joined : (byte : ℕ) (front back : Cut) → onto byte (joined front back) ≡ joined (onto byte front) back
onto_joined byte (behind bytes) (behind more) = refl
onto_joined byte (behind bytes) (whole line more) = refl
onto_joined byte (whole line more) back = refl

byte_joins : (test : Bool) (byte : ℕ) (front back : Cut) →
    (if test then whole [] (joined front back) else onto byte (joined front back))
    ≡ joined (if test then whole [] front else onto byte front) back
byte_joins true byte front back = refl
byte_joins false byte front back = onto_joined byte front back

pub cut_joined : CutsJoined
cut_joined [] back = sym (begun_nothing (cut back))
cut_joined (byte ∷ front) back =
    ap (λ c. if byte == 10 then whole [] c else onto byte c) (cut_joined front back)
    ∙ byte_joins (byte == 10) byte (cut front) (cut back)

-- the bytes that were cut
abbrev pub uncut : Cut → List ℕ
uncut (behind bytes) = bytes
uncut (whole line more) = line ++ 10 ∷ uncut more

-- ---- trimming

-- a line is at most one byte longer than without its carriage return
pub trim_length : (line : List ℕ) → length line ≤ length (trim line) + 1
trim_length [] = omega arith
trim_length (byte ∷ []) = one (byte == 13) byte where
  one : (test : Bool) (byte : ℕ) → length (byte ∷ []) ≤ length (if test then [] else byte ∷ []) + 1
  one true byte = omega arith
  one false byte = omega arith
trim_length (byte ∷ next ∷ line) =
    let rest : length (next ∷ line) ≤ length (trim (next ∷ line)) + 1 = trim_length (next ∷ line) in omega (arith, rest)

-- a carriage return at the end is dropped
trim_returned : (line : List ℕ) → trim (line ++ 13 ∷ []) ≡ line
trim_returned [] = refl
trim_returned (byte ∷ []) = refl
trim_returned (byte ∷ next ∷ line) = ap (λ l. byte ∷ l) (trim_returned (next ∷ line))

-- a line that ends in none is kept
trim_kept : (line : List ℕ) → ((front : List ℕ) → line ≢ front ++ 13 ∷ []) → trim line ≡ line
trim_kept [] none = refl
trim_kept (byte ∷ []) none =
    elim (cases_eq byte 13) [
      | inl return ↦ absurd (none [] (ap (λ b. b ∷ []) return))
      | inr other ↦
          let test : (byte == 13) ≡ false = grind (arith, nat_tests) in ap (λ t. if t then [] else byte ∷ []) test
    ]
trim_kept (byte ∷ next ∷ line) none =
    ap (λ l. byte ∷ l) (trim_kept (next ∷ line) (λ front e. none (byte ∷ front) (ap (λ l. byte ∷ l) e)))

-- a line whose suffix was taken off is trimmed
pub trim_stripped : (stripped : Option (Bor (List ℕ))) (line : Bor (List ℕ)) →
    MatchOption stripped ((front : List ℕ) → line.now ≢ front ++ 13 ∷ []) (λ text. line.now ≡ text.now ++ 13 ∷ []) →
    (unwrap_or stripped line).now ≡ trim line.now
trim_stripped (Some text) line h = sym (ap trim h ∙ trim_returned text.now)
trim_stripped None line h = sym (trim_kept line.now h)

-- ---- bytes that were cut

uncut_onto : (byte : ℕ) (c : Cut) → uncut (onto byte c) ≡ byte ∷ uncut c
uncut_onto byte (behind bytes) = refl
uncut_onto byte (whole line more) = refl

uncut_byte : (test : Bool) (byte : ℕ) (c : Cut) → (byte == 10) ≡ test →
    uncut (if test then whole [] c else onto byte c) ≡ byte ∷ uncut c
uncut_byte true byte c h = let feed : byte ≡ 10 = eqb-true byte 10 h in ap (λ b. b ∷ uncut c) (sym feed)
uncut_byte false byte c h = uncut_onto byte c

-- what was cut are the bytes
pub uncut_cut : (bytes : List ℕ) → uncut (cut bytes) ≡ bytes
uncut_cut [] = refl
uncut_cut (byte ∷ bytes) = uncut_byte (byte == 10) byte (cut bytes) refl ∙ ap (λ b. byte ∷ b) (uncut_cut bytes)
