-- The bytes up to the last line feed.
use Rattle.std.proofs.Common.{◌≡◌, ℕ, suc, ◌-◌, ◌≤◌, ◌==◌, false, if◌then◌else◌, List, [], ◌∷◌, ◌++◌, length, take}
use Rattle.std.proofs.Common.{get_or, refl, sym, ap, ◌∙◌, arith}
use Rattle.std.proofs.Math.Seq.{take-length, take-suc}
use Rattle.std.proofs.lemmas.Bool.Decides.{nat_tests}
use Rattle.hk_asm.specs.Assembling.{kept, whole_lines}

kept_more : (byte last : ℕ) (front : List ℕ) → kept byte (front ++ last ∷ []) ≡ byte ∷ (front ++ last ∷ [])
kept_more byte last [] = refl
kept_more byte last (next ∷ front) = refl

-- bytes that end in a line feed are whole lines
pub lines_end : (front : List ℕ) → whole_lines (front ++ 10 ∷ []) ≡ front ++ 10 ∷ []
lines_end [] = refl
lines_end (byte ∷ front) = ap (kept byte) (lines_end front) ∙ kept_more byte 10 front

-- another byte at the end belongs to none
pub lines_before : (front : List ℕ) (last : ℕ) → last == 10 ≡ false →
    whole_lines (front ++ last ∷ []) ≡ whole_lines front
lines_before [] last apart = ap (λ test. if test then last ∷ [] else []) apart
lines_before (byte ∷ front) last apart = ap (kept byte) (lines_before front last apart)

-- bytes, and their last
last_split : (bytes : List ℕ) (d : ℕ) → 1 ≤ length bytes →
    bytes ≡ take (length bytes - 1) bytes ++ (get_or bytes (length bytes - 1) d ∷ [])
last_split bytes d some =
    let more : length bytes ≡ suc (length bytes - 1) = omega arith in
    sym (take-length bytes)
    ∙ ap (λ n. take n bytes) more
    ∙ take-suc bytes (length bytes - 1) d (omega arith)

pub all_lines : (bytes : List ℕ) (d : ℕ) → 1 ≤ length bytes → get_or bytes (length bytes - 1) d ≡ 10 →
    whole_lines bytes ≡ bytes
all_lines bytes d some feed =
    let front = take (length bytes - 1) bytes in
    let split : bytes ≡ front ++ 10 ∷ [] =
    last_split bytes d some ∙ ap (λ last. front ++ last ∷ []) feed in
    ap whole_lines split ∙ lines_end front ∙ sym split

pub fewer_lines : (bytes : List ℕ) (d : ℕ) → 1 ≤ length bytes →
    (get_or bytes (length bytes - 1) d ≡ 10 → ⊥) → whole_lines bytes ≡ whole_lines (take (length bytes - 1) bytes)
fewer_lines bytes d some other =
    let test : get_or bytes (length bytes - 1) d == 10 ≡ false = grind (arith, nat_tests) in
    ap whole_lines (last_split bytes d some) ∙ lines_before (take (length bytes - 1) bytes) _ test
