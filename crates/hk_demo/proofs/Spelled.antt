-- The bytes that the code puts together are the fields, spelled.
use Rattle.std.proofs.Common.{◌≡◌, ℕ, ◌+◌, ◌≤◌, List, [], ◌∷◌, ◌++◌, length, replicate, refl, sym, ap, ◌∙◌, arith}
use Rattle.std.proofs.Common.{append_assoc, append-nil, nat_le, true}
use Rattle.std.proofs.lemmas.Bool.Decides.{nat_tests}
use Rattle.std.specs.Int.{w32, w64, to_be_bytes}
use Rattle.xo_fields.specs.Length.{prefix}
use Rattle.hk_demo.specs.Blobs.{on_payments, payment_blob, set_hook_blob}

-- ---- a Payment

abbrev paid_by : List ℕ
paid_by = 0x68 ∷ 0x40 ∷ 0 ∷ 0 ∷ 0 ∷ 0 ∷ 0 ∷ 0x03 ∷ 0xE8 ∷ 0x73 ∷ 0 ∷ 0x81 ∷ 0x14 ∷ []

payment_spelled : (sequence drops from to : ℕ) → payment_blob sequence drops from to
    ≡ (0x12 ∷ 0 ∷ 0 ∷ 0x24 ∷ []) ++ to_be_bytes w32 sequence ++ (0x61 ∷ []) ++
    to_be_bytes w64 (4611686018427387904 + drops)
    ++ paid_by ++ replicate 20 (from + 1) ++ (0x83 ∷ 0x14 ∷ []) ++ replicate 20 (to + 1)
unfolding payment_blob
payment_spelled sequence drops from to = refl

pub payment_made : (sequence drops from to : ℕ) (made : List ℕ) →
    made
    ≡ (0x12 ∷ 0 ∷ 0 ∷ 0x24 ∷ []) ++ to_be_bytes w32 sequence ++ (0x61 ∷ []) ++
    to_be_bytes w64 (4611686018427387904 + drops)
    ++ paid_by ++ replicate 20 (from + 1) ++ (0x83 ∷ 0x14 ∷ []) ++ replicate 20 (to + 1) →
    made ≡ payment_blob sequence drops from to
payment_made sequence drops from to made is = is ∙ sym (payment_spelled sequence drops from to)

-- ---- a SetHook

abbrev set_hook_by : List ℕ
set_hook_by =
    0x12 ∷ 0 ∷ 0x16 ∷ 0x24 ∷ 0 ∷ 0 ∷ 0 ∷ 0x01 ∷ 0x68 ∷ 0x40 ∷ 0 ∷ 0 ∷ 0 ∷ 0 ∷ 0 ∷ 0x27 ∷ 0x10 ∷ 0x73 ∷ 0 ∷ 0x81 ∷ 0x14
    ∷ []

abbrev created_by : List ℕ
created_by =
    0xFB ∷ 0xEE ∷ 0x10 ∷ 0x14 ∷ 0 ∷ 0 ∷ 0x50 ∷ 0x14 ∷ on_payments ++ 0x50 ∷ 0x20 ∷ replicate 32 0 ++ 0x7B ∷ []

-- the code with its length and the end marks
abbrev ending : List ℕ → List ℕ
ending code = (((((prefix (length code) ++ code) ++ []) ++ 0xE1 ∷ []) ++ []) ++ 0xF1 ∷ []) ++ []

set_hook_spelled : (k : ℕ) (code : List ℕ) →
    set_hook_blob k code ≡ set_hook_by ++ replicate 20 (k + 1) ++ created_by ++ ending code
unfolding set_hook_blob
set_hook_spelled k code = refl

one_byte : (n : ℕ) → n ≤ 192 → prefix n ≡ n ∷ []
one_byte n small = let test : nat_le n 192 ≡ true = grind (arith, nat_tests) in cc

ended : (code : List ℕ) → length code ≤ 192 → ending code ≡ length code ∷ (code ++ 0xE1 ∷ 0xF1 ∷ [])
ended code small =
    let whole = prefix (length code) ++ code in
    append-nil ((((whole ++ []) ++ 0xE1 ∷ []) ++ []) ++ 0xF1 ∷ [])
    ∙ ap (λ b. b ++ 0xF1 ∷ []) (append-nil ((whole ++ []) ++ 0xE1 ∷ []))
    ∙ append_assoc (whole ++ []) (0xE1 ∷ []) (0xF1 ∷ [])
    ∙ ap (λ b. b ++ 0xE1 ∷ 0xF1 ∷ []) (append-nil whole)
    ∙ append_assoc (prefix (length code)) code (0xE1 ∷ 0xF1 ∷ [])
    ∙ ap (λ b. b ++ (code ++ 0xE1 ∷ 0xF1 ∷ [])) (one_byte (length code) small)

pub set_hook_made : (k : ℕ) (code made : List ℕ) → length code ≤ 192 →
    made ≡ set_hook_by ++ replicate 20 (k + 1) ++ created_by ++ (length code ∷ []) ++ code ++ (0xE1 ∷ 0xF1 ∷ []) →
    made ≡ set_hook_blob k code
set_hook_made k code made small is =
    is
    ∙ ap (λ b. set_hook_by ++ replicate 20 (k + 1) ++ created_by ++ b) (sym (ended code small))
    ∙ sym (set_hook_spelled k code)

-- ---- parts

-- a part behind what was put before
pub put : (old new part x y : List ℕ) → old ≡ x → new ≡ old ++ part → part ≡ y → new ≡ x ++ y
put old new part x y is more same = more ∙ ap (λ o. o ++ part) is ∙ ap (λ p. x ++ p) same
