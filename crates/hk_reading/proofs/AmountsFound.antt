-- The amount that bytes are is found.
use Rattle.std.proofs.Common.{◌≡◌, ℕ, ◌+◌, ◌-◌, ◌/◌, ◌%◌, ◌^◌, ◌<◌, ◌≤◌, ◌==◌, ◌⊎◌, inl, inr, true, List, ◌∷◌, ◌++◌}
use Rattle.std.proofs.Common.{length, get_or, take, drop, refl, sym, ap, subst, ◌∙◌, arith, append_assoc, length-append}
use Rattle.std.proofs.Common.{length-take, length-drop, Option, Some, None, is_some}
use Rattle.std.specs.Prelude.{pos, Decides}
use Rattle.std.specs.Int.{w64, to_be_bytes, from_be_bytes, cast_unsigned}
use Rattle.std.proofs.lemmas.Bool.Decides.{nat_tests, Decides-and, Decides-or, Decides-like}
use Rattle.std.proofs.lemmas.List.{take-append-drop, drop-drop}
use Rattle.std.proofs.lemmas.Nat.{from_be_bytes-to_be_bytes_8}
use Rattle.xo_fields.specs.declared.amount.Amount.{Amount}
use Rattle.xo_fields.specs.declared.amount.Amount.TheVariants.{Native, Issued}
use Rattle.xo_fields.specs.Amount.{IsAmount, IsValid, amount_bytes}
use Rattle.xo_fields.specs.Decimal.{IsDecimal, IsDecimalOf}
use Rattle.xo_fields.proofs.AmountBytes.{decimal-below}
use Rattle.xo_fields.proofs.Cases.{pick}
use Rattle.hk_reading.specs.Amounts.{is_decimal, native_of, issued_of, amount_of, is_amount, amount_size}
use Rattle.hk_reading.proofs.Finding.{Finds, finds_one, nat_same, nat_below, nat_up_to, lists_same}
use Rattle.hk_reading.proofs.Fronts.{cut_at}

abbrev pub IsThis : List ℕ → Amount → Type 0
IsThis bytes a = IsValid a × (bytes ≡ amount_bytes a)

-- the parts of a decimal's bits
abbrev pub InRanges : ℕ → Type 0
InRanges bits =
    (bits < 9223372036854775808)
    × ((1 ≤ bits / 18014398509481984 % 256)
    × ((bits / 18014398509481984 % 256 ≤ 177)
    × ((1000000000000000 ≤ bits % 18014398509481984) × (bits % 18014398509481984 < 10000000000000000))))

decimal_in_ranges : (bits positive biased mantissa : ℕ) → IsDecimalOf bits positive biased mantissa → InRanges bits
decimal_in_ranges bits p b m d = (omega arith, (omega arith, (omega arith, (omega arith, omega arith))))

decimal_there : (bits : ℕ) → (bits ≡ 0) ⊎ InRanges bits → IsDecimal bits
decimal_there bits (inl none) = inl none
decimal_there bits (inr (low, (b, (c, (d, e))))) =
    inr (
      bits / 4611686018427387904,
      bits / 18014398509481984 % 256,
      bits % 18014398509481984,
      record {
        sign = omega arith;
        exponent_low = b;
        exponent_high = c;
        mantissa_low = d;
        mantissa_high = e;
        is = omega arith;
      },
    )

decimal_parts : (bits : ℕ) → IsDecimal bits → (bits ≡ 0) ⊎ InRanges bits
decimal_parts bits (inl none) = inl none
decimal_parts bits (inr (p, b, m, d)) = inr (decimal_in_ranges bits p b m d)

is_decimal_so : (bits : ℕ) → Decides (is_decimal bits) (IsDecimal bits)
is_decimal_so bits =
    Decides-like (is_decimal bits) (decimal_there bits) (decimal_parts bits)
    (Decides-or _ _ (nat_same bits 0) (Decides-and _ _ (nat_below bits 9223372036854775808) (Decides-and _ _
    (nat_up_to 1 (bits / 18014398509481984 % 256)) (Decides-and _ _ (nat_up_to (bits / 18014398509481984 % 256) 177)
    (Decides-and _ _ (nat_up_to 1000000000000000 (bits % 18014398509481984))
    (nat_below (bits % 18014398509481984) 10000000000000000))))))

-- the number of eight bytes
number_again : (bytes : List ℕ) (n : ℕ) → n < 2 ^ 64 → bytes ≡ to_be_bytes w64 n → from_be_bytes w64 bytes ≡ n
number_again bytes n small e = ap (from_be_bytes w64) e ∙ from_be_bytes-to_be_bytes_8 n small

native_complete : (bytes : List ℕ) (a : Amount) → length bytes ≡ 8 → IsThis bytes a →
    ((4611686018427387904 ≤ from_be_bytes w64 bytes)
    × ((from_be_bytes w64 bytes < 9223372036854775808) × (bytes ≡ to_be_bytes w64 (from_be_bytes w64 bytes))))
    × (Native (from_be_bytes w64 bytes - 4611686018427387904) ≡ a)
native_complete bytes (Native drops) long (valid, is) =
    let n : from_be_bytes w64 bytes ≡ 2 ^ 62 + drops = number_again bytes (2 ^ 62 + drops) (omega arith) is in
    ((omega arith, (omega arith, is ∙ ap (to_be_bytes w64) (sym n))), ap Native (omega arith))
native_complete bytes (Issued value currency issuer) long ((bits, c, i), is) =
    absurd (omega (
      arith,
      ap length is,
      length-append (to_be_bytes w64 (2 ^ 63 + cast_unsigned w64 value)) (currency ++ issuer),
      length-append currency issuer,
      c,
      i,
    ))

native_found : (bytes : List ℕ) → length bytes ≡ 8 → Finds (IsThis bytes) (native_of (from_be_bytes w64 bytes) bytes)
native_found bytes long =
    let n : ℕ = from_be_bytes w64 bytes in
    finds_one (IsThis bytes) _ _ (Decides-and _ _ (nat_up_to 4611686018427387904 n)
    (Decides-and _ _ (nat_below n 9223372036854775808) (lists_same bytes (to_be_bytes w64 n))))
    (λ t.
    let back : n ≡ 4611686018427387904 + (n - 4611686018427387904) = omega (arith, t.0) in
    (omega (arith, t.0, t.1.0), t.1.1 ∙ ap (to_be_bytes w64) back))
    (λ a h. native_complete bytes a long h)

-- the parts of an issued amount's bytes
issued_parts : (bytes eight currency issuer : List ℕ) → bytes ≡ eight ++ (currency ++ issuer) → length eight ≡ 8 →
    length currency ≡ 20 →
    (take 8 bytes ≡ eight) × (take 20 (drop 8 bytes) ≡ currency) × (drop 28 bytes ≡ issuer)
issued_parts bytes eight currency issuer e le lc =
    let cut : (take 8 bytes ≡ eight) × (drop 8 bytes ≡ currency ++ issuer) =
    cut_at 8 bytes eight (currency ++ issuer) e le in
    let again : (take 20 (drop 8 bytes) ≡ currency) × (drop 20 (drop 8 bytes) ≡ issuer) =
    cut_at 20 (drop 8 bytes) currency issuer cut.1 lc in
    (cut.0, again.0, sym (drop-drop 20 8 bytes) ∙ again.1)

issued_joined : (bytes : List ℕ) → bytes ≡ take 8 bytes ++ (take 20 (drop 8 bytes) ++ drop 28 bytes)
issued_joined bytes =
    sym (take-append-drop 8 bytes)
    ∙ ap (λ x. take 8 bytes ++ x)
    (sym (take-append-drop 20 (drop 8 bytes)) ∙ ap (λ x. take 20 (drop 8 bytes) ++ x) (drop-drop 20 8 bytes))

abbrev pub first_number : List ℕ → ℕ
first_number bytes = from_be_bytes w64 (take 8 bytes)

abbrev pub IssuedTests : List ℕ → Type 0
IssuedTests bytes =
    (9223372036854775808 ≤ first_number bytes)
    × (IsDecimal (first_number bytes - 9223372036854775808)
    × ((length bytes ≡ 48) × (take 8 bytes ≡ to_be_bytes w64 (first_number bytes))))

abbrev pub issued_guess : List ℕ → Amount
issued_guess bytes = Issued (pos (first_number bytes - 9223372036854775808)) (take 20 (drop 8 bytes)) (drop 28 bytes)

issued_sound : (bytes : List ℕ) → IssuedTests bytes → IsThis bytes (issued_guess bytes)
issued_sound bytes (high, (decimal, (long, eight))) =
    let back : first_number bytes ≡ 9223372036854775808 + (first_number bytes - 9223372036854775808) =
    omega (arith, high) in (
      (
        (first_number bytes - 9223372036854775808, refl, decimal),
        simp (length-take, length-drop) (omega (arith, long)),
        simp length-drop (omega (arith, long)),
      ),
      issued_joined bytes
          ∙ ap (λ x. x ++ (take 20 (drop 8 bytes) ++ drop 28 bytes)) (eight ∙ ap (to_be_bytes w64) back),
    )

issued_complete : (bytes : List ℕ) (a : Amount) → (length bytes ≡ 8 → ⊥) → IsThis bytes a →
    IssuedTests bytes × (issued_guess bytes ≡ a)
issued_complete bytes (Native drops) long (valid, is) = absurd (long (ap length is))
issued_complete bytes (Issued value currency issuer) long (((bits, same, decimal), c, i), is) =
    let small : bits < 9223372036854775808 = decimal-below bits decimal in
    let spelled : bytes ≡ to_be_bytes w64 (9223372036854775808 + bits) ++ (currency ++ issuer) =
    is ∙ ap (λ z. to_be_bytes w64 (9223372036854775808 + cast_unsigned w64 z) ++ (currency ++ issuer)) same in
    let parts : (take 8 bytes ≡ to_be_bytes w64 (9223372036854775808 + bits)) × (take 20 (drop 8 bytes) ≡ currency)
    × (drop 28 bytes ≡ issuer) =
    issued_parts bytes _ currency issuer spelled refl c in
    let n : first_number bytes ≡ 9223372036854775808 + bits =
    number_again (take 8 bytes) (9223372036854775808 + bits) (omega arith) parts.0 in
    let d : bits ≡ first_number bytes - 9223372036854775808 = omega (arith, n) in (
      (
        omega (arith, n),
        (
          subst IsDecimal d decimal,
          (
            omega (
              arith,
              ap length spelled,
              length-append (to_be_bytes w64 (9223372036854775808 + bits)) (currency ++ issuer),
              length-append currency issuer,
              c,
              i,
            ),
            parts.0 ∙ ap (to_be_bytes w64) (sym n),
          ),
        ),
      ),
      λ k. Issued ((ap pos (sym d) ∙ sym same) k) (parts.1 k) (parts.2 k),
    )

issued_found : (bytes : List ℕ) → (length bytes ≡ 8 → ⊥) → Finds (IsThis bytes) (issued_of (first_number bytes) bytes)
issued_found bytes long =
    finds_one (IsThis bytes) _ _
    (Decides-and _ _ (nat_up_to 9223372036854775808 (first_number bytes)) (Decides-and _ _
    (is_decimal_so (first_number bytes - 9223372036854775808))
    (Decides-and _ _ (nat_same (length bytes) 48) (lists_same (take 8 bytes) (to_be_bytes w64 (first_number bytes))))))
    (issued_sound bytes) (λ a h. issued_complete bytes a long h)

pub amount_found : (bytes : List ℕ) → Finds (IsThis bytes) (amount_of bytes)
amount_found bytes =
    pick (Finds (IsThis bytes)) (length bytes == 8) _ _ (λ e. native_found bytes ((nat_same (length bytes) 8).0 e))
    (λ e.
    issued_found bytes
    (λ long. absurd (let yes_is : (length bytes == 8) ≡ true = (nat_same (length bytes) 8).1 long in cc)))

pub is_amount_so : (bytes : List ℕ) → Decides (is_amount bytes) (IsAmount bytes)
is_amount_so bytes = (
  λ e.
      there (amount_of bytes) refl e,
  λ (a, valid, is). ap (λ (o : Option Amount). is_some o) ((amount_found bytes).complete a (valid, is)),
)
  where
    there : (o : Option Amount) → amount_of bytes ≡ o → is_some o ≡ true → IsAmount bytes
    there None e h = absurd cc
    there (Some a) e h = let is : IsThis bytes a = (amount_found bytes).sound a e in (a, is.0, is.1)

-- the size of an amount, from its first byte
low_first : (first : ℕ) (rest : List ℕ) → first < 128 → amount_size (first ∷ rest) ≡ 8
low_first first rest low = grind (arith, nat_tests)

high_first : (first : ℕ) (rest : List ℕ) → 128 ≤ first → amount_size (first ∷ rest) ≡ 48
high_first first rest high = grind (arith, nat_tests)

first_low : (n : ℕ) (rest : List ℕ) → n < 9223372036854775808 → amount_size (to_be_bytes w64 n ++ rest) ≡ 8
first_low n rest low = low_first (get_or (to_be_bytes w64 n) 0 0) (drop 1 (to_be_bytes w64 n ++ rest)) (omega arith)

first_high : (n : ℕ) (rest : List ℕ) → 9223372036854775808 ≤ n → n < 18446744073709551616 →
    amount_size (to_be_bytes w64 n ++ rest) ≡ 48
first_high n rest high small =
    high_first (get_or (to_be_bytes w64 n) 0 0) (drop 1 (to_be_bytes w64 n ++ rest)) (omega arith)

size_again : (a : Amount) (rest : List ℕ) → IsValid a → length (amount_bytes a) ≡ amount_size (amount_bytes a ++ rest)
size_again (Native drops) rest valid = sym (first_low (2 ^ 62 + drops) rest (omega arith))
size_again (Issued value currency issuer) rest ((bits, same, decimal), c, i) =
    let small : bits < 9223372036854775808 = decimal-below bits decimal in
    let n : 2 ^ 63 + cast_unsigned w64 value ≡ 9223372036854775808 + bits =
    ap (λ z. 9223372036854775808 + cast_unsigned w64 z) same in
    omega (
      arith,
      length-append (to_be_bytes w64 (2 ^ 63 + cast_unsigned w64 value)) (currency ++ issuer),
      length-append currency issuer,
      c,
      i,
    )
    ∙ sym
    (ap amount_size (append_assoc (to_be_bytes w64 (2 ^ 63 + cast_unsigned w64 value)) (currency ++ issuer) rest)
    ∙ first_high (2 ^ 63 + cast_unsigned w64 value) ((currency ++ issuer) ++ rest) (omega (arith, n))
    (omega (arith, n)))

pub amount_size_again : (bytes rest : List ℕ) → IsAmount bytes → length bytes ≡ amount_size (bytes ++ rest)
amount_size_again bytes rest (a, valid, is) =
    ap length is ∙ size_again a rest valid ∙ ap (λ x. amount_size (x ++ rest)) (sym is)
