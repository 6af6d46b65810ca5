-- What the reader finds at the front of bytes is what the definition of amounts says.
use Rattle.std.proofs.Common.{◌≡◌, ℕ, zero, suc, ◌+◌, ◌-◌, ◌*◌, ◌<◌, ◌≤◌, ◌^◌, ◌⊎◌, inl, inr, List, [], ◌∷◌, ◌++◌}
use Rattle.std.proofs.Common.{length, get_or, take, drop, refl, sym, ap, subst, ◌∙◌, arith, append-nil, append_assoc}
use Rattle.std.proofs.Common.{length-append, length-take, length-drop}
use Rattle.std.specs.Prelude.{ℤ, pos, replicate, Some, None}
use Rattle.std.proofs.Math.IntN.{nat_abs}
use Rattle.std.specs.Int.{w64, to_be_bytes, from_be_bytes, cast_unsigned, cast_signed}
use Rattle.std.proofs.lemmas.List.{length-replicate, take-append-drop, take_at, drop_at, get_or-append-add, drop_all}
use Rattle.std.proofs.lemmas.List.{take_all, take-append-le, drop-drop}
use borrow.Rule.Slice.PartMut.{put_mid}
use Rattle.std.proofs.Math.Seq.{take-append-add, take-add}
use Rattle.std.proofs.lemmas.Int.{to_z_pos, of_z-to_z}
use Rattle.xo_fields.specs.declared.amount.Amount.{Amount}
use Rattle.xo_fields.specs.declared.amount.Amount.TheVariants.{Native, Issued}
use Rattle.xo_fields.specs.declared.amount.AmountRead.TheVariants.{Amount as Whole}
use Rattle.xo_fields.specs.Amount.{amount_bytes, IsAmount, IsValid, AmountGives}
use Rattle.xo_fields.specs.Decimal.{IsDecimal}
use Rattle.xo_fields.specs.Spelling.{Begins, IsCut, IsBad}
use Rattle.xo_fields.specs.Table.{least}
use Rattle.xo_fields.proofs.Cases.{IsBytes}
use Rattle.xo_fields.proofs.Digits.{span, value, value-append, value-below, value-zeros, value-greatest, digits}
use Rattle.xo_fields.proofs.Digits.{value_is, eight_bytes, value-to_be_bytes, small-to_be_bytes}
use Rattle.xo_fields.proofs.LeastDecimal.{IsLeast, is_least}

-- the first eight bytes, those that are not there filled in
abbrev pub filled : List ℕ → ℕ → List ℕ
filled bytes fill = take 8 bytes ++ replicate (8 - length bytes) fill

-- how many of the eight bytes are not there
abbrev pub lacks : List ℕ → ℕ
lacks bytes = 8 - length bytes

pub length-filled : (bytes : List ℕ) (fill : ℕ) → length (filled bytes fill) ≡ 8
length-filled bytes fill =
    omega (
      arith,
      length-append (take 8 bytes) (replicate (lacks bytes) fill),
      length-take 8 bytes,
      length-replicate (lacks bytes) fill,
    )

value-filled : (bytes : List ℕ) (fill : ℕ) →
    value (filled bytes fill) ≡ value (take 8 bytes) * span (lacks bytes) + value (replicate (lacks bytes) fill)
value-filled bytes fill =
    value-append (take 8 bytes) (replicate (lacks bytes) fill)
    ∙ ap (λ n. value (take 8 bytes) * span n + value (replicate (lacks bytes) fill))
    (length-replicate (lacks bytes) fill)

take-bytes : (bytes : List ℕ) → IsBytes bytes → (n : ℕ) → IsBytes (take n bytes)
take-bytes xs small zero i = omega arith
take-bytes [] small (suc n) i = omega arith
take-bytes (x ∷ xs) small (suc n) zero = small 0
take-bytes (x ∷ xs) small (suc n) (suc i) = take-bytes xs (λ k. small (suc k)) n i

append-bytes : (p q : List ℕ) → IsBytes p → IsBytes q → IsBytes (p ++ q)
append-bytes [] q sp sq i = sq i
append-bytes (x ∷ p) q sp sq zero = sp zero
append-bytes (x ∷ p) q sp sq (suc i) = append-bytes p q (λ k. sp (suc k)) sq i

after-bytes : (p q whole : List ℕ) → p ++ q ≡ whole → IsBytes whole → IsBytes q
after-bytes p q whole e small i =
    subst (λ x. x < 256) (get_or-append-add p q i 0)
    (subst (λ xs. get_or xs (length p + i) 0 < 256) (sym e) (small (length p + i)))

-- a number whose eight bytes begin so lies between the two
begun : (bytes q : List ℕ) (n : ℕ) → n < 2 ^ 64 → length q ≡ lacks bytes → take 8 bytes ++ q ≡ to_be_bytes w64 n →
    (value (filled bytes 0) ≤ n) × (n ≤ value (filled bytes 255))
begun bytes q n small l e =
    let whole : value (take 8 bytes) * span (length q) + value q ≡ n =
    sym (value-append (take 8 bytes) q) ∙ ap value e ∙ value-to_be_bytes n small in
    let shift : value (take 8 bytes) * span (length q) ≡ value (take 8 bytes) * span (lacks bytes) =
    ap (λ k. value (take 8 bytes) * span k) l in
    let below : value q < span (length q) =
    value-below q (after-bytes (take 8 bytes) q (to_be_bytes w64 n) e (small-to_be_bytes n)) in
    let top : span (length q) ≡ span (lacks bytes) = ap span l in
    let zeros : value (replicate (lacks bytes) 0) ≡ 0 = value-zeros (lacks bytes) in
    let greatest : value (replicate (lacks bytes) 255) + 1 ≡ span (lacks bytes) = value-greatest (lacks bytes) in
    (omega (arith, value-filled bytes 0), omega (arith, value-filled bytes 255))

-- bytes go on to each number between the two
completed : (bytes : List ℕ) (n : ℕ) → IsBytes bytes → value (filled bytes 0) ≤ n → n ≤ value (filled bytes 255) →
    (q : List ℕ) × (length q ≡ lacks bytes) × (take 8 bytes ++ q ≡ to_be_bytes w64 n)
completed bytes n small low high =
    let zeros : value (replicate (lacks bytes) 0) ≡ 0 = value-zeros (lacks bytes) in
    let greatest : value (replicate (lacks bytes) 255) + 1 ≡ span (lacks bytes) = value-greatest (lacks bytes) in
    let d : (q : List ℕ) × (length q ≡ lacks bytes) × IsBytes q
    × (value q ≡ n - value (take 8 bytes) * span (lacks bytes)) =
    digits (lacks bytes) (n - value (take 8 bytes) * span (lacks bytes))
    (omega (arith, value-filled bytes 0, value-filled bytes 255)) in
    let whole : value (take 8 bytes ++ d.0) ≡ n =
    value-append (take 8 bytes) d.0
    ∙ ap (λ k. value (take 8 bytes) * span k + value d.0) d.1
    ∙ omega (arith, d.3, value-filled bytes 0) in (
      d.0,
      d.1,
      eight_bytes (take 8 bytes ++ d.0) n (omega (arith, length-append (take 8 bytes) d.0, length-take 8 bytes, d.1))
          (append-bytes (take 8 bytes) d.0 (take-bytes bytes small 8) d.2) whole,
    )

-- the eight bytes of a number begin with those that are there
take_more : (bytes more : List ℕ) → 8 ≤ length bytes + length more →
    (length (take (lacks bytes) more) ≡ lacks bytes)
    × (take 8 (bytes ++ more) ≡ take 8 bytes ++ take (lacks bytes) more)
take_more bytes more long = (omega (arith, length-take (lacks bytes) more), ways (cut (length bytes)))
  where
    cut : (n : ℕ) → (n ≤ 8) ⊎ (8 ≤ n)
    cut n = grind arith

    ways : (length bytes ≤ 8) ⊎ (8 ≤ length bytes) → take 8 (bytes ++ more) ≡ take 8 bytes ++ take (lacks bytes) more
    ways (inl short) =
        let n : 8 ≡ length bytes + lacks bytes = omega arith in
        ap (λ k. take k (bytes ++ more)) n
        ∙ take-append-add bytes more (lacks bytes)
        ∙ ap (λ x. x ++ take (lacks bytes) more) (sym (take_all 8 bytes short))
    ways (inr enough) =
        let n : lacks bytes ≡ 0 = omega arith in
        take-append-le 8 bytes more enough
        ∙ sym (append-nil (take 8 bytes))
        ∙ ap (λ k. take 8 bytes ++ take k more) (sym n)

-- a number whose bytes go on from these lies between the two
between : (bytes more after : List ℕ) (n : ℕ) → n < 2 ^ 64 → bytes ++ more ≡ to_be_bytes w64 n ++ after →
    (value (filled bytes 0) ≤ n) × (n ≤ value (filled bytes 255))
between bytes more after n small e =
    let long : 8 ≤ length bytes + length more =
    omega (arith, length-append bytes more, ap length e, length-append (to_be_bytes w64 n) after) in
    let t : (length (take (lacks bytes) more) ≡ lacks bytes)
    × (take 8 (bytes ++ more) ≡ take 8 bytes ++ take (lacks bytes) more) =
    take_more bytes more long in
    begun bytes (take (lacks bytes) more) n small t.0
    (sym t.1 ∙ ap (λ x. take 8 x) e ∙ take_at (to_be_bytes w64 n) after 8 refl)

pub decimal-below : (bits : ℕ) → IsDecimal bits → bits < 9223372036854775808
decimal-below bits (inl none) = omega arith
decimal-below bits (inr (p, b, m, d)) = omega arith

-- what bytes with first bit 1 may go on to
pub record Among (bytes more : List ℕ) : Type 0 where
  pub bits : ℕ
  pub decimal : IsDecimal bits
  pub low : value (filled bytes 0) ≤ 9223372036854775808 + bits
  pub high : 9223372036854775808 + bits ≤ value (filled bytes 255)
  pub long : 48 ≤ length bytes + length more

among : (bytes more rest : List ℕ) (a : Amount) → 9223372036854775808 ≤ value (filled bytes 0) → IsValid a →
    bytes ++ more ≡ amount_bytes a ++ rest → Among bytes more
among bytes more rest (Native drops) first valid e =
    let b : (value (filled bytes 0) ≤ 2 ^ 62 + drops) × (2 ^ 62 + drops ≤ value (filled bytes 255)) =
    between bytes more rest (2 ^ 62 + drops) (omega arith) e in
    absurd (omega (arith, b.0))
among bytes more rest (Issued v currency issuer) first ((bits, is, decimal), c, i) e =
    let small : bits < 9223372036854775808 = decimal-below bits decimal in
    let whole : bytes ++ more ≡ to_be_bytes w64 (2 ^ 63 + bits) ++ ((currency ++ issuer) ++ rest) =
    e
    ∙ ap (λ z. (to_be_bytes w64 (2 ^ 63 + cast_unsigned w64 z) ++ (currency ++ issuer)) ++ rest) is
    ∙ append_assoc (to_be_bytes w64 (2 ^ 63 + bits)) (currency ++ issuer) rest in
    let b : (value (filled bytes 0) ≤ 2 ^ 63 + bits) × (2 ^ 63 + bits ≤ value (filled bytes 255)) =
    between bytes more ((currency ++ issuer) ++ rest) (2 ^ 63 + bits) (omega arith) whole in
    record {
      bits = bits;
      decimal = decimal;
      low = omega (arith, b.0);
      high = omega (arith, b.1);
      long =
          omega (
            arith,
            length-append bytes more,
            ap length whole,
            length-append (to_be_bytes w64 (2 ^ 63 + bits)) ((currency ++ issuer) ++ rest),
            length-append (currency ++ issuer) rest,
            length-append currency issuer,
            c,
            i,
          );
    }

-- the number of the eight bytes, those that are not there filled in, where the first bit is 1
abbrev pub Shown : List ℕ → ℕ → ℕ → Type 0
Shown bytes fill n = n ≡ from_be_bytes w64 (filled bytes fill)

shown_value : (bytes : List ℕ) (fill n : ℕ) → Shown bytes fill n → n ≡ value (filled bytes fill)
shown_value bytes fill n h = h ∙ sym (value_is (filled bytes fill) (length-filled bytes fill))

first_bit : (bytes : List ℕ) (fill : ℕ) → 0 < length bytes → 128 ≤ get_or bytes 0 0 →
    9223372036854775808 ≤ value (filled bytes fill)
first_bit [] fill some high = absurd (omega arith)
first_bit (b ∷ rest) fill some high =
    let tail : length (take 7 rest ++ replicate (8 - suc (length rest)) fill) ≡ 7 =
    omega (arith, length-filled (b ∷ rest) fill) in
    let worth : b * span (length (take 7 rest ++ replicate (8 - suc (length rest)) fill)) ≡ b * 72057594037927936 =
    ap (λ n. b * span n) tail in
    omega arith

-- no amount begins with bytes from which the least decimal is past those that they begin
pub record Beginning (bytes : List ℕ) (low high : ℕ) : Type 0 where
  pub some : 0 < length bytes
  pub first : 128 ≤ get_or bytes 0 0
  pub small : IsBytes bytes
  pub low_is : Shown bytes 0 low
  pub high_is : Shown bytes 255 high

low_small : (bytes : List ℕ) (low high : ℕ) → Beginning bytes low high → low < 18446744073709551616
low_small bytes low high b =
    let l : low ≡ value (filled bytes 0) = shown_value bytes 0 low b.low_is in
    let filled_small : IsBytes (filled bytes 0) =
    append-bytes (take 8 bytes) (replicate (lacks bytes) 0) (take-bytes bytes b.small 8) (zeros (lacks bytes)) in
    let below : value (filled bytes 0) < span (length (filled bytes 0)) = value-below (filled bytes 0) filled_small in
    let top : span (length (filled bytes 0)) ≡ 18446744073709551616 = ap span (length-filled bytes 0) in omega arith
  where
    zeros : (k : ℕ) → IsBytes (replicate k 0)
    zeros zero i = omega arith
    zeros (suc k) zero = omega arith
    zeros (suc k) (suc i) = zeros k i

bad_from : (bytes : List ℕ) → ((more : List ℕ) → Among bytes more → ⊥) → 9223372036854775808 ≤ value (filled bytes 0) →
    IsBad IsAmount bytes
bad_from bytes none first = (
  λ (front, rest, (a, valid, is), whole).
      none [] (among bytes [] rest a first valid (append-nil bytes ∙ whole ∙ ap (λ x. x ++ rest) is)),
  λ more (a, valid, is). none more (among bytes more [] a first valid (is ∙ sym (append-nil (amount_bytes a)))),
)

pub no_decimal : (bytes : List ℕ) (low high : ℕ) → Beginning bytes low high → None ≡ least (low - 9223372036854775808) →
    IsBad IsAmount bytes
no_decimal bytes low high b e =
    let first : 9223372036854775808 ≤ value (filled bytes 0) = first_bit bytes 0 b.some b.first in
    let l : low ≡ value (filled bytes 0) = shown_value bytes 0 low b.low_is in
    let none : IsLeast (low - 9223372036854775808) None =
    subst (IsLeast (low - 9223372036854775808)) (sym e)
    (is_least (low - 9223372036854775808) (omega (arith, low_small bytes low high b))) in
    bad_from bytes (λ more m. none m.bits m.decimal (omega arith)) first

pub decimal_past : (bytes : List ℕ) (low high w : ℕ) → Beginning bytes low high →
    Some w ≡ least (low - 9223372036854775808) → high - 9223372036854775808 < w → IsBad IsAmount bytes
decimal_past bytes low high w b e past =
    let first : 9223372036854775808 ≤ value (filled bytes 0) = first_bit bytes 0 b.some b.first in
    let l : low ≡ value (filled bytes 0) = shown_value bytes 0 low b.low_is in
    let h : high ≡ value (filled bytes 255) = shown_value bytes 255 high b.high_is in
    let from : IsLeast (low - 9223372036854775808) (Some w) =
    subst (IsLeast (low - 9223372036854775808)) (sym e)
    (is_least (low - 9223372036854775808) (omega (arith, low_small bytes low high b))) in
    bad_from bytes (λ more m. let le : w ≤ m.bits = from.2 m.bits m.decimal (omega arith) in omega arith) first

-- the amount whose bytes go on from these
issued : (w : ℕ) (bytes q tail : List ℕ) → IsDecimal w → length tail ≡ 40 →
    bytes ++ q ≡ to_be_bytes w64 (9223372036854775808 + w) ++ tail → IsAmount (bytes ++ q)
issued w bytes q tail decimal l e = (
  Issued (pos w) (take 20 tail) (drop 20 tail),
  ((w, refl, decimal), omega (arith, length-take 20 tail), omega (arith, length-drop 20 tail)),
  e ∙ ap (λ x. to_be_bytes w64 (9223372036854775808 + w) ++ x) (sym (take-append-drop 20 tail)),
)

-- bytes that go on to a decimal's eight go on to an amount
joined : (bytes q zeros : List ℕ) (n : ℕ) → length q ≡ lacks bytes → take 8 bytes ++ q ≡ to_be_bytes w64 n →
    bytes ++ (q ++ zeros) ≡ to_be_bytes w64 n ++ (drop 8 bytes ++ zeros)
joined bytes q zeros n l e = ways (cut (length bytes))
  where
    cut : (n : ℕ) → (n ≤ 8) ⊎ (8 ≤ n)
    cut n = grind arith

    nothing : (xs : List ℕ) → length xs ≡ 0 → xs ≡ []
    nothing [] z = refl
    nothing (x ∷ xs) z = absurd (omega arith)

    ways : (length bytes ≤ 8) ⊎ (8 ≤ length bytes) →
        bytes ++ (q ++ zeros) ≡ to_be_bytes w64 n ++ (drop 8 bytes ++ zeros)
    ways (inl short) =
        sym (append_assoc bytes q zeros)
        ∙ ap (λ x. (x ++ q) ++ zeros) (sym (take_all 8 bytes short))
        ∙ ap (λ x. x ++ zeros) e
        ∙ ap (λ x. to_be_bytes w64 n ++ (x ++ zeros)) (sym (drop_all 8 bytes short))
    ways (inr enough) =
        let none : q ≡ [] = nothing q (omega arith) in
        ap (λ x. bytes ++ (x ++ zeros)) none
        ∙ ap (λ x. x ++ zeros) (sym (take-append-drop 8 bytes))
        ∙ append_assoc (take 8 bytes) (drop 8 bytes) zeros
        ∙ ap (λ x. x ++ (drop 8 bytes ++ zeros))
        (sym (append-nil (take 8 bytes)) ∙ ap (λ x. take 8 bytes ++ x) (sym none) ∙ e)

pub decimal_cut : (bytes : List ℕ) (low high w : ℕ) → Beginning bytes low high →
    Some w ≡ least (low - 9223372036854775808) → w ≤ high - 9223372036854775808 → length bytes < 48 →
    IsCut IsAmount bytes
decimal_cut bytes low high w b e within short =
    let first : 9223372036854775808 ≤ value (filled bytes 0) = first_bit bytes 0 b.some b.first in
    let greatest : 9223372036854775808 ≤ value (filled bytes 255) = first_bit bytes 255 b.some b.first in
    let l : low ≡ value (filled bytes 0) = shown_value bytes 0 low b.low_is in
    let h : high ≡ value (filled bytes 255) = shown_value bytes 255 high b.high_is in
    let from : IsLeast (low - 9223372036854775808) (Some w) =
    subst (IsLeast (low - 9223372036854775808)) (sym e)
    (is_least (low - 9223372036854775808) (omega (arith, low_small bytes low high b))) in
    let q : (q : List ℕ) × (length q ≡ lacks bytes) × (take 8 bytes ++ q ≡ to_be_bytes w64 (9223372036854775808 + w)) =
    completed bytes (9223372036854775808 + w) b.small (omega (arith, from.1)) (omega arith) in
    let zeros : List ℕ = replicate (40 - (length bytes - 8)) 0 in (
      λ (front, rest, (a, valid, is), whole).
          let m : Among bytes [] =
          among bytes [] rest a first valid (append-nil bytes ∙ whole ∙ ap (λ x. x ++ rest) is) in
          omega (arith, m.long),
      (
        q.0 ++ zeros,
        issued w bytes (q.0 ++ zeros) (drop 8 bytes ++ zeros) from.0
            (omega (
              arith,
              length-append (drop 8 bytes) zeros,
              length-drop 8 bytes,
              length-replicate {A = ℕ} (40 - (length bytes - 8)) 0,
            ))
            (joined bytes q.0 zeros (9223372036854775808 + w) q.1 q.2),
      ),
    )

-- the issued amount that stands there whole
pub decimal_there : (bytes : List ℕ) (low high w : ℕ) (currency issuer : List ℕ) → Beginning bytes low high →
    Some w ≡ least (low - 9223372036854775808) → w ≤ high - 9223372036854775808 → 48 ≤ length bytes →
    currency ≡ take 20 (drop 8 bytes) → issuer ≡ take 20 (drop 28 bytes) →
    AmountGives bytes (Whole (Issued (cast_signed w64 w) currency issuer) 48)
decimal_there bytes low high w currency issuer b e within long c i =
    let first : 9223372036854775808 ≤ value (filled bytes 0) = first_bit bytes 0 b.some b.first in
    let greatest : 9223372036854775808 ≤ value (filled bytes 255) = first_bit bytes 255 b.some b.first in
    let l : low ≡ value (filled bytes 0) = shown_value bytes 0 low b.low_is in
    let h : high ≡ value (filled bytes 255) = shown_value bytes 255 high b.high_is in
    let from : IsLeast (low - 9223372036854775808) (Some w) =
    subst (IsLeast (low - 9223372036854775808)) (sym e)
    (is_least (low - 9223372036854775808) (omega (arith, low_small bytes low high b))) in
    let q : (q : List ℕ) × (length q ≡ lacks bytes) × (take 8 bytes ++ q ≡ to_be_bytes w64 (9223372036854775808 + w)) =
    completed bytes (9223372036854775808 + w) b.small (omega (arith, from.1)) (omega arith) in
    let small : w < 9223372036854775808 = decimal-below w from.0 in (
      (
        (w, to_z_pos w64 w small, from.0),
        omega (arith, ap length c, length-take 20 (drop 8 bytes), length-drop 8 bytes),
        omega (arith, ap length i, length-take 20 (drop 28 bytes), length-drop 28 bytes),
      ),
      long,
      take-add 8 40 bytes ∙ ap (λ x. x ++ take 40 (drop 8 bytes)) (eight q.0 (omega (arith, q.1)) q.2)
          ∙ ap (λ x. to_be_bytes w64 (9223372036854775808 + w) ++ x)
          (take-add 20 20 (drop 8 bytes)
          ∙ ap (λ x. take 20 (drop 8 bytes) ++ take 20 x) (drop-drop 20 8 bytes)
          ∙ ap (λ x. x ++ take 20 (drop 28 bytes)) (sym c)
          ∙ ap (λ x. currency ++ x) (sym i))
          ∙ ap (λ n. to_be_bytes w64 (9223372036854775808 + n) ++ (currency ++ issuer))
          (sym (of_z-to_z w64 w (omega arith))),
    )
  where
    nothing : (xs : List ℕ) → length xs ≡ 0 → xs ≡ []
    nothing [] z = refl
    nothing (x ∷ xs) z = absurd (omega arith)

    eight : (q : List ℕ) → length q ≡ 0 → take 8 bytes ++ q ≡ to_be_bytes w64 (9223372036854775808 + w) →
        take 8 bytes ≡ to_be_bytes w64 (9223372036854775808 + w)
    eight q none whole = sym (append-nil (take 8 bytes)) ∙ ap (λ x. take 8 bytes ++ x) (sym (nothing q none)) ∙ whole

-- an amount has at least eight bytes
amount-long : (a : Amount) → 8 ≤ length (amount_bytes a)
amount-long (Native drops) = omega arith
amount-long (Issued v currency issuer) = omega arith

begins-long : (bytes : List ℕ) → Begins IsAmount bytes → 8 ≤ length bytes
begins-long bytes (front, rest, (a, valid, is), whole) =
    omega (arith, amount-long a, ap length is, ap length whole, length-append front rest)

pub nothing_cut : (bytes : List ℕ) → length bytes < 1 → IsCut IsAmount bytes
nothing_cut [] none = (
  λ b.
      let long : 8 ≤ length {A = ℕ} [] = begins-long [] b in
      omega arith,
  (amount_bytes (Native 0), (Native 0, omega arith, refl)),
)
nothing_cut (x ∷ xs) none = absurd (omega arith)

-- bytes with first bits 01 go on to drops
native_range : (bytes : List ℕ) → IsBytes bytes → 0 < length bytes → 64 ≤ get_or bytes 0 0 → get_or bytes 0 0 < 128 →
    (4611686018427387904 ≤ value (filled bytes 0)) × (value (filled bytes 0) < 9223372036854775808)
native_range [] small some low high = absurd (omega arith)
native_range (b ∷ rest) small some low high =
    let tail : length (take 7 rest ++ replicate (8 - suc (length rest)) 0) ≡ 7 =
    omega (arith, length-filled (b ∷ rest) 0) in
    let worth : b * span (length (take 7 rest ++ replicate (8 - suc (length rest)) 0)) ≡ b * 72057594037927936 =
    ap (λ n. b * span n) tail in
    let more : IsBytes (take 7 rest ++ replicate (8 - suc (length rest)) 0) =
    append-bytes (take 7 rest) (replicate (8 - suc (length rest)) 0) (take-bytes rest (λ i. small (suc i)) 7)
    (zeros (8 - suc (length rest))) in
    let below : value (take 7 rest ++ replicate (8 - suc (length rest)) 0)
    < span (length (take 7 rest ++ replicate (8 - suc (length rest)) 0)) =
    value-below (take 7 rest ++ replicate (8 - suc (length rest)) 0) more in
    let top : span (length (take 7 rest ++ replicate (8 - suc (length rest)) 0)) ≡ 72057594037927936 = ap span tail in
    (omega arith, omega arith)
  where
    zeros : (k : ℕ) → IsBytes (replicate k 0)
    zeros zero i = omega arith
    zeros (suc k) zero = omega arith
    zeros (suc k) (suc i) = zeros k i

pub native_cut : (bytes : List ℕ) → IsBytes bytes → 0 < length bytes → 64 ≤ get_or bytes 0 0 → get_or bytes 0 0 < 128 →
    length bytes < 8 → IsCut IsAmount bytes
native_cut bytes small some low high short =
    let range : (4611686018427387904 ≤ value (filled bytes 0)) × (value (filled bytes 0) < 9223372036854775808) =
    native_range bytes small some low high in
    let zeros : value (replicate (lacks bytes) 0) ≡ 0 = value-zeros (lacks bytes) in
    let order : value (filled bytes 0) ≤ value (filled bytes 255) =
    omega (arith, value-filled bytes 0, value-filled bytes 255) in
    let q : (q : List ℕ) × (length q ≡ lacks bytes) × (take 8 bytes ++ q ≡ to_be_bytes w64 (value (filled bytes 0))) =
    completed bytes (value (filled bytes 0)) small (omega arith) order in
    let drops : value (filled bytes 0) ≡ 4611686018427387904 + (value (filled bytes 0) - 4611686018427387904) =
    omega (arith, range.0) in (
      λ b. let long : 8 ≤ length bytes = begins-long bytes b in omega arith,
      (
        q.0,
        (
          Native (value (filled bytes 0) - 4611686018427387904),
          omega (arith, range.0, range.1),
          ap (λ x. x ++ q.0) (sym (take_all 8 bytes (omega arith))) ∙ q.2 ∙ ap (λ n. to_be_bytes w64 n) drops,
        ),
      ),
    )

-- the three parts of an issued amount, each put in its place
pub three_parts : (a z b d : List ℕ) → length a ≡ 8 → length b ≡ 20 → length d ≡ 20 →
    take 48 (put_mid 28 20 (put_mid 8 20 (a ++ z) b) d) ≡ a ++ (b ++ d)
three_parts a z b d la lb ld =
    let x : put_mid 8 20 (a ++ z) b ≡ (a ++ b) ++ drop 20 z =
    ap (λ t. t ++ (b ++ drop 20 (drop 8 (a ++ z)))) (take_at a z 8 la)
    ∙ ap (λ t. a ++ (b ++ drop 20 t)) (drop_at a z 8 la)
    ∙ sym (append_assoc a b (drop 20 z)) in
    let rest : List ℕ = drop 20 (drop 28 ((a ++ b) ++ drop 20 z)) in
    ap (λ t. take 48 (put_mid 28 20 t d)) x
    ∙ ap (λ t. take 48 (t ++ (d ++ rest))) (take_at (a ++ b) (drop 20 z) 28 (omega (arith, length-append a b)))
    ∙ ap (take 48) (sym (append_assoc (a ++ b) d rest))
    ∙ take_at ((a ++ b) ++ d) rest 48 (omega (arith, length-append (a ++ b) d, length-append a b))
    ∙ append_assoc a b d

-- the bits of a decimal, cast from its signed number
pub issued_bits : (v : ℤ) → ((bits : ℕ) × (v ≡ pos bits) × IsDecimal bits) →
    nat_abs (cast_signed w64 (cast_unsigned w64 v)) ≡ cast_unsigned w64 v
issued_bits v (bits, is, decimal) =
    ap (λ z. nat_abs (cast_signed w64 (cast_unsigned w64 z))) is
    ∙ ap nat_abs (to_z_pos w64 bits (decimal-below bits decimal))
    ∙ sym (ap (cast_unsigned w64) is)
