-- The amount that bytes are, as a function: it is guessed, and taken where its bytes are these.
use Rattle.std.specs.Prelude.{ℕ, pos, ◌-◌, ◌/◌, ◌%◌, ◌==◌, ◌&&◌, ◌||◌, nat_lt, nat_le, bytes_eq, Bool, List, [], ◌∷◌}
use Rattle.std.specs.Prelude.{length, take, drop, Option, Some, None, is_some, if◌then◌else◌}
use Rattle.std.specs.Int.{w64, to_be_bytes, from_be_bytes}
use Rattle.xo_fields.specs.declared.amount.Amount.{Amount}
use Rattle.xo_fields.specs.declared.amount.Amount.TheVariants.{Native, Issued}

-- what is taken where the test passes
abbrev pub only_if : {A : Type 0} → Bool → Option A → Option A
only_if test taken = if test then taken else None

-- positive, biased and mantissa of a decimal's bits are in their ranges
abbrev pub is_decimal : ℕ → Bool
is_decimal bits =
    (bits == 0) ||
    (nat_lt bits 9223372036854775808 && (nat_le 1 (bits / 18014398509481984 % 256) &&
    (nat_le (bits / 18014398509481984 % 256) 177
    && (nat_le 1000000000000000 (bits % 18014398509481984) && nat_lt (bits % 18014398509481984) 10000000000000000))))

-- drops of the number of eight bytes
abbrev pub native_of : ℕ → List ℕ → Option Amount
native_of n bytes =
    only_if (nat_le 4611686018427387904 n && (nat_lt n 9223372036854775808 && bytes_eq bytes (to_be_bytes w64 n)))
    (Some (Native (n - 4611686018427387904)))

-- an issued amount, of the number of its first eight bytes
abbrev pub issued_of : ℕ → List ℕ → Option Amount
issued_of n bytes =
    only_if (nat_le 9223372036854775808 n &&
    (is_decimal (n - 9223372036854775808) && ((length bytes == 48) && bytes_eq (take 8 bytes) (to_be_bytes w64 n))))
    (Some (Issued (pos (n - 9223372036854775808)) (take 20 (drop 8 bytes)) (drop 28 bytes)))

abbrev pub amount_of : List ℕ → Option Amount
amount_of bytes =
    if length bytes == 8 then native_of (from_be_bytes w64 bytes) bytes
    else issued_of (from_be_bytes w64 (take 8 bytes)) bytes

abbrev pub is_amount : List ℕ → Bool
is_amount bytes = is_some (amount_of bytes)

-- how many bytes an amount takes that begins so
abbrev pub amount_size : List ℕ → ℕ
amount_size [] = 8
amount_size (first ∷ rest) = if nat_lt first 128 then 8 else 48
