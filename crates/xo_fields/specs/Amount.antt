-- Amounts (xrpl.org, "Serialization Format", Amount Fields).
use Rattle.std.specs.Prelude.{◌≡◌, ℕ, pos, ◌+◌, ◌<◌, ◌≤◌, ◌^◌, List, ◌++◌, length, take}
use Rattle.std.specs.Int.{w64, to_be_bytes, cast_unsigned}
use Rattle.xo_fields.specs.declared.amount.Amount.{Amount}
use Rattle.xo_fields.specs.declared.amount.Amount.TheVariants.{Native, Issued}
use Rattle.xo_fields.specs.declared.amount.AmountRead.{AmountRead}
use Rattle.xo_fields.specs.declared.amount.AmountRead.TheVariants.{Cut, Bad, Amount as Whole}
use Rattle.xo_fields.specs.Decimal.{IsDecimal}
use Rattle.xo_fields.specs.Spelling.{IsCut, IsBad}

-- drops below 2^62, or a decimal of a currency's issuer
abbrev pub IsValid : Amount → Type 0
IsValid (Native drops) = drops < 2 ^ 62
IsValid (Issued value currency issuer) =
    ((bits : ℕ) × (value ≡ pos bits) × IsDecimal bits) × (length currency ≡ 20) × (length issuer ≡ 20)

-- the bytes of an amount: eight with first bits 01 and then the drops, or
-- eight with first bit 1 and then the decimal, its currency and its issuer
abbrev pub amount_bytes : Amount → List ℕ
amount_bytes (Native drops) = to_be_bytes w64 (2 ^ 62 + drops)
amount_bytes (Issued value currency issuer) = to_be_bytes w64 (2 ^ 63 + cast_unsigned w64 value) ++ (currency ++ issuer)

abbrev pub IsAmount : List ℕ → Type 0
IsAmount bytes = (amount : Amount) × IsValid amount × (bytes ≡ amount_bytes amount)

-- what stands at the front of the bytes
abbrev pub AmountGives : List ℕ → AmountRead → Type 0
AmountGives bytes Cut = IsCut IsAmount bytes
AmountGives bytes Bad = IsBad IsAmount bytes
AmountGives bytes (Whole amount size) = IsValid amount × (size ≤ length bytes) × (take size bytes ≡ amount_bytes amount)
