-- What the readers' private helpers answer, by cases on the first bytes. Public clauses use it through hk_reading's
-- `reading` alone, which a law ties to the relation.
use Rattle.std.specs.Prelude.{ℕ, ◌+◌, ◌-◌, ◌*◌, ◌/◌, ◌%◌, ◌==◌, ◌&&◌, List, [], ◌∷◌, if◌then◌else◌, nat_lt, nat_le}
use Rattle.std.specs.Prelude.{Option, Some, None}
use Rattle.xo_fields.specs.declared.header.HeaderRead.{HeaderRead}
use Rattle.xo_fields.specs.declared.header.HeaderRead.TheVariants.{Cut, Bad, Header}
use Rattle.xo_fields.specs.declared.length.LengthRead.{LengthRead}
use Rattle.xo_fields.specs.declared.length.LengthRead.TheVariants.{Length, Cut as Short, Bad as Wrong}
use Rattle.xo_fields.specs.Decimal.{decimal_bits}

abbrev pub found : ℕ → ℕ → ℕ → HeaderRead
found kind code size = Header (record { kind = kind; code = code }) size

-- after a byte 0
abbrev pub after_zero : List ℕ → HeaderRead
after_zero [] = Cut
after_zero (kind ∷ []) = if nat_lt kind 16 then Bad else Cut
after_zero (kind ∷ code ∷ rest) = if nat_lt kind 16 then Bad else if nat_lt code 16 then Bad else found kind code 3

-- after a byte with the kind alone
abbrev pub after_kind : ℕ → List ℕ → HeaderRead
after_kind kind [] = Cut
after_kind kind (code ∷ rest) = if nat_lt code 16 then Bad else found kind code 2

-- after a byte with the code alone
abbrev pub after_code : ℕ → List ℕ → HeaderRead
after_code code [] = Cut
after_code code (kind ∷ rest) = if nat_lt kind 16 then Bad else found kind code 2

-- a header of any kind
abbrev pub header_at : List ℕ → HeaderRead
header_at [] = Cut
header_at (first ∷ rest) =
    if first / 16 == 0
    then (if first % 16 == 0 then after_zero rest else after_code (first % 16) rest)
    else (if first % 16 == 0 then after_kind (first / 16) rest else
    (if (first % 16 == 1) && nat_le 14 (first / 16) then Bad else found (first / 16) (first % 16) 1))

-- a length of two bytes
abbrev pub two_bytes : ℕ → List ℕ → LengthRead
two_bytes first [] = Short
two_bytes first (second ∷ rest) = Length (193 + (first - 193) * 256 + second) 2

-- a length of three bytes, the second above what the first may have where the number would be too great
abbrev pub three_bytes : ℕ → List ℕ → LengthRead
three_bytes first [] = Short
three_bytes first (second ∷ []) = if nat_le (12481 + (first - 241) * 65536 + second * 256) 918744 then Short else Wrong
three_bytes first (second ∷ third ∷ rest) =
    if nat_le (12481 + (first - 241) * 65536 + second * 256 + third) 918744
    then Length (12481 + (first - 241) * 65536 + second * 256 + third) 3 else Wrong

abbrev pub length_at : List ℕ → LengthRead
length_at [] = Short
length_at (first ∷ rest) =
    if nat_le first 192 then Length first 1 else
    if nat_le first 240 then two_bytes first rest else
    if nat_le first 254 then three_bytes first rest else Wrong

-- the least bits of a decimal that are not below those of a number other than 0 with these parts
abbrev pub least_of : ℕ → ℕ → ℕ → Option ℕ
least_of positive biased mantissa =
    if biased == 0 then Some (decimal_bits positive 1 1000000000000000) else
    if nat_lt 177 biased then (if positive == 0 then Some (decimal_bits 1 1 1000000000000000) else None) else
    if nat_lt mantissa 1000000000000000 then Some (decimal_bits positive biased 1000000000000000) else
    if nat_lt mantissa 10000000000000000 then Some (decimal_bits positive biased mantissa) else
    if nat_lt biased 177 then Some (decimal_bits positive (biased + 1) 1000000000000000) else
    (if positive == 0 then Some (decimal_bits 1 1 1000000000000000) else None)

abbrev pub least : ℕ → Option ℕ
least low =
    if low == 0 then Some 0
    else least_of (low / 4611686018427387904) (low / 18014398509481984 % 256) (low % 18014398509481984)
