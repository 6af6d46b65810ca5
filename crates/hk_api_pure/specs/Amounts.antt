-- Rows 22 and 23: issued amounts (this project's own, after the XRPL Hooks).
use Rattle.std.specs.Prelude.{ℕ, ◌-◌, ◌^◌, ◌==◌, ◌&&◌, ◌||◌, not, nat_lt, ℤ, pos, List, ◌++◌, take, Ok}
use Rattle.std.specs.Int.{w64, from_be_bytes}
use Rattle.xfl.specs.Value.{bits_of}
use Rattle.xo_fields.specs.declared.amount.Amount.TheVariants.{Issued}
use Rattle.xo_fields.specs.Amount.{amount_bytes}
use Rattle.xo_fields.specs.Header.{header}
use Rattle.hk_calls.specs.declared.arguments.Pair.{Pair}
use Rattle.hk_calls.specs.declared.code.Code.TheVariants as code
use Rattle.hk_calls.specs.Outputs.{Output, writes}
use Rattle.hk_calls.specs.Rules.{OrCode, ◌>>=◌, ◌>>◌, refuse, inside, read, field}
use Rattle.hk_api_pure.specs.Floats.{is_xfl, float}

-- 22: the pairs are wp wl, cp cl and ip il
unfoldable pub float_sto : List ℕ → Pair → Pair → Pair → ℤ → ℕ → OrCode Output
float_sto m write cp ip x number = do
  inside m write
  currency ← read m cp
  issuer ← read m ip
  a ← float x
  f ← field number
  refuse (not (f.kind == 6)) code.InvalidField
  refuse (not (cp.count == 20 && ip.count == 20)) code.InvalidArgument
  Ok (writes (header f ++ amount_bytes (Issued (bits_of a) currency issuer)))

-- the first eight bytes as a number
abbrev pub first_number : List ℕ → ℕ
first_number bytes = from_be_bytes w64 (take 8 bytes)

-- the other 63 bits of an amount whose first bit is 1
abbrev pub issued_bits : List ℕ → ℤ
issued_bits bytes = pos (first_number bytes - 2 ^ 63)

-- 23: the pair is rp rl
abbrev pub float_sto_set : List ℕ → Pair → OrCode ℤ
float_sto_set m from = do
  bytes ← read m from
  refuse (not (from.count == 8 || from.count == 48)) code.NotAnAmount
  refuse (nat_lt (first_number bytes) (2 ^ 63)) code.NotIouAmount
  refuse (not (is_xfl (issued_bits bytes))) code.NotAnAmount
  Ok (issued_bits bytes)
