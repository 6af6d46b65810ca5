-- Arguments that are XFLs, and the codes of what can't be calculated (this project's own, after the XRPL Hooks).
use Rattle.std.specs.Prelude.{ℤ, pos, negsuc, Bool, false, Result, Ok, Err, if◌then◌else◌}
use Rattle.xfl.specs.declared.fault.XflFault.{XflFault}
use Rattle.xfl.specs.declared.fault.XflFault.TheVariants as fault
use Rattle.xfl.specs.Value.{Decimal, decimal_of, bits_of}
use Rattle.hk_reading.specs.Amounts.{is_decimal}
use Rattle.hk_calls.specs.declared.code.Code.{Code}
use Rattle.hk_calls.specs.declared.code.Code.TheVariants as code
use Rattle.hk_calls.specs.Rules.{OrCode, ◌>>=◌}

-- the bits are an XFL's
abbrev pub is_xfl : ℤ → Bool
is_xfl (pos bits) = is_decimal bits
is_xfl (negsuc bits) = false

-- the XFL of bits
abbrev pub float : ℤ → OrCode Decimal
float bits = if is_xfl bits then Ok (decimal_of bits) else Err code.InvalidFloat

abbrev pub code_of : XflFault → Code
code_of fault.DivisionByZero = code.DivisionByZero
code_of fault.Overflow = code.XflOverflow
code_of fault.BadPlaces = code.InvalidArgument
code_of fault.Negative = code.CantReturnNegative
code_of fault.TooBig = code.TooBig

-- what is calculated, or the code of its fault
abbrev pub calculated : {A : Type 0} → Result A XflFault → OrCode A
calculated (Ok x) = Ok x
calculated (Err fault) = Err (code_of fault)

-- the same, as bits
abbrev pub bits : Result Decimal XflFault → OrCode ℤ
bits result = do
  z ← calculated result
  Ok (bits_of z)
