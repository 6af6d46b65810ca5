-- The numbers by which refused calls answer (this project's own, after the XRPL Hooks).
use Rattle.std.specs.Prelude.{ℕ, ℤ, pos, neg_ℤ}
use Rattle.hk_calls.specs.declared.code.Code.{Code}
use Rattle.hk_calls.specs.declared.code.Code.TheVariants as code

abbrev pub minus : ℕ → ℤ
minus n = neg_ℤ (pos n)

abbrev pub number_of : Code → ℤ
number_of code.OutOfBounds = minus 1
number_of code.TooBig = minus 3
number_of code.TooSmall = minus 4
number_of code.DoesntExist = minus 5
number_of code.NoFreeSlots = minus 6
number_of code.InvalidArgument = minus 7
number_of code.AlreadySet = minus 8
number_of code.PrerequisiteNotMet = minus 9
number_of code.FeeTooLarge = minus 10
number_of code.EmissionFailure = minus 11
number_of code.TooManyNonces = minus 12
number_of code.TooManyEmittedTxn = minus 13
number_of code.InvalidField = minus 17
number_of code.ParseError = minus 18
number_of code.NoSuchKeylet = minus 21
number_of code.NotAnArray = minus 22
number_of code.NotAnObject = minus 23
number_of code.DivisionByZero = minus 25
number_of code.XflOverflow = minus 30
number_of code.NotIouAmount = minus 31
number_of code.NotAnAmount = minus 32
number_of code.CantReturnNegative = minus 33
number_of code.NotAuthorized = minus 34
number_of code.TooManyParams = minus 36
number_of code.InvalidTxn = minus 37
number_of code.ReserveInsufficient = minus 38
number_of code.InvalidFloat = minus 10024
