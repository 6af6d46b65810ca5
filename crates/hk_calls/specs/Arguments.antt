-- The arguments of a call, as its row reads them: words of 64 bits by their places, from 0. A place past the last
-- has 0.
use Rattle.std.specs.Prelude.{ℕ, ◌+◌, ◌%◌, ◌^◌, ℤ, List, slice_index}
use Rattle.std.specs.Int.{w32, w64, cast_signed}
use Rattle.hk_calls.specs.declared.arguments.Pair.{Pair}

-- an i32 argument, unsigned
abbrev pub narrow_at : List ℕ → ℕ → ℕ
narrow_at arguments place = slice_index arguments place % 2 ^ 32

-- an i64 argument, signed
abbrev pub wide_at : List ℕ → ℕ → ℤ
wide_at arguments place = cast_signed w64 (slice_index arguments place)

-- an i32 argument that is signed, as an exponent is
abbrev pub exponent_at : List ℕ → ℕ → ℤ
exponent_at arguments place = cast_signed w32 (narrow_at arguments place)

-- a pointer and the length after it
abbrev pub pair_of : List ℕ → ℕ → Pair
pair_of arguments place = record { at = narrow_at arguments place; count = narrow_at arguments (place + 1) }
