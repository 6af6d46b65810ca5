-- The rows from 3 to 26 of the table of calls, by the places of their arguments (this project's own, after the
-- XRPL Hooks).
use Rattle.std.specs.Prelude.{ℕ, ◌==◌, nat_lt, ℤ, List, if◌then◌else◌}
use Rattle.hk_calls.specs.Arguments.{narrow_at, wide_at, exponent_at, pair_of}
use Rattle.hk_calls.specs.Outputs.{Output, answering, outcome, given}
use Rattle.hk_calls.specs.Rules.{OrCode}
use Rattle.hk_api_pure.specs.Hashes.{util_sha512h, util_keylet}
use Rattle.hk_api_pure.specs.Objects.{sto_subfield, sto_subarray, sto_emplace, sto_erase, sto_validate}
use Rattle.hk_api_pure.specs.Decimals.{float_one, float_set, float_multiply, float_mulratio, float_divide, float_invert}
use Rattle.hk_api_pure.specs.Decimals.{float_sum, float_negate, float_compare, float_mantissa, float_sign, float_int}
use Rattle.hk_api_pure.specs.Amounts.{float_sto, float_sto_set}
use Rattle.hk_api_pure.specs.Traces.{trace, trace_number}

-- 3 and 4
unfoldable pub hash_row : ℕ → List ℕ → List ℕ → OrCode Output
hash_row row a m =
    if row == 3 then util_sha512h m (pair_of a 0) (pair_of a 2) else
    util_keylet m (pair_of a 0) (narrow_at a 2) (pair_of a 3) (pair_of a 5) (pair_of a 7)

-- 5 to 9
unfoldable pub object_row : ℕ → List ℕ → List ℕ → OrCode Output
object_row row a m =
    if row == 5 then answering (sto_subfield m (pair_of a 0) (narrow_at a 2)) else
    if row == 6 then answering (sto_subarray m (pair_of a 0) (narrow_at a 2)) else
    if row == 7 then sto_emplace m (pair_of a 0) (pair_of a 2) (pair_of a 4) (narrow_at a 6) else
    if row == 8 then sto_erase m (pair_of a 0) (pair_of a 2) (narrow_at a 4) else
    answering (sto_validate m (pair_of a 0))

-- 10 to 21
unfoldable pub decimal_row : ℕ → List ℕ → OrCode ℤ
decimal_row row a =
    if row == 10 then float_one else
    if row == 11 then float_set (exponent_at a 0) (wide_at a 1) else
    if row == 12 then float_multiply (wide_at a 0) (wide_at a 1) else
    if row == 13 then float_mulratio (wide_at a 0) (narrow_at a 1) (narrow_at a 2) (narrow_at a 3) else
    if row == 14 then float_divide (wide_at a 0) (wide_at a 1) else
    if row == 15 then float_invert (wide_at a 0) else
    if row == 16 then float_sum (wide_at a 0) (wide_at a 1) else
    if row == 17 then float_negate (wide_at a 0) else
    if row == 18 then float_compare (wide_at a 0) (wide_at a 1) (narrow_at a 2) else
    if row == 19 then float_mantissa (wide_at a 0) else
    if row == 20 then float_sign (wide_at a 0) else
    float_int (wide_at a 0) (narrow_at a 1) (narrow_at a 2)

-- 22 and 23
unfoldable pub amount_row : ℕ → List ℕ → List ℕ → OrCode Output
amount_row row a m =
    if row == 22 then float_sto m (pair_of a 0) (pair_of a 2) (pair_of a 4) (wide_at a 6) (narrow_at a 7) else
    answering (float_sto_set m (pair_of a 0))

-- 24 to 26
unfoldable pub trace_row : ℕ → List ℕ → List ℕ → OrCode ℤ
trace_row row a m =
    if row == 24 then trace m (pair_of a 0) (pair_of a 2) else
    trace_number m (pair_of a 0)

-- 3 to 26
abbrev pub pure_output : ℕ → List ℕ → List ℕ → OrCode Output
pure_output row a m =
    if nat_lt row 5 then hash_row row a m else
    if nat_lt row 10 then object_row row a m else
    if nat_lt row 22 then answering (decimal_row row a) else
    if nat_lt row 24 then amount_row row a m else
    answering (trace_row row a m)

-- the answer and the memory after a call of these rows, or the code that refuses it
unfoldable pub pure_row : ℕ → List ℕ → List ℕ → OrCode (ℤ × List ℕ)
pure_row row a m = outcome a m (pure_output row a m)

-- the answer and the memory after a call of these rows
unfoldable pub pure_call : ℕ → List ℕ → List ℕ → ℤ × List ℕ
pure_call row a m = given m (pure_row row a m)
