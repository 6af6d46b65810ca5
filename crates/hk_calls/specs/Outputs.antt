-- What a row gives in the end, and what that does to the memory (this project's own, after the XRPL Hooks).
-- So all bytes are read before any is written, the write length is tested last, and a refusal changes nothing.
use Rattle.std.specs.Prelude.{ℕ, ◌-◌, ◌^◌, ◌==◌, ◌&&◌, nat_lt, ℤ, pos, List, ◌++◌, length, replicate, Ok, Err}
use Rattle.std.specs.Prelude.{if◌then◌else◌}
use Rattle.std.specs.Int.{w64, from_be_bytes}
use Rattle.wa_num.specs.Memory.{written}
use Rattle.hk_calls.specs.declared.arguments.Pair.{Pair}
use Rattle.hk_calls.specs.declared.code.Code.TheVariants as code
use Rattle.hk_calls.specs.Arguments.{pair_of}
use Rattle.hk_calls.specs.Codes.{number_of}
use Rattle.hk_calls.specs.Rules.{OrCode, ◌>>=◌}

-- a number; bytes for the write pointer; or bytes for the write pointer, or as a number where pointer and length are 0
pub data Output : Type 0 where
  answers : ℤ → Output
  writes : List ℕ → Output
  writes_or_number : List ℕ → Output

-- a row that gives a number
abbrev pub answering : OrCode ℤ → OrCode Output
answering row = row >>= λ n. Ok (answers n)

-- bytes as a number, the first the highest
abbrev pub number_of_bytes : List ℕ → ℕ
number_of_bytes bytes = from_be_bytes w64 (replicate (8 - length bytes) 0 ++ bytes)

-- bytes as a signed number of 64 bits
abbrev pub signed_number : List ℕ → OrCode ℤ
signed_number bytes =
    if nat_lt 8 (length bytes) then Err code.TooBig else
    if nat_lt (2 ^ 63 - 1) (number_of_bytes bytes) then Err code.TooBig else Ok (pos (number_of_bytes bytes))

-- the answer and the memory after bytes were written at the write pointer
abbrev pub write_out : List ℕ → Pair → List ℕ → OrCode (ℤ × List ℕ)
write_out m write bytes =
    if nat_lt write.count (length bytes) then Err code.TooSmall else Ok (pos (length bytes), written m write.at bytes)

-- the same, or the bytes as a number
abbrev pub write_or_number : List ℕ → Pair → List ℕ → OrCode (ℤ × List ℕ)
write_or_number m write bytes =
    if write.at == 0 && write.count == 0 then (signed_number bytes >>= λ n. Ok (n, m)) else write_out m write bytes

-- the answer and the memory after an output
abbrev pub put : List ℕ → Pair → Output → OrCode (ℤ × List ℕ)
put m write (answers n) = Ok (n, m)
put m write (writes bytes) = write_out m write bytes
put m write (writes_or_number bytes) = write_or_number m write bytes

-- the answer and the memory after a row
abbrev pub settled : List ℕ → Pair → OrCode Output → OrCode (ℤ × List ℕ)
settled m write row = row >>= λ output. put m write output

-- the same by the call's arguments: the write pointer and its length are always the first two
abbrev pub outcome : List ℕ → List ℕ → OrCode Output → OrCode (ℤ × List ℕ)
outcome arguments m row = settled m (pair_of arguments 0) row

-- the answer and the memory after a call: a code stands as its number, and changes nothing
abbrev pub given : List ℕ → OrCode (ℤ × List ℕ) → ℤ × List ℕ
given m (Ok after) = after
given m (Err refused) = (number_of refused, m)
