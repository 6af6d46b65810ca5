-- A call keeps the memory's length.
use Rattle.std.specs.Prelude.{ℤ, pos}
use Rattle.std.proofs.Common.{◌≡◌, ℕ, ◌==◌, ◌&&◌, Bool, true, false, List, length, refl, Ok, Err, if◌then◌else◌, nat_lt}
use Rattle.wa_num.specs.Memory.{written}
use Rattle.wa_num.proofs.Lengths.{length-written}
use Rattle.hk_calls.specs.declared.arguments.Pair.{Pair}
use Rattle.hk_calls.specs.declared.code.Code.TheVariants as code
use Rattle.hk_calls.specs.Arguments.{pair_of}
use Rattle.hk_calls.specs.Laws.{LengthStays}
use Rattle.hk_calls.specs.Outputs.{Output, answers, writes, writes_or_number, signed_number, write_out, put, given}
use Rattle.hk_calls.specs.Rules.{OrCode, ◌>>=◌}

-- the memory of what is given is as long as this one
abbrev Stays : List ℕ → OrCode (ℤ × List ℕ) → Type 0
Stays m after = length (given m after).1 ≡ length m

out_stays : (m : List ℕ) (write : Pair) (bytes : List ℕ) → Stays m (write_out m write bytes)
out_stays m write bytes = by_test (nat_lt write.count (length bytes))
  where
    by_test : (b : Bool) → Stays m (if b then Err code.TooSmall else Ok (pos (length bytes), written m write.at bytes))
    by_test true = refl
    by_test false = length-written m write.at bytes

number_stays : (m : List ℕ) (number : OrCode ℤ) → Stays m (number >>= λ n. Ok (n, m))
number_stays m (Ok n) = refl
number_stays m (Err refused) = refl

put_stays : (m : List ℕ) (write : Pair) (output : Output) → Stays m (put m write output)
put_stays m write (answers n) = refl
put_stays m write (writes bytes) = out_stays m write bytes
put_stays m write (writes_or_number bytes) = by_test (write.at == 0 && write.count == 0)
  where
    by_test : (b : Bool) → Stays m (if b then (signed_number bytes >>= λ n. Ok (n, m)) else write_out m write bytes)
    by_test true = number_stays m (signed_number bytes)
    by_test false = out_stays m write bytes

pub length_stays : LengthStays
length_stays arguments m (Err refused) = refl
length_stays arguments m (Ok output) = put_stays m (pair_of arguments 0) output
