-- Bytes that are gathered in steps.
use Rattle.std.proofs.Common.{◌≤◌, ◌+◌, ◌++◌, ℕ, List, length, length-append, Option, arith}
use Rattle.std.specs.Io.KnownBytes.{Consumes}
use Rattle.hk_lines.specs.declared.status.Status.{Status}
use Rattle.hk_loop.specs.Gathered.{Halted}
use Rattle.hk_loop.proofs.Moves.{takes_more}

-- some bytes were taken, and then it was halted
pub halted_later : (limit room : ℕ) (bytes : List ℕ) (status : Status) (a b c : Option (List ℕ)) → Consumes a b bytes →
    length bytes + room ≤ limit → Halted room status b c → Halted limit status a c
halted_later limit room bytes status a b c first few h = record {
  taken = bytes ++ h.taken;
  consumed = takes_more a b c bytes h.taken first h.consumed;
  few = omega (arith, length-append bytes h.taken, h.few, few);
  why = h.why;
}
