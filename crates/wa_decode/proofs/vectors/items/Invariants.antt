use Rattle.std.proofs.Common.{◌≡◌, ◌-◌}
use Rattle.wa_decode.specs.Reading.{items_at}
use Rattle.wa_decode.proofs.Loops.{with_front}
use Rattle.wa_decode.proofs.vectors.items.Given as goal

abbrev pub invariant-loop : goal.invariant-loop
invariant-loop g l =
    with_front l.items (items_at g.R.Spelled.at (l.count - l.counter) l.rest) ≡ items_at g.R.Spelled.at l.count l.bytes
