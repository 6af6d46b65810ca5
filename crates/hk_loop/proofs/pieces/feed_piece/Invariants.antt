use Rattle.std.proofs.Common.{◌+◌, ◌≤◌, length}
use Rattle.hk_lines.specs.Cutting.{IsUnfinished}
use Rattle.hk_loop.proofs.Feeding.{Leads}
use Rattle.hk_loop.proofs.pieces.feed_piece.Given as goal

-- what was to come is what was printed and what is to come
abbrev pub invariant-loop-rest : goal.invariant-loop-rest
invariant-loop-rest g l = record {
  leads : Leads g.C.Command.turn l.initial.command l.initial.number l.initial.cutter l.initial.out.items l.piece
      l.command l.number l.cutter l.out.items l.rest;
  unfinished : IsUnfinished l.cutter;
  number : l.number + length l.rest ≤ l.initial.number + length l.piece;
}

abbrev pub decreases-loop-rest : goal.decreases-loop-rest
decreases-loop-rest g l = length l.rest
