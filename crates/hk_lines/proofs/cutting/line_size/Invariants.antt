use Rattle.std.proofs.Common.{◌≡◌, take}
use Rattle.hk_lines.specs.Cut.{cut, behind}
use Rattle.hk_lines.proofs.cutting.line_size.Given as goal

-- the bytes so far have no line feed
abbrev pub invariant-loop-at : goal.invariant-loop-at
invariant-loop-at l = cut (take l.at l.piece) ≡ behind (take l.at l.piece)
