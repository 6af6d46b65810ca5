use Rattle.std.proofs.Common.{◌≡◌, ◌≤◌, length}
use Rattle.hk_asm.specs.Assembling.{whole_lines}
use Rattle.hk_asm.proofs.answer.whole_lines.Given as goal

abbrev pub invariant-loop-rest : goal.invariant-loop-rest
invariant-loop-rest l = (whole_lines l.rest ≡ whole_lines l.text) × (length l.rest ≤ length l.text)

abbrev pub decreases-loop-rest : goal.decreases-loop-rest
decreases-loop-rest l = length l.rest
