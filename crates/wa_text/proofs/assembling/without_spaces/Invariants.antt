use Rattle.std.proofs.Common.{◌≡◌, length}
use Rattle.wa_text.specs.Lines.{without_spaces}
use Rattle.wa_text.proofs.assembling.without_spaces.Given as goal

abbrev pub invariant-loop-rest : goal.invariant-loop-rest
invariant-loop-rest l = without_spaces l.rest ≡ without_spaces l.line

abbrev pub decreases-loop-rest : goal.decreases-loop-rest
decreases-loop-rest l = length l.rest
