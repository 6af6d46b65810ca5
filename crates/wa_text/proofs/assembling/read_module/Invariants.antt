use Rattle.std.proofs.Common.{length}
use Rattle.wa_text.proofs.Folding.{Folds}
use Rattle.wa_text.proofs.assembling.read_module.Given as goal

abbrev pub invariant-loop-line : goal.invariant-loop-line
invariant-loop-line l = Folds l.text l.draft l.number l.rest

abbrev pub decreases-loop-line : goal.decreases-loop-line
decreases-loop-line l = length l.rest
