use Rattle.std.specs.Prelude.{◌≡◌, take, sum_by}
use Rattle.hk_bound.proofs.entries.count_of.Given as goal

abbrev pub invariant-loop-run : goal.invariant-loop-run
invariant-loop-run l = l.count ≡ sum_by (λ run. run.0) (take l.run-index l.runs)
