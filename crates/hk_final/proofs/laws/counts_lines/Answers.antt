use Rattle.hk_final.proofs.Counted.{counts_hooks, counts_states}
use Rattle.hk_final.proofs.laws.counts_lines.Goals as goal

pub returns : goal.returns
returns c = record { hooks = counts_hooks; states = counts_states }
