use Rattle.hk_bound.proofs.Ruled.{entry_types}
use Rattle.hk_bound.proofs.laws.entry_types.Goals as goal

pub returns : goal.returns
returns c = record { law = entry_types }
