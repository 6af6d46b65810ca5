use Rattle.hk_events.proofs.Emptying.{emptied_law}
use Rattle.hk_events.proofs.laws.namespaces_emptied.Goals as goal

pub returns : goal.returns
returns c = record { law = emptied_law }
