use Rattle.hk_calls.proofs.Lengths as lengths
use Rattle.hk_calls.proofs.laws.length_stays.Goals as goal

pub returns : goal.returns
returns c = record { law = lengths.length_stays }
