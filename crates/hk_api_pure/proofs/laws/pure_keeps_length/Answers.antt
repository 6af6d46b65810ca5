use Rattle.hk_api_pure.proofs.Lengths as lengths
use Rattle.hk_api_pure.proofs.laws.pure_keeps_length.Goals as goal

pub returns : goal.returns
returns c = record { law = lengths.pure_keeps_length }
