use Rattle.wa_encode.proofs.ModuleSpelled.{encoded_spells}
use Rattle.wa_encode.proofs.laws.encoded_spells.Goals as goal

pub returns : goal.returns
returns c = record { law = encoded_spells }
