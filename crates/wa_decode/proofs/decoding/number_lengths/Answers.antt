use Rattle.wa_decode.proofs.Soundness.{number_lengths}
use Rattle.wa_decode.proofs.decoding.number_lengths.Goals as goal

pub returns : goal.returns
returns c = record { law = number_lengths }
