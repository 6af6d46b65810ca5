use Rattle.wa_encode.proofs.Shortest.{signed_shortest}
use Rattle.wa_encode.proofs.laws.signed_shortest.Goals as goal

pub returns : goal.returns
returns c = record { law = signed_shortest }
