use Rattle.wa_encode.proofs.Shortest.{unsigned_shortest}
use Rattle.wa_encode.proofs.laws.unsigned_shortest.Goals as goal

pub returns : goal.returns
returns c = record { law = unsigned_shortest }
