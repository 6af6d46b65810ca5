use Rattle.xo_told.proofs.Telling.{tells_fields}
use Rattle.xo_told.proofs.laws.told_shows.Goals as goal

pub returns : goal.returns
returns c = record { law = tells_fields }
