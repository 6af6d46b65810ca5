use Rattle.xo_showing.proofs.Fields.{put_shows}
use Rattle.xo_showing.proofs.laws.put_shows.Goals as goal

pub returns : goal.returns
returns c = record { law = put_shows }
