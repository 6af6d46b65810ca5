use Rattle.xo_list.proofs.ListLemmas.{room_more}
use Rattle.xo_list.proofs.laws.more_room.Goals as goal

pub returns : goal.returns
returns c = record { law = room_more }
