use Rattle.hk_draft.proofs.Drafting.{write_draft}
use Rattle.hk_draft.proofs.laws.writing.Goals as goal

pub returns : goal.returns
returns c = record { law = write_draft }
