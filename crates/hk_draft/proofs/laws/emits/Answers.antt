use Rattle.hk_draft.proofs.Waiting.{accepted_waits}
use Rattle.hk_draft.proofs.laws.emits.Goals as goal

pub returns : goal.returns
returns c = record { law = accepted_waits c.one_header.ensures.law }
