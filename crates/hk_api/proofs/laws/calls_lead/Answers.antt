use Rattle.hk_api.proofs.Leading as leading
use Rattle.hk_api.specs.Ends.{answers_length}
use Rattle.hk_api.proofs.laws.calls_lead.Goals as goal

pub returns : goal.returns
returns c = record { law = leading.calls_lead c.one_header.ensures.law; length = answers_length }
