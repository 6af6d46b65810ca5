use Rattle.hk_chain.specs.Calls.{hook_answers_length}
use Rattle.hk_chain.proofs.laws.calls_keep_length.Goals as goal

pub returns : goal.returns
returns c = record { law = hook_answers_length }
