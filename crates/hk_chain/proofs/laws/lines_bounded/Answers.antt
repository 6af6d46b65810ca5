use Rattle.hk_chain.proofs.Counting.{callbacks_bounded, chains_bounded}
use Rattle.hk_chain.proofs.laws.lines_bounded.Goals as goal

pub returns : goal.returns
returns c = record {
  chain = chains_bounded c.codes_run.ensures.law;
  callback = callbacks_bounded c.codes_run.ensures.law;
}
