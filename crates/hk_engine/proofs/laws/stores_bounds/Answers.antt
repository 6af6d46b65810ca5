use Rattle.hk_engine.proofs.Stored.{complete_stores, stored_fees, needed_fees}
use Rattle.hk_engine.proofs.laws.stores_bounds.Goals as goal

pub returns : goal.returns
returns c = record {
  complete = complete_stores c.accepted_is_hook.ensures.law;
  fees = stored_fees;
  needed = needed_fees c.codes_fit.ensures.law;
}
