use Rattle.hk_ledger.proofs.Conserving.{conserved}
use Rattle.hk_ledger.proofs.laws.conserves.Goals as goal

pub returns : goal.returns
returns g c =
    let rules = g.T.Transactor.rules in
    let laws = g.met.T.Transactor in
    let lawful = c.engines_lawful.ensures.law rules laws.keeps_sum laws.keeps_others laws.keeps_accounts in
    record { law = conserved rules lawful }
