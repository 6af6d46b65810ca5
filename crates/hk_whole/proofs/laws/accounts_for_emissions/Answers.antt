use Rattle.hk_whole.proofs.Accounting.{accounts_for}
use Rattle.hk_whole.proofs.laws.accounts_for_emissions.Goals as goal

pub returns : goal.returns
returns g c =
    let rules = g.T.Transactor.rules in
    let laws = g.met.T.Transactor in
    record {
      law =
          accounts_for rules
          (c.engines_lawful.ensures.law rules laws.keeps_sum laws.keeps_others laws.keeps_accounts)
          c.queue_told.ensures.law;
    }
