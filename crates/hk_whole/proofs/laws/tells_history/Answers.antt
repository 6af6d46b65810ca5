use Rattle.hk_whole.proofs.Recounting.{tells_history}
use Rattle.hk_whole.proofs.laws.tells_history.Goals as goal

pub returns : goal.returns
returns g c =
    let rules = g.T.Transactor.rules in
    let laws = g.met.T.Transactor in
    record {
      law =
          tells_history rules
          (c.engines_lawful.ensures.law rules laws.keeps_sum laws.keeps_others laws.keeps_accounts);
    }
