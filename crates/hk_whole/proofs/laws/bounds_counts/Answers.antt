use Rattle.hk_whole.proofs.Counting.{bounds_counts}
use Rattle.hk_whole.proofs.laws.bounds_counts.Goals as goal

pub returns : goal.returns
returns g c =
    let rules = g.T.Transactor.rules in
    let laws = g.met.T.Transactor in
    record {
      law =
          bounds_counts rules
          (c.engines_lawful.ensures.law rules laws.keeps_sum laws.keeps_others laws.keeps_accounts)
          (c.engines_careful.ensures.law rules) c.stores_bounds.ensures.complete c.lines_bounded.ensures.chain
          c.lines_bounded.ensures.callback;
    }
