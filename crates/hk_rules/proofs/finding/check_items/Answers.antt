use Rattle.hk_rules.proofs.finding.check_items.Goals as goal

pub returns : goal.returns
returns g c = record { rule = rw c.as_slice.ensures.items at c.judge_items.ensures.rule }
