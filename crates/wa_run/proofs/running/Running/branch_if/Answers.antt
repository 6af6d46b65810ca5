use Rattle.std.proofs.Common.{◌+◌, refl, arith}
use Rattle.wa_run.proofs.Branching.{br_if_needs, br_if_can, br_if_branches, br_if_skips}
use Rattle.wa_run.proofs.running.Running.branch_if.Goals as goal

pub pop-condition-requires : goal.pop-condition-requires
pop-condition-requires g c = record { some = br_if_needs _ c.args.label c.args.self.now c.requires.meets }

pub returns-then-condition-eq0-clause-turns : goal.returns-then-condition-eq0-clause-turns
returns-then-condition-eq0-clause-turns g c =
    λ entry.
    br_if_skips c.args.label entry c.pop-condition.result c.args.self.now (record c.args.self.now {
      at = c.args.self.now.at + 1;
      store = record c.args.self.now.store { words = c.pop-condition.new.self };
    })
    (record {
      words = c.pop-condition.ensures.items;
      keeps = record { locals = refl; globals = refl; memory = refl };
      labels = refl;
      guards = refl;
    }) (omega arith) refl

pub branch-self-requires-clause-branches : goal.branch-self-requires-clause-branches
branch-self-requires-clause-branches g c =
    br_if_can _ c.args.label c.pop-condition.result c.args.self.now
    (record c.args.self.now { store = record c.args.self.now.store { words = c.pop-condition.new.self } })
    (record {
      words = c.pop-condition.ensures.items;
      keeps = record { locals = refl; globals = refl; memory = refl };
      labels = refl;
      guards = refl;
    }) (omega arith) c.requires.meets

pub returns-clause-turns : goal.returns-clause-turns
returns-clause-turns g c =
    λ entry.
    br_if_branches c.args.label entry c.pop-condition.result c.args.self.now
    (record c.args.self.now { store = record c.args.self.now.store { words = c.pop-condition.new.self } })
    c.branch-self.result c.branch-self.new.self
    (record {
      words = c.pop-condition.ensures.items;
      keeps = record { locals = refl; globals = refl; memory = refl };
      labels = refl;
      guards = refl;
    }) (omega arith) c.branch-self.ensures.branches
