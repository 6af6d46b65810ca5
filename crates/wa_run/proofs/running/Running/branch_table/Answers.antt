use Rattle.std.proofs.Common.{refl}
use Rattle.wa_run.proofs.Branching.{br_table_needs, br_table_can, br_table_branches}
use Rattle.wa_run.proofs.running.Running.branch_table.Goals as goal

pub pop-index-requires : goal.pop-index-requires
pop-index-requires g c = record {
  some = br_table_needs _ c.args.labels.now c.args.last c.args.self.now c.requires.meets;
}

pub branch-self-requires-clause-branches : goal.branch-self-requires-clause-branches
branch-self-requires-clause-branches g c =
    br_table_can _ c.args.labels.now c.args.last c.label_of.result c.pop-index.result c.args.self.now
    (record c.args.self.now { store = record c.args.self.now.store { words = c.pop-index.new.self } })
    (record {
      words = c.pop-index.ensures.items;
      keeps = record { locals = refl; globals = refl; memory = refl };
      labels = refl;
      guards = refl;
    }) c.label_of.ensures.label c.requires.meets

pub returns-clause-turns : goal.returns-clause-turns
returns-clause-turns g c =
    λ entry.
    br_table_branches c.args.labels.now c.args.last c.label_of.result entry c.pop-index.result c.args.self.now
    (record c.args.self.now { store = record c.args.self.now.store { words = c.pop-index.new.self } })
    c.branch-self.result c.branch-self.new.self
    (record {
      words = c.pop-index.ensures.items;
      keeps = record { locals = refl; globals = refl; memory = refl };
      labels = refl;
      guards = refl;
    }) c.label_of.ensures.label c.branch-self.ensures.branches
