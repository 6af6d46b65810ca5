use Rattle.std.proofs.Common.{ap}
use Rattle.wa_run.specs.Room.{Labels}
use Rattle.wa_run.proofs.Reversed.{unwound}
use Rattle.wa_run.proofs.labels.Labels.unwind.Goals as goal

pub returns-clause-items : goal.returns-clause-items
returns-clause-items c =
    unwound c.self.inside.labels.items c.args.self.now.items c.self.inside.depth c.args.count
    (ap (λ (l : Labels). l.items) c.self.view_is) c.self.invariant c.requires.some
