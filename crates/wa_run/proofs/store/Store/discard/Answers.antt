use Rattle.std.proofs.Common.{refl}
use Rattle.wa_run.proofs.Plain.{discard_needs, discard_acts}
use Rattle.wa_run.proofs.store.Store.discard.Goals as goal

pub pop-requires : goal.pop-requires
pop-requires g c = record { some = discard_needs _ c.args.self.now c.requires.meets }

pub returns-clause-acts : goal.returns-clause-acts
returns-clause-acts g c =
    discard_acts c.args.self.now (record c.args.self.now { words = c.pop.new.self }) c.pop.result c.pop.ensures.items
    (record { locals = refl; globals = refl; memory = refl })
