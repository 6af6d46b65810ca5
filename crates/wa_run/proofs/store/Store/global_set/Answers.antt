use Rattle.std.proofs.Common.{refl}
use Rattle.wa_run.proofs.Plain.{global_set_needs, global_set_acts}
use Rattle.wa_run.proofs.store.Store.global_set.Goals as goal

pub pop-word-requires : goal.pop-word-requires
pop-word-requires g c = record { some = (global_set_needs _ c.args.self.now c.args.global c.requires.meets).1 }

pub put-requires : goal.put-requires
put-requires g c = record { place = (global_set_needs _ c.args.self.now c.args.global c.requires.meets).0 }

pub returns-clause-acts : goal.returns-clause-acts
returns-clause-acts g c =
    global_set_acts c.args.global c.args.self.now
    (record c.args.self.now { words = c.pop-word.new.self; globals = c.put.new.variables }) c.pop-word.result
    c.pop-word.ensures.items c.put.ensures.items refl refl
