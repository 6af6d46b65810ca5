use Rattle.std.proofs.Common.{refl}
use Rattle.wa_run.proofs.Plain.{local_set_needs, local_set_acts}
use Rattle.wa_run.proofs.store.Store.local_set.Goals as goal

pub pop-word-requires : goal.pop-word-requires
pop-word-requires g c = record { some = (local_set_needs _ c.args.self.now c.args.local c.requires.meets).1 }

pub put-requires : goal.put-requires
put-requires g c = record { place = (local_set_needs _ c.args.self.now c.args.local c.requires.meets).0 }

pub returns-clause-acts : goal.returns-clause-acts
returns-clause-acts g c =
    local_set_acts c.args.local c.args.self.now
    (record c.args.self.now { words = c.pop-word.new.self; locals = c.put.new.variables }) c.pop-word.result
    c.pop-word.ensures.items c.put.ensures.items refl refl
