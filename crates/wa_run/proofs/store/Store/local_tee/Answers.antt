use Rattle.std.proofs.Common.{refl}
use Rattle.wa_run.proofs.Plain.{local_tee_needs, local_tee_acts}
use Rattle.wa_run.proofs.store.Store.local_tee.Goals as goal

pub top-word-requires : goal.top-word-requires
top-word-requires g c = record { some = (local_tee_needs _ c.args.self.now c.args.local c.requires.meets).1 }

pub put-requires : goal.put-requires
put-requires g c = record { place = (local_tee_needs _ c.args.self.now c.args.local c.requires.meets).0 }

pub returns-clause-acts : goal.returns-clause-acts
returns-clause-acts g c =
    local_tee_acts c.args.local c.args.self.now (record c.args.self.now { locals = c.put.new.variables })
    c.top-word.result c.top-word.ensures.top refl c.put.ensures.items refl refl
