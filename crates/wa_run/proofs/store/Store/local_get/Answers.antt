use Rattle.std.proofs.Common.{◌<◌, length, rules, refl}
use Rattle.std.proofs.lemmas.List.{get_or_read}
use Rattle.wa_run.proofs.Plain.{local_get_needs, local_get_acts}
use Rattle.wa_run.proofs.store.Store.local_get.Goals as goal

pub index-requires : goal.index-requires
index-requires g c =
    let within : c.args.local < length c.args.self.now.locals.items =
    local_get_needs _ c.args.self.now c.args.local c.requires.meets in
    search rules

pub returns-clause-acts : goal.returns-clause-acts
returns-clause-acts g c =
    local_get_acts c.args.local c.args.self.now (record c.args.self.now { words = c.push.new.self }) c.index.result.now
    (get_or_read c.args.self.now.locals.items c.args.local c.index.result.now
    (local_get_needs _ c.args.self.now c.args.local c.requires.meets) c.index.ensures 0) c.push.ensures.items
    (record { locals = refl; globals = refl; memory = refl })
