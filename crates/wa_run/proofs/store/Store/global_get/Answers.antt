use Rattle.std.proofs.Common.{◌<◌, length, rules, refl}
use Rattle.std.proofs.lemmas.List.{get_or_read}
use Rattle.wa_run.proofs.Plain.{global_get_needs, global_get_acts}
use Rattle.wa_run.proofs.store.Store.global_get.Goals as goal

pub index-requires : goal.index-requires
index-requires g c =
    let within : c.args.global < length c.args.self.now.globals.items =
    global_get_needs _ c.args.self.now c.args.global c.requires.meets in
    search rules

pub returns-clause-acts : goal.returns-clause-acts
returns-clause-acts g c =
    global_get_acts c.args.global c.args.self.now (record c.args.self.now { words = c.push.new.self })
    c.index.result.now
    (get_or_read c.args.self.now.globals.items c.args.global c.index.result.now
    (global_get_needs _ c.args.self.now c.args.global c.requires.meets) c.index.ensures 0) c.push.ensures.items
    (record { locals = refl; globals = refl; memory = refl })
