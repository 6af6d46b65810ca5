use Rattle.std.proofs.Common.{◌/◌, ap, refl}
use Rattle.wa_run.proofs.Plain.{memory_size_acts}
use Rattle.wa_run.proofs.store.Store.memory_size.Goals as goal

pub returns-clause-acts : goal.returns-clause-acts
returns-clause-acts g c =
    memory_size_acts c.args.self.now (record c.args.self.now { words = c.push.new.self }) _
    (ap (λ n. n / 65536) c.len.ensures.length) c.push.ensures.items
    (record { locals = refl; globals = refl; memory = refl })
