use Rattle.std.proofs.Common.{◌+◌, refl}
use Rattle.wa_run.proofs.Following.{loop_follows}
use Rattle.wa_run.proofs.running.Running.loop_.Goals as goal

pub returns-clause-turns : goal.returns-clause-turns
returns-clause-turns g c =
    loop_follows c.args.carried c.args.last _ c.args.self.now
    (record c.args.self.now { at = c.args.self.now.at + 1; labels = c.open.new.self }) refl refl
    c.carries.ensures.carries c.len.ensures.length
    (record { at = refl; labels = c.open.ensures.items; guards = refl; store = refl })
