use Rattle.std.proofs.Common.{◌+◌, refl}
use Rattle.wa_run.proofs.Following.{plain_follows, trap_follows}
use Rattle.wa_run.proofs.Turning.{plain_stands, plain_meets}
use Rattle.wa_run.proofs.running.Running.plain.Goals as goal

pub act-requires-clause-meets : goal.act-requires-clause-meets
act-requires-clause-meets g c = plain_meets _ c.args.op.now c.args.self.now c.requires.plain c.requires.meets

pub returns-in-Some-clause-turns : goal.returns-in-Some-clause-turns
returns-in-Some-clause-turns g c = λ entry.
    trap_follows c.args.op.now entry c.in-Some.cause c.args.self.now (record c.args.self.now { store = c.act.new.self })
    (plain_stands c.args.op.now c.requires.plain) c.in-Some.ensures.acts

pub returns-in-None-clause-turns : goal.returns-in-None-clause-turns
returns-in-None-clause-turns g c = λ entry.
    plain_follows c.args.op.now entry c.args.self.now
    (record c.args.self.now { at = c.args.self.now.at + 1; store = c.act.new.self })
    (plain_stands c.args.op.now c.requires.plain) c.in-None.ensures.acts refl refl refl
