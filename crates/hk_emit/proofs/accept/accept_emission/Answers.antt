use Rattle.hk_emit.proofs.Judging.{accepts}
use Rattle.hk_emit.proofs.accept.accept_emission.Goals as goal

pub returns-clause-accepted : goal.returns-clause-accepted
returns-clause-accepted c =
    accepts c.args.blob.now c.args.context.now c.args.nonces.now c.judge.result c.judge.ensures.judged
