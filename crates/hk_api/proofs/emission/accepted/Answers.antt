use Rattle.hk_api.proofs.Hookless.{no_hooks}
use Rattle.hk_api.proofs.emission.accepted.Goals as goal

pub returns-in-Ok-clause-hooks : goal.returns-in-Ok-clause-hooks
returns-in-Ok-clause-hooks c =
    no_hooks c.args.blob.now c.args.context.now c.args.nonces.now c.in-Ok.emission
    (c.accepted_reads.ensures.law _ _ _ _ c.in-Ok.ensures.accepted)
