use Rattle.std.proofs.Common.{subst}
use Rattle.xo_list.specs.Span.{items}
use Rattle.hk_emit.specs.Accept.{JudgesFields}
use Rattle.hk_emit.proofs.Judging.{whole_judged}
use Rattle.hk_emit.proofs.accept.judge.Goals as goal

pub returns : goal.returns
returns c = record {
  judged =
      whole_judged c.args.blob.now c.args.context.now c.args.nonces.now (items c.in_ok-object.object)
      (c.is_too_long.ensures.short c.if-is_too_long.false) c.in_ok-object.ensures.ok c.emission_in.result
      (subst
      (λ b. JudgesFields (items c.in_ok-object.object) b c.args.context.now c.args.nonces.now c.emission_in.result)
      c.in_ok-object.ensures.same c.emission_in.ensures.judged);
}
