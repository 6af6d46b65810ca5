use Rattle.std.proofs.Common.{◌+◌, sym, subst}
use Rattle.wa_ops.specs.Sequences.{Reads}
use Rattle.wa_ops.specs.Soundness.{IsSoundBody}
use Rattle.wa_ops.proofs.Places.{each_at}
use Rattle.hk_rules.proofs.Looping.{Gathered, gathered_next}
use Rattle.hk_rules.proofs.loops.functions_of.Goals as goal

pub loop-code-preserved : goal.loop-code-preserved
loop-code-preserved c =
    subst (Gathered c.args.codes.now (c.loop-code.code-index + 1)) (sym c.in_ok-push.ensures.pushed)
    (gathered_next c.args.codes.now c.loop-code.code-index c.code-item.result c.in_ok-function_guards.field-0
    c.loop-code.functions
    c.loop-code-test.true c.code-item.is
    (each_at IsSoundBody c.args.codes.now c.loop-code.code-index c.code-item.result c.loop-code-test.true c.code-item.is
    c.requires.sound.each).ops.nested
    (λ body reads.
    c.in_ok-function_guards.ensures.loops body (subst (λ ops. Reads ops body) (sym c.as_slice.ensures.items) reads))
    c.loop-code.invariant)
