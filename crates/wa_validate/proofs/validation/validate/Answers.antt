use Rattle.std.proofs.Common.{◌≡◌, ◌+◌, Some, length, slice_get, sym, ap, subst, arith}
use Rattle.wa_ops.specs.Contexts.{context_of}
use Rattle.wa_validate.specs.declared.body.Verdict.TheVariants.{Typed, Untyped}
use Rattle.wa_validate.proofs.Judging.{IsVerdict, Judged, code_at, verdict_at, fault_is, judged_more, judged_fails}
use Rattle.wa_validate.proofs.Judging.{all_typed, all_deep}
use Rattle.wa_validate.proofs.validation.validate.Goals as goal

pub returns-in-Untyped-clause-untyped : goal.returns-in-Untyped-clause-untyped
returns-in-Untyped-clause-untyped c = λ func op e.
    let here : slice_get c.args.module.now.codes c.loop-function.function ≡ Some c.code-item.result =
    code_at c.args.module.now c.as_slice-code-items.result.now c.loop-function.function c.code-item.result
    c.as_slice-code-items.ensures.items c.loop-function-test.true c.code-item.is in
    fault_is c.args.module.now c.loop-function.function c.in-Untyped.op func op e
    (judged_fails c.args.module.now c.loop-function.function c.in-Untyped.op c.code-item.result c.loop-function.depths
    here (c.requires.bodies c.loop-function.function c.code-item.result here).nested
    (verdict_at c.in_ok-scope.scope (context_of c.args.module.now c.loop-function.function) c.as_slice.result.now
    c.code-item.result.ops c.in_ok-depth.field-0 (Untyped c.in-Untyped.op)
    c.in_ok-scope.ensures.context c.as_slice.ensures.items c.in-Untyped.is c.in_ok-depth.ensures.verdict)
    c.loop-function.invariant)

pub loop-function-preserved : goal.loop-function-preserved
loop-function-preserved c =
    subst (Judged c.args.module.now (c.loop-function.function + 1)) (sym c.in_ok-push-in-Typed.ensures.pushed)
    (judged_more c.args.module.now c.loop-function.function c.code-item.result c.in-Typed.depth c.loop-function.depths
    (code_at c.args.module.now c.as_slice-code-items.result.now c.loop-function.function c.code-item.result
    c.as_slice-code-items.ensures.items c.loop-function-test.true c.code-item.is)
    (verdict_at c.in_ok-scope.scope (context_of c.args.module.now c.loop-function.function) c.as_slice.result.now
    c.code-item.result.ops c.in_ok-depth.field-0 (Typed c.in-Typed.depth)
    c.in_ok-scope.ensures.context c.as_slice.ensures.items c.in-Typed.is c.in_ok-depth.ensures.verdict)
    c.loop-function.invariant)

pub returns-clause-typed : goal.returns-clause-typed
returns-clause-typed c =
    let all : c.loop-function.function ≡ length c.args.module.now.codes =
    omega (
      arith,
      ap length c.as_slice-code-items.ensures.items,
      c.loop-function-test.false,
      c.loop-function.auto.function-end,
    ) in
    all_typed c.args.module.now c.loop-function.function c.loop-function.depths all c.loop-function.invariant

pub returns-clause-depths : goal.returns-clause-depths
returns-clause-depths c =
    let all : c.loop-function.function ≡ length c.args.module.now.codes =
    omega (
      arith,
      ap length c.as_slice-code-items.ensures.items,
      c.loop-function-test.false,
      c.loop-function.auto.function-end,
    ) in
    all_deep c.args.module.now c.loop-function.function c.loop-function.depths all c.loop-function.invariant
