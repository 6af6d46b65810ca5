use Rattle.std.proofs.Common.{◌≡◌, ◌∙◌, [], ap, refl, Some}
use Rattle.std.proofs.lemmas.Result.{err_from_is_err_and}
use Rattle.wa_decode.specs.CodeReading.{opened}
use Rattle.wa_decode.proofs.Loops.{no_op, misplaced, goes_on, ends, op_shorter}
use Rattle.wa_decode.proofs.codes.expression.Goals as goal

pub returns-in_err-op : goal.returns-in_err-op
returns-in_err-op c =
    let p = err_from_is_err_and c.from_residual-in_err-op.result c.from_residual-in_err-op.ensures.1 in
    rw (p.1, p.2) (no_op c.in_err-op.field-0.0 c.args.bytes.now c.loop-around.ops c.loop-around.around
    c.loop-around.rest.now c.loop-around.invariant c.in_err-op.ensures)

pub returns-in_err-pass : goal.returns-in_err-pass
returns-in_err-pass c =
    let p = err_from_is_err_and c.from_residual-in_err-pass.result c.from_residual-in_err-pass.ensures.1 in
    rw (p.1, p.2) (misplaced c.in_err-pass.field-0.0 c.args.bytes.now c.loop-around.ops c.loop-around.around
    c.loop-around.rest.now c.in_ok-op.op c.in_ok-op.after.now c.loop-around.invariant c.in_ok-op.ensures
    c.in_err-pass.ensures.passed)

pub returns-then-is_empty : goal.returns-then-is_empty
returns-then-is_empty c =
    let e : c.pass.new.around ≡ [] = c.if-is_empty.ensures.empty.0 refl in
    let now : opened c.in_ok-op.op c.loop-around.around ≡ Some [] = c.in_ok-pass.ensures.passed ∙ ap Some e in
    rw c.in_ok-push.ensures.pushed (ends c.args.bytes.now c.loop-around.ops c.loop-around.around c.loop-around.rest.now
    c.in_ok-op.op c.in_ok-op.after.now c.loop-around.invariant c.in_ok-op.ensures now)

pub loop-around-smaller : goal.loop-around-smaller
loop-around-smaller c = op_shorter c.loop-around.rest.now c.in_ok-op.op c.in_ok-op.after.now c.in_ok-op.ensures

pub loop-around-preserved : goal.loop-around-preserved
loop-around-preserved c =
    rw c.in_ok-push.ensures.pushed (goes_on c.args.bytes.now c.loop-around.ops c.loop-around.around
    c.loop-around.rest.now c.in_ok-op.op c.in_ok-op.after.now c.pass.new.around c.loop-around.invariant
    c.in_ok-op.ensures c.in_ok-pass.ensures.passed
    (λ e. absurd (cc (c.if-is_empty.ensures.empty.1 e))))
