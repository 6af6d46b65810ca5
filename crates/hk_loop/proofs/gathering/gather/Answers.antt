use Rattle.std.proofs.Common.{◌-◌, arith}
use Rattle.std.proofs.lemmas.Result.{err_from_is_err_and}
use Rattle.hk_loop.proofs.Gathers.{halted_later}
use Rattle.hk_loop.proofs.gathering.gather.Goals as goal

pub returns-in_err-count-clause-halted : goal.returns-in_err-count-clause-halted
returns-in_err-count-clause-halted g c =
    let p = err_from_is_err_and c.from_residual.result c.from_residual.ensures.1 in
    rw (p.1, p.2)
    (halted_later c.args.limit (c.args.limit - c.len-in-loop-bytes.result) c.loop-bytes.bytes.items _ _ _ _
    c.loop-bytes.invariant.consumed (omega (arith, c.loop-bytes.invariant.few, c.len-in-loop-bytes.ensures))
    c.in_err-count.ensures.halted)
