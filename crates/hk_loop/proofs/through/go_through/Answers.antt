use Rattle.std.proofs.Common.{arith}
use Rattle.hk_loop.proofs.Invariant.{going_on}
use Rattle.hk_loop.proofs.Exits.{stopped_answers, stopped_kept, stopped_leaves, limit_answers, never_done, limit_leaves}
use Rattle.hk_loop.proofs.Exits.{exact_status, cause_since, sink_cause_since}
use Rattle.hk_loop.proofs.through.go_through.Goals as goal

pub loop-room-preserved : goal.loop-room-preserved
loop-room-preserved g c = record {
  going = going_on _ _ _ _ _ _ _ _ _ _ _ _ _ _ _ _ _ c.loop-room.invariant.going c.in-Ok.ensures.goes;
  source_count = omega (arith, c.loop-room.invariant.source_count, c.in-Ok.ensures.source_count);
  sink_count = omega (arith, c.loop-room.invariant.sink_count, c.in-Ok.ensures.sink_count);
}

-- a read stopped it
pub returns-in-Err-clause-answered : goal.returns-in-Err-clause-answered
returns-in-Err-clause-answered g c =
    stopped_answers _ _ _ _ _ _ _ _ _ _ _ c.loop-room.invariant.going _ _ _ c.in-Err.ensures.stops c.loop-room-test.true

pub returns-in-Err-clause-cause : goal.returns-in-Err-clause-cause
returns-in-Err-clause-cause g c =
    cause_since _ _ _ _ _ _ _ c.loop-room.invariant.source_count c.loop-room.invariant.sink_count c.in-Err.ensures.cause

pub returns-in-Err-clause-exact : goal.returns-in-Err-clause-exact
returns-in-Err-clause-exact g c = λ no_read no_write bytes known.
    let cause = returns-in-Err-clause-cause g c in
    exact_status _ _ (λ answer. (returns-in-Err-clause-answered g c answer bytes known).ended)
    (λ fault. no_read (cause.read_fault fault)) (λ fault. no_write (cause.write_fault fault))

pub returns-in-Err-clause-kept : goal.returns-in-Err-clause-kept
returns-in-Err-clause-kept g c =
    stopped_kept _ _ _ _ _ _ _ _ _ _ _ c.loop-room.invariant.going _ _ _ c.in-Err.ensures.stops

pub returns-in-Err-clause-leaves : goal.returns-in-Err-clause-leaves
returns-in-Err-clause-leaves g c =
    stopped_leaves _ _ _ _ _ _ _ _ _ _ _ c.loop-room.invariant.going _ _ _ c.in-Err.ensures.stops c.loop-room-test.true

-- the limit is reached
pub returns-clause-answered : goal.returns-clause-answered
returns-clause-answered g c =
    limit_answers _ _ _ _ _ _ _ _ _ _ _ c.loop-room.invariant.going _ _ (omega (arith, c.loop-room-test.false))
    c.too_long_line.ensures.text c.write_answer.ensures.whole c.write_answer.ensures.front

pub returns-clause-cause : goal.returns-clause-cause
returns-clause-cause g c =
    sink_cause_since _ _ _ _ _ _ c.loop-room.invariant.source_count c.loop-room.invariant.sink_count
    c.write_answer.ensures.cause

pub returns-clause-exact : goal.returns-clause-exact
returns-clause-exact g c = λ no_read no_write bytes known.
    let cause = returns-clause-cause g c in
    exact_status _ _ (λ answer. (returns-clause-answered g c answer bytes known).ended)
    (λ fault. no_read (cause.read_fault fault)) (λ fault. no_write (cause.write_fault fault))

pub returns-clause-kept : goal.returns-clause-kept
returns-clause-kept g c =
    λ done bytes known. absurd (never_done c.write_answer.result c.write_answer.ensures.whole done)

pub returns-clause-leaves : goal.returns-clause-leaves
returns-clause-leaves g c =
    limit_leaves _ _ _ _ _ _ _ _ _ _ _ c.loop-room.invariant.going _ _ (omega (arith, c.loop-room-test.false))
    c.too_long_line.ensures.text c.write_answer.ensures.whole c.write_answer.ensures.front
    c.write_answer.ensures.cause.no_read_fault
