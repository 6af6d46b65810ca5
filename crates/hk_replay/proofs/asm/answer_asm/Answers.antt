use Rattle.std.proofs.Common.{arith}
use Rattle.hk_loop.proofs.Exits.{sink_cause_since}
use Rattle.hk_replay.proofs.Assembling.{gathered_as, halt_cause, halt_no_usage, halt_stops, no_answer, text_answered}
use Rattle.hk_replay.proofs.Assembling.{text_stops}
use Rattle.hk_replay.proofs.asm.answer_asm.Goals as goal

-- the text was taken whole
pub returns-in-Ok-clause-answered : goal.returns-in-Ok-clause-answered
returns-in-Ok-clause-answered g c = λ answer bytes told.
    text_answered bytes c.as_slice.result.now c.answer_whole.result _ _ _ _ told
    (gathered_as _ _ _ _ c.as_slice.ensures.value c.in-Ok.ensures.gathered)
    (c.answer_whole.ensures.gave answer)

pub returns-in-Ok-clause-stops : goal.returns-in-Ok-clause-stops
returns-in-Ok-clause-stops g c = λ bytes told.
    text_stops bytes c.as_slice.result.now c.answer_whole.result _ _ _ _ told
    (gathered_as _ _ _ _ c.as_slice.ensures.value c.in-Ok.ensures.gathered)
    c.answer_whole.ensures.gave c.answer_whole.ensures.front

pub returns-in-Ok-clause-cause : goal.returns-in-Ok-clause-cause
returns-in-Ok-clause-cause g c =
    sink_cause_since c.answer_whole.result _ _ _ _ _ c.gather.ensures.count (omega arith) c.answer_whole.ensures.cause

-- a read stopped it, or want of memory
pub returns-in-Err-clause-answered : goal.returns-in-Err-clause-answered
returns-in-Err-clause-answered g c = λ answer bytes told.
    absurd (no_answer c.in-Err.status c.in-Err.ensures.halted.why answer)

pub returns-in-Err-clause-no_usage : goal.returns-in-Err-clause-no_usage
returns-in-Err-clause-no_usage g c = halt_no_usage c.in-Err.status c.in-Err.ensures.halted.why

pub returns-in-Err-clause-stops : goal.returns-in-Err-clause-stops
returns-in-Err-clause-stops g c = λ bytes told.
    halt_stops bytes c.in-Err.status _ _ _ told c.in-Err.ensures.halted

pub returns-in-Err-clause-cause : goal.returns-in-Err-clause-cause
returns-in-Err-clause-cause g c = record {
  source_count = c.in-Err.ensures.count;
  sink_count = omega arith;
  read_fault = c.in-Err.ensures.cause;
  write_fault = λ fault. absurd (halt_cause c.in-Err.status c.in-Err.ensures.halted.why fault);
}
