use Rattle.hk_asm.specs.Assembling.{asm_given}
use Rattle.hk_lines.specs.Given.{ended}
use Rattle.hk_replay.proofs.Assembling.{answers, front_of, gave_of, never_usage, status_known}
use Rattle.hk_replay.proofs.asm.answer_whole.Goals as goal

pub returns-in-Ok-clause-gave : goal.returns-in-Ok-clause-gave
returns-in-Ok-clause-gave g c = λ answer.
    gave_of (asm_given c.args.text.now ended) c.in-Ok.answer.text.items c.as_slice.result.now c.in-Ok.answer.status
    c.write_answer.result _ _ c.as_slice.ensures.value c.in-Ok.ensures.answer (c.write_answer.ensures.whole answer)

pub returns-in-Ok-clause-front : goal.returns-in-Ok-clause-front
returns-in-Ok-clause-front g c = λ none.
    front_of (asm_given c.args.text.now ended) c.in-Ok.answer.text.items c.as_slice.result.now _ _
    c.as_slice.ensures.value c.in-Ok.ensures.answer.0 (c.write_answer.ensures.front none)

pub returns-in-Ok-clause-no_usage : goal.returns-in-Ok-clause-no_usage
returns-in-Ok-clause-no_usage g c =
    never_usage c.write_answer.result c.in-Ok.answer.status (λ answer. (c.write_answer.ensures.whole answer).0)
    (status_known c.args.text.now c.in-Ok.answer.status c.in-Ok.ensures.answer.1)

pub write_answer-requires : goal.write_answer-requires
write_answer-requires g c = record {
  answer =
      answers c.in-Ok.answer.status (status_known c.args.text.now c.in-Ok.answer.status c.in-Ok.ensures.answer.1);
}
