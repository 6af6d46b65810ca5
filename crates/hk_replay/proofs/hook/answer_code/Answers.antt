use Rattle.std.proofs.Common.{subst, sym}
use Rattle.hk_replay.specs.Answers.{IsReply}
use Rattle.hk_replay.proofs.Stopping.{told}
use Rattle.hk_replay.proofs.hook.answer_code.Goals as goal

-- the answer was written, or a front of it
pub returns-in-Ok-clause-told : goal.returns-in-Ok-clause-told
returns-in-Ok-clause-told g c =
    told c.args.question c.args.code.now c.as_slice.result.now c.in-Ok.reply.status _ _
    (subst (λ text. IsReply c.args.question c.args.code.now text c.in-Ok.reply.status) (sym c.as_slice.ensures.value)
    c.in-Ok.ensures.reply)
    c.write_answer.result c.write_answer.ensures.whole c.write_answer.ensures.front
