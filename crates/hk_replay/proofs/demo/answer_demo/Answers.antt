use Rattle.std.proofs.Common.{◌∙◌, refl}
use Rattle.hk_lines.specs.declared.status.Status.TheVariants.{Done}
use Rattle.hk_replay.specs.declared.command.Command.TheVariants.{Demo}
use Rattle.hk_replay.proofs.Stopping.{at_once, nothing_stops}
use Rattle.hk_replay.proofs.demo.answer_demo.Goals as goal

pub returns-in-Ok-clause-answered : goal.returns-in-Ok-clause-answered
returns-in-Ok-clause-answered g c = λ answer bytes.
    let wrote = c.write_answer.ensures.whole answer in record {
      text = c.as_bytes.result.now;
      given = (c.as_bytes.ensures.value ∙ c.in-Ok.ensures.line, wrote.0);
      wrote = wrote.1;
    }

pub returns-in-Ok-clause-stops : goal.returns-in-Ok-clause-stops
returns-in-Ok-clause-stops g c = λ bytes.
    at_once (Demo c.args.payments) c.as_bytes.result.now Done bytes (λ no. cc)
    (λ close. c.as_bytes.ensures.value ∙ c.in-Ok.ensures.line) c.write_answer.result _ _ _ refl
    c.write_answer.ensures.whole c.write_answer.ensures.front c.write_answer.ensures.full

pub returns-in-Err-clause-stops : goal.returns-in-Err-clause-stops
returns-in-Err-clause-stops g c = λ bytes. nothing_stops (Demo c.args.payments) bytes _ _ refl
