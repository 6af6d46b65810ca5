use Rattle.std.proofs.Common.{◌∙◌, subst, sym, arith}
use Rattle.hk_loop.proofs.Exits.{sink_cause_since}
use Rattle.hk_replay.specs.Answers.{GivesFor}
use Rattle.hk_replay.proofs.Giving.{exact_answer}
use Rattle.hk_replay.proofs.Stopping.{demo_stops, nothing_stops, nothing_told, tells_usage, usage_stops}
use Rattle.hk_replay.proofs.program.top.Goals as goal

pub returns-in-Hook-clause-exact : goal.returns-in-Hook-clause-exact
returns-in-Hook-clause-exact g c = λ no_read no_write bytes text status told given.
    exact_answer c.one_ending.ensures.law _ bytes text c.answer_hook.result status _ _
    (λ answer. c.answer_hook.ensures.answered answer bytes told)
    (λ fault. no_read (c.answer_hook.ensures.cause.read_fault fault))
    (λ fault. no_write (c.answer_hook.ensures.cause.write_fault fault))
    (subst (λ command. GivesFor command bytes text status) (sym (sym c.in-Hook.is ∙ c.in-Ok.ensures.names)) given)

pub returns-in-Replay-clause-exact : goal.returns-in-Replay-clause-exact
returns-in-Replay-clause-exact g c = λ no_read no_write bytes text status told given.
    exact_answer c.one_ending.ensures.law _ bytes text c.answer_replay.result status _ _
    (λ answer. c.answer_replay.ensures.answered answer bytes told)
    (λ fault. no_read (c.answer_replay.ensures.cause.read_fault fault))
    (λ fault. no_write (c.answer_replay.ensures.cause.write_fault fault))
    (subst (λ command. GivesFor command bytes text status) (sym (sym c.in-Replay.is ∙ c.in-Ok.ensures.names)) given)

pub returns-in-Asm-clause-exact : goal.returns-in-Asm-clause-exact
returns-in-Asm-clause-exact g c = λ no_read no_write bytes text status told given.
    exact_answer c.one_ending.ensures.law _ bytes text c.answer_asm.result status _ _
    (λ answer. c.answer_asm.ensures.answered answer bytes told)
    (λ fault. no_read (c.answer_asm.ensures.cause.read_fault fault))
    (λ fault. no_write (c.answer_asm.ensures.cause.write_fault fault))
    (subst (λ command. GivesFor command bytes text status) (sym (sym c.in-Asm.is ∙ c.in-Ok.ensures.names)) given)

pub returns-in-Json-clause-exact : goal.returns-in-Json-clause-exact
returns-in-Json-clause-exact g c = λ no_read no_write bytes text status told given.
    exact_answer c.one_ending.ensures.law _ bytes text c.answer_json.result status _ _
    (λ answer. c.answer_json.ensures.answered answer bytes told)
    (λ fault. no_read (c.answer_json.ensures.cause.read_fault fault))
    (λ fault. no_write (c.answer_json.ensures.cause.write_fault fault))
    (subst (λ command. GivesFor command bytes text status) (sym (sym c.in-Json.is ∙ c.in-Ok.ensures.names)) given)

pub returns-in-Unjson-clause-exact : goal.returns-in-Unjson-clause-exact
returns-in-Unjson-clause-exact g c = λ no_read no_write bytes text status told given.
    exact_answer c.one_ending.ensures.law _ bytes text c.answer_unjson.result status _ _
    (λ answer. c.answer_unjson.ensures.answered answer bytes told)
    (λ fault. no_read (c.answer_unjson.ensures.cause.read_fault fault))
    (λ fault. no_write (c.answer_unjson.ensures.cause.write_fault fault))
    (subst (λ command. GivesFor command bytes text status) (sym (sym c.in-Unjson.is ∙ c.in-Ok.ensures.names)) given)

pub returns-in-Demo-clause-exact : goal.returns-in-Demo-clause-exact
returns-in-Demo-clause-exact g c = λ no_read no_write bytes text status told given.
    exact_answer c.one_ending.ensures.law _ bytes text c.answer_demo.result status _ _
    (λ answer. c.answer_demo.ensures.answered answer bytes)
    c.answer_demo.ensures.cause.no_read_fault
    (λ fault. no_write (c.answer_demo.ensures.cause.write_fault fault))
    (subst (λ command. GivesFor command bytes text status) (sym (sym c.in-Demo.is ∙ c.in-Ok.ensures.names)) given)

pub returns-in-Demo-clause-stops : goal.returns-in-Demo-clause-stops
returns-in-Demo-clause-stops g c = λ bytes told.
    demo_stops _ c.in-Demo.payments bytes c.answer_demo.result _ _ _ (sym c.in-Demo.is ∙ c.in-Ok.ensures.names) told
    c.answer_demo.ensures.stops

pub returns-in-Demo-clause-cause : goal.returns-in-Demo-clause-cause
returns-in-Demo-clause-cause g c =
    sink_cause_since c.answer_demo.result _ _ _ _ _ (omega arith) (omega arith) c.answer_demo.ensures.cause

pub returns-in-Other-clause-usage : goal.returns-in-Other-clause-usage
returns-in-Other-clause-usage g c = λ _.
    let wrote = c.write_answer.ensures in
    tells_usage c.write_answer.result _ _ wrote.whole wrote.front wrote.cause.no_read_fault

pub returns-in-Other-clause-stops : goal.returns-in-Other-clause-stops
returns-in-Other-clause-stops g c = λ bytes told.
    let wrote = c.write_answer.ensures in
    usage_stops _ bytes c.write_answer.result _ _ _
    (sym c.in-Other.is ∙ c.in-Ok.ensures.names) told wrote.whole wrote.front wrote.full

pub returns-in-Other-clause-cause : goal.returns-in-Other-clause-cause
returns-in-Other-clause-cause g c =
    sink_cause_since c.write_answer.result _ _ _ _ _ (omega arith) (omega arith) c.write_answer.ensures.cause

-- the words wanted memory
pub returns-in_default-clause-usage : goal.returns-in_default-clause-usage
returns-in_default-clause-usage g c = λ _. nothing_told _

pub returns-in_default-clause-stops : goal.returns-in_default-clause-stops
returns-in_default-clause-stops g c = λ bytes told. nothing_stops _ bytes _ _ told
