use Rattle.std.proofs.Common.{refl}
use Rattle.hk_loop.proofs.Exits.{sink_cause_since}
use Rattle.hk_replay.proofs.Stopping.{lines_stops, lines_answered, code_answered, code_stops}
use Rattle.hk_replay.proofs.hook.answer_hook.Goals as goal

-- the lines are right, and their code is answered
pub returns-in-Done-clause-answered : goal.returns-in-Done-clause-answered
returns-in-Done-clause-answered g c = λ answer bytes told.
    code_answered c.args.question _ bytes _ c.answer_code.result _ _ _ _ c.new-lines.ensures.none
    (c.in-Done.ensures.answered tt bytes told)
    (c.in-Done.ensures.kept refl bytes told) c.code.ensures.code c.answer_code.ensures.told answer

pub returns-in-Done-clause-stops : goal.returns-in-Done-clause-stops
returns-in-Done-clause-stops g c = λ bytes told.
    code_stops c.args.question _ bytes _ c.answer_code.result _ _ _ _ _ c.new-lines.ensures.none
    (c.in-Done.ensures.leaves bytes told)
    c.code.ensures.code c.answer_code.ensures.told

pub returns-in-Done-clause-cause : goal.returns-in-Done-clause-cause
returns-in-Done-clause-cause g c =
    let lines = c.in-Done.ensures.cause in
    sink_cause_since _ _ _ _ _ _ lines.source_count lines.sink_count c.answer_code.ensures.cause

-- the lines stopped it
pub returns-clause-answered : goal.returns-clause-answered
returns-clause-answered g c = λ answer bytes told.
    lines_answered c.args.question _ bytes c.go_through.result _ _ c.new-lines.ensures.none c.in_default.not-Done
    (c.go_through.ensures.answered answer bytes told)

pub returns-clause-stops : goal.returns-clause-stops
returns-clause-stops g c = λ bytes told.
    lines_stops c.args.question _ bytes c.go_through.result _ _ _ _ c.new-lines.ensures.none
    (c.go_through.ensures.leaves bytes told)
