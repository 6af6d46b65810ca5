use Rattle.hk_replay.proofs.Lines.{unjson_answered, unjson_stops}
use Rattle.hk_replay.proofs.json.answer_unjson.Goals as goal

pub returns-clause-answered : goal.returns-clause-answered
returns-clause-answered g c = λ answer bytes told.
    unjson_answered bytes c.go_through.result _ _ (c.go_through.ensures.answered answer bytes told)

pub returns-clause-stops : goal.returns-clause-stops
returns-clause-stops g c = λ bytes told.
    unjson_stops bytes c.go_through.result _ _ _ (c.go_through.ensures.leaves bytes told)
