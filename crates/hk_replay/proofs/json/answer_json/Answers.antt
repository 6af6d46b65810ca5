use Rattle.hk_replay.proofs.Lines.{json_answered, json_stops}
use Rattle.hk_replay.proofs.json.answer_json.Goals as goal

pub returns-clause-answered : goal.returns-clause-answered
returns-clause-answered g c = λ answer bytes told.
    json_answered bytes c.go_through.result _ _ (c.go_through.ensures.answered answer bytes told)

pub returns-clause-stops : goal.returns-clause-stops
returns-clause-stops g c = λ bytes told.
    json_stops bytes c.go_through.result _ _ _ (c.go_through.ensures.leaves bytes told)
