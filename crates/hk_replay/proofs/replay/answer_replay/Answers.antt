use Rattle.hk_replay.proofs.Conserving.{done_conserved, done_told}
use Rattle.hk_replay.proofs.Lines.{replay_answered, replay_stops}
use Rattle.hk_replay.proofs.replay.answer_replay.Goals as goal

pub returns-clause-answered : goal.returns-clause-answered
returns-clause-answered g c = λ answer bytes told.
    replay_answered _ bytes c.go_through.result _ _ c.new-replaying.ensures.start
    (c.go_through.ensures.answered answer bytes told)

pub returns-clause-stops : goal.returns-clause-stops
returns-clause-stops g c = λ bytes told.
    replay_stops _ bytes c.go_through.result _ _ _ c.new-replaying.ensures.start
    (c.go_through.ensures.leaves bytes told)

pub returns-clause-conserved : goal.returns-clause-conserved
returns-clause-conserved g c = λ done bytes told.
    done_conserved c.conserves.ensures.law bytes c.go_through.result _ _ done
    (λ answer.
    replay_answered _ bytes c.go_through.result _ _ c.new-replaying.ensures.start
    (c.go_through.ensures.answered answer bytes told))

pub returns-clause-told : goal.returns-clause-told
returns-clause-told g c = λ done bytes told.
    done_told c.bounds_counts.ensures.law c.accounts_for_emissions.ensures.law c.tells_history.ensures.law bytes
    c.go_through.result _ _ done
    (λ answer.
    replay_answered _ bytes c.go_through.result _ _ c.new-replaying.ensures.start
    (c.go_through.ensures.answered answer bytes told))
