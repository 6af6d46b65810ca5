use Rattle.std.proofs.Common.{◌∙◌, ap}
use Rattle.hk_final.specs.Final.{final_lines}
use Rattle.hk_ledger.specs.Machine.{State}
use Rattle.hk_ledger.proofs.replay.Replay.end.Goals as goal

pub returns : goal.returns
returns c = record { ok = c.in_ok-final_lines.ensures.lines ∙ ap (λ (s : State). final_lines s.ledger) c.self.view_is }
