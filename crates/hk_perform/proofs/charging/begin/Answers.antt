use Rattle.std.proofs.Common.{◌∙◌}
use Rattle.hk_perform.proofs.Paying.{begun_handed, begun_queued}
use Rattle.hk_perform.proofs.charging.begin.Goals as goal
use Rattle.hk_perform.proofs.charging.begin.Goals.{in-Queued+in_ok-remove, in_default}

pub returns : goal.returns
returns c = record {
  began = λ ledger. elim c.match-origin.branch [
    | in-Queued+in_ok-remove w ↦
        begun_queued c.args.origin w.in-Queued.number w.in-Queued.is c.new-overlay.result c.match-origin.overlay
        c.new-overlay.ensures.empty (w.overlay-is ∙ w.in_ok-remove.ensures.ok) ledger
    | in_default w ↦
        begun_handed c.args.origin w.in_default.not-Queued c.match-origin.overlay
        (w.overlay-is ∙ c.new-overlay.ensures.empty) ledger
  ];
}
