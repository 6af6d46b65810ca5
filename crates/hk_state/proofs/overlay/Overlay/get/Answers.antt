use Rattle.std.proofs.Common.{◌∙◌, sym, ap}
use Rattle.std.specs.FinMap as map
use Rattle.hk_state.specs.contracts.key.KeyPartialEq.TheImpl.{eq-value}
use Rattle.hk_state.proofs.Kept.{alike, get_kept}
use Rattle.hk_state.proofs.Told.{changed, unchanged}
use Rattle.hk_state.proofs.overlay.Overlay.get.Goals as goal

pub returns-in-Some : goal.returns-in-Some
returns-in-Some c = record {
  entry =
      c.as_ref.ensures.value
      ∙ sym (changed c.args.ledger.now.entries c.args.self.now c.args.key.now c.in-Some.change.now
      (ap (λ w. map.get w.changes c.args.key.now) (sym c.self.view_is)
      ∙ get_kept eq-value.it alike c.self.inside.writes.entries c.args.key.now
      ∙ sym c.in-Some.ensures.value));
}

pub returns-in-None : goal.returns-in-None
returns-in-None c = record {
  entry = c.get-in-None.ensures.entry ∙ sym (unchanged c.args.ledger.now.entries c.args.self.now c.args.key.now
      (ap (λ w. map.get w.changes c.args.key.now) (sym c.self.view_is)
      ∙ get_kept eq-value.it alike c.self.inside.writes.entries c.args.key.now
      ∙ sym c.in-None.ensures.value));
}
