use Rattle.std.proofs.Common.{◌∙◌, sym, ap}
use Rattle.std.specs.FinMap as map
use Rattle.hk_state.proofs.Kept.{at, ordered, get_kept}
use Rattle.hk_state.proofs.entries.Entries.get.Goals as goal

pub returns : goal.returns
returns c = record {
  entry =
      c.get.ensures.value
      ∙ sym (get_kept at ordered c.self.inside.kept.entries c.args.key.now)
      ∙ ap (λ m. map.get m c.args.key.now) c.self.view_is;
}
