use Rattle.std.proofs.Common.{◌∙◌, ap}
use Rattle.std.specs.FinMap as map
use Rattle.hk_state.proofs.Kept.{at, ordered, cut_kept}
use Rattle.hk_state.proofs.entries.Entries.cut.Goals as goal

pub returns : goal.returns
returns c = record {
  removed =
      cut_kept at ordered c.self.inside.kept.entries c.remove.new.self.entries c.args.key.now c.remove.ensures.updates.0
      ∙ ap (λ m. map.remove m c.args.key.now) c.self.view_is;
}
