use Rattle.std.proofs.Common.{◌∙◌, sym, ap, is_some}
use Rattle.std.specs.FinMap as map
use Rattle.hk_state.proofs.Kept.{at, ordered, get_kept}
use Rattle.hk_state.proofs.entries.Entries.has.Goals as goal

pub returns : goal.returns
returns c = record {
  has =
      c.contains_key.ensures
      ∙ ap is_some
      (sym (get_kept at ordered c.self.inside.kept.entries c.args.key.now)
      ∙ ap (λ m. map.get m c.args.key.now) c.self.view_is);
}
