use Rattle.std.proofs.Common.{◌∙◌, ap, subst, drop}
use Rattle.std.specs.Option.{option_map}
use Rattle.std.specs.Map.Iter.{deref_pair}
use Rattle.indexmap.specs.IndexMap.{keys}
use Rattle.hk_state.specs.Least.{Least, is_from}
use Rattle.hk_state.specs.Writes.{with_writes}
use Rattle.hk_state.proofs.Making.{as_writes}
use Rattle.hk_state.proofs.overlay.Overlay.least_from.Goals as goal

pub returns : goal.returns
returns c = record {
  least = subst (λ m. Least m (is_from c.args.key.now) (option_map deref_pair c.least_with.result))
      (as_writes c.ledger.inside.entries c.self.inside.writes.entries
      (drop c.self.inside.from (keys c.self.inside.writes))
      ∙ ap (with_writes c.ledger.inside.entries) c.self.view_is
      ∙ ap (λ l. with_writes l.entries c.args.self.now) c.ledger.view_is)
      c.least_with.ensures.least;
}
