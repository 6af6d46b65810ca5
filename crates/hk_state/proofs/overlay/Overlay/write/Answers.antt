use Rattle.std.proofs.Common.{◌∙◌, sym, ap, Some, None}
use Rattle.std.specs.Option.{option_map}
use Rattle.std.specs.FinMap as map
use Rattle.hk_state.specs.contracts.key.KeyPartialEq.TheImpl.{eq-value}
use Rattle.hk_state.specs.Entries.{change_or}
use Rattle.hk_state.specs.Writes.{write_at}
use Rattle.hk_state.proofs.Kept.{alike, get_kept}
use Rattle.hk_state.proofs.Listing.{at_place}
use Rattle.hk_state.proofs.overlay.Overlay.write.Goals as goal

pub returns-in-Some : goal.returns-in-Some
returns-in-Some c =
    let es = c.self.inside.writes.entries in
    let key = c.in-Some.key.now in
    record {
      write =
          (λ i. Some (key, c.as_ref.ensures.value i))
          ∙ sym (ap (λ w. write_at w c.args.place) (sym c.self.view_is)
          ∙ ap (option_map (λ k. (k, change_or (map.get (map.from_entries es) k) None)))
          (at_place eq-value.it alike es c.self.inside.from c.args.place key c.in-Some.change.now
          c.in-Some.ensures.entry)
          ∙ (λ i. Some (key, change_or ((get_kept eq-value.it alike es key ∙ c.in-Some.ensures.value) i) None)));
    }
