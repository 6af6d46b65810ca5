use Rattle.std.proofs.Common.{◌∙◌, sym, ap}
use Rattle.std.specs.FinMap as map
use Rattle.hk_state.specs.contracts.key.KeyPartialEq.TheImpl.{eq-value}
use Rattle.hk_state.specs.Writes.{written, is_listed}
use Rattle.hk_state.proofs.Kept.{alike, put_kept, same_kept}
use Rattle.hk_state.proofs.Listing.{noted, unlisted}
use Rattle.hk_state.proofs.overlay.Overlay.set.Goals as goal

pub returns-in-Ok-clause-ok : goal.returns-in-Ok-clause-ok
returns-in-Ok-clause-ok c =
    let old = c.self.inside.writes.entries in
    let moved = c.bring_last-from.new.writes.entries in
    (λ i. record {
      changes =
          (put_kept eq-value.it alike moved c.insert.new.self.entries c.args.key c.args.change c.in-Ok.ensures.updates.0
          ∙ ap (λ m. map.insert m c.args.key c.args.change)
          (same_kept eq-value.it alike old moved c.bring_last-from.ensures.same)) i;
      listed =
          noted eq-value.it alike old moved c.insert.new.self.entries c.args.key c.args.change c.self.inside.from
          c.bring_last-from.result
          c.bring_last-from.ensures.same c.bring_last-from.ensures.listed c.in-Ok.ensures.entries
          c.bring_last-from.ensures.within c.in-Ok.ensures.unique i;
    })
    ∙ ap (λ w. written w c.args.key c.args.change) c.self.view_is

pub returns-clause-unlisted : goal.returns-clause-unlisted
returns-clause-unlisted c =
    ap (λ w. is_listed c.args.key w.listed) (sym c.self.view_is)
    ∙ unlisted eq-value.it alike c.self.inside.writes.entries c.bring_last-from.new.writes.entries c.args.key
    c.self.inside.from c.bring_last-from.ensures.same c.in-Err.ensures.absent
