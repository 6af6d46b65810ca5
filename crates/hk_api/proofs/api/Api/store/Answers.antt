use Rattle.std.proofs.Common.{◌<◌, ◌≤◌, ◌+◌, ◌*◌, ◌^◌, sym, ap, subst, ◌∙◌}
use Rattle.std.specs.FinMap.{get}
use Rattle.hk_state.specs.Keys.{as_key}
use Rattle.hk_state.specs.Reserves.{reserve, unit_reserve}
use Rattle.hk_api.specs.States.{added_units}
use Rattle.hk_api.proofs.Giving.{not_refused}
use Rattle.hk_api.proofs.Reserving.{stored_fits}
use Rattle.hk_api.proofs.api.Api.store.Goals as goal

pub write-requires : goal.write-requires
write-requires c =
    let added =
    c.added_units-added.ensures
    ∙ ap (added_units (get c.args.self.now.draft.entries (as_key c.args.key.now))) c.as_slice.ensures.items in
    let room =
    c.lacks_reserve.ensures.room (not_refused c.lacks_reserve.result _ _ (sym c.refuse.ensures ∙ c.in_ok-refuse.was)) in
    record {
      reserves = stored_fits c.args.self.now.draft c.args.key.now c.args.bytes c.lacks_reserve.ensures.fits
          (subst (λ n. 1 ≤ n → reserve c.args.self.now.draft.entries c.args.key.now.owner + unit_reserve * n < 2 ^ 64)
          added room);
    }
