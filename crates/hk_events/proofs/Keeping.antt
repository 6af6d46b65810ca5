-- Hooks and their state stay complete through the items of a change of hooks.
use Rattle.std.proofs.Common.{◌≡◌, ℕ, ◌+◌, ◌<◌, ◌≤◌, Bool, true, false, cond, if◌then◌else◌, List, [], ◌∷◌, length}
use Rattle.std.proofs.Common.{refl, sym, ap, subst, ◌∙◌, arith, Option, Some, None, IsSome}
use Rattle.std.specs.Option.{unwrap_or}
use Rattle.std.specs.FinMap.{get, insert, get-insert}
use Rattle.hk_base.specs.declared.ids.AccountId.{AccountId}
use Rattle.hk_base.specs.declared.ids.Hash256.{Hash256}
use Rattle.xo_object.specs.declared.transaction.Grant.{Grant}
use Rattle.xo_object.specs.declared.transaction.HookItem.{HookItem}
use Rattle.xo_object.specs.declared.transaction.HookItem.TheVariants as item
use Rattle.xo_object.specs.declared.transaction.Parameter.{Parameter}
use Rattle.hk_lines.specs.declared.result_name.ResultName.{ResultName}
use Rattle.hk_lines.specs.declared.result_name.ResultName.TheVariants.{Occupied, NoDefinition, Reserve}
use Rattle.hk_state.specs.declared.entry.Entry.{Entry}
use Rattle.hk_state.specs.declared.entry.Entry.TheVariants as entry
use Rattle.hk_state.specs.declared.key.Key.TheVariants as key
use Rattle.hk_state.specs.declared.key.StateKey.{StateKey}
use Rattle.hk_state.specs.Keys.{as_key, keys_total, itself}
use Rattle.hk_state.specs.Fees.{positions}
use Rattle.hk_state.specs.Holdings.{holding_at}
use Rattle.hk_draft.specs.Lists.{Each}
use Rattle.hk_draft.specs.Draft.{Draft, erased}
use Rattle.hk_events.specs.Engine.{Engine, Checked}
use Rattle.hk_events.specs.Complete.{IsComplete, ParametersFit, GrantsFit, IfGiven, ItemFits}
use Rattle.hk_events.specs.Items.{ItemEnd, leaves, stops, put_entry, keys_in, all_erased, has_entry, is_occupied}
use Rattle.hk_events.specs.Items.{defined, created, updated, item_end, then_items, items_end, is_short, reserved}
use Rattle.hk_events.specs.Items.{hooks_end}
use Rattle.hk_events.proofs.Following.{Follows, follows_itself, follows_further, complete_then, follows_removal}
use Rattle.hk_events.proofs.Following.{follows_install, follows_definition}

given_so : {X : Type 0} (P : X → Type 0) (given : Option X) (was : X) → IfGiven P given → P was →
    P (unwrap_or given was)
given_so P None was h old = old
given_so P (Some x) was h old = h

module _ (e : Engine) (owner : AccountId) where
  -- items that follow
  abbrev pub FollowsEnd : Draft → ItemEnd → Type 0
  FollowsEnd d (leaves b) = Follows e.checks d.entries b.entries
  FollowsEnd d (stops name) = Unit {0}

  unless_follows : (b : Bool) (d : Draft) (name : ResultName) (x : ItemEnd) → FollowsEnd d x →
      FollowsEnd d (if b then stops name else x)
  unless_follows true d name x follows = tt
  unless_follows false d name x follows = follows

  erased_follow : (qs : List StateKey) (d : Draft) → Follows e.checks d.entries (all_erased qs d).entries
  erased_follow [] d = follows_itself e.checks d.entries
  erased_follow (q ∷ qs) d =
      follows_further e.checks d.entries (erased q d).entries (all_erased qs (erased q d)).entries
      (follows_removal e.checks d.entries (as_key q) tt) (erased_follow qs (erased q d))

  -- a new code's Definition, and its Install
  module _ (version : ℕ) (code : List ℕ) (c : Checked) (small : version ≤ 1) (accepted : e.checks version code ≡ Some c)
      (d : Draft) where
    abbrev definition : Entry
    definition = entry.Definition code version c.bound_hook c.bound_cbak

    defined_follows : Follows e.checks d.entries (defined version code c d).entries
    defined_follows =
        elim (has_entry d (key.Definition c.hash))
        as (λ b. Follows e.checks d.entries (if b then d else put_entry (key.Definition c.hash) definition d).entries) [
          | true ↦ follows_itself e.checks d.entries
          | false ↦ follows_definition e.checks d.entries c.hash definition (small, accepted)
        ]

    put_known : IsSome (get (insert d.entries (key.Definition c.hash) definition) (key.Definition c.hash))
    put_known =
        subst IsSome (sym (get-insert keys_total d.entries (key.Definition c.hash) definition (key.Definition c.hash)
        ∙ ap (λ b. cond b (Some definition) (get d.entries (key.Definition c.hash))) (itself (key.Definition c.hash))))
        refl

    defined_known : IsSome (get (defined version code c d).entries (key.Definition c.hash))
    defined_known =
        elim (has_entry d (key.Definition c.hash)) as (λ b.
        has_entry d (key.Definition c.hash) ≡ b →
        IsSome
        (get (if b then d else put_entry (key.Definition c.hash) definition d).entries (key.Definition c.hash))) [
          | true ↦ λ there. there
          | false ↦ λ none. put_known
        ] refl

  module _ (position : ℕ) (low : position < positions) (d : Draft) (here : IsSome (holding_at d.entries owner)) where
    created_follows : (version : ℕ) (code : List ℕ) (on namespace : Hash256) (parameters : List Parameter)
        (grants : List Grant) → version ≤ 1 →
        ParametersFit parameters × GrantsFit grants → (found : Option Checked) → e.checks version code ≡ found →
        FollowsEnd d
        (created owner position version code (λ hash. entry.Install hash on namespace parameters grants) d found)
    created_follows version code on namespace parameters grants small terms None at = tt
    created_follows version code on namespace parameters grants small terms (Some c) at =
        let defined_so = defined_follows version code c small at d in
        follows_further e.checks d.entries (defined version code c d).entries (insert (defined version code c d).entries
        (key.Install owner position) (entry.Install c.hash on namespace parameters grants)) defined_so
        (follows_install e.checks (defined version code c d).entries owner position
        (entry.Install c.hash on namespace parameters grants)
        (record {
          low = low;
          known = defined_known version code c small at d;
          owned = defined_so.accounts owner here;
          values = terms.0;
          leave = terms.1;
        }))

    installed_follows : (hash on namespace : Hash256) (parameters : List Parameter) (grants : List Grant) →
        ParametersFit parameters × GrantsFit grants → (b : Bool) →
        has_entry d (key.Definition hash) ≡ b →
        FollowsEnd d (if b
        then leaves (put_entry (key.Install owner position) (entry.Install hash on namespace parameters grants) d)
        else stops NoDefinition)
    installed_follows hash on namespace parameters grants terms true there =
        follows_install e.checks d.entries owner position (entry.Install hash on namespace parameters grants)
        (record { low = low; known = there; owned = here; values = terms.0; leave = terms.1 })
    installed_follows hash on namespace parameters grants terms false none = tt

    updated_follows : (on namespace : Option Hash256) (parameters : Option (List Parameter))
        (grants : Option (List Grant)) → IfGiven ParametersFit parameters × IfGiven GrantsFit grants →
        IsComplete e.checks d.entries → (found : Option Entry) → get d.entries (key.Install owner position) ≡ found →
        FollowsEnd d (updated owner position on namespace parameters grants d found)
    updated_follows on namespace parameters grants terms complete
        (Some (entry.Install hash was_on was_namespace was_parameters was_grants)) at =
        let was =
        complete.installs owner position (entry.Install hash was_on was_namespace was_parameters was_grants) at in
        follows_install e.checks d.entries owner position (entry.Install hash (unwrap_or on was_on)
        (unwrap_or namespace was_namespace) (unwrap_or parameters was_parameters) (unwrap_or grants was_grants))
        (record {
          low = low;
          known = was.known;
          owned = here;
          values = given_so ParametersFit parameters was_parameters terms.0 was.values;
          leave = given_so GrantsFit grants was_grants terms.1 was.leave;
        })
    updated_follows on namespace parameters grants terms complete other at = tt

    item_follows : (i : HookItem) → ItemFits i → IsComplete e.checks d.entries →
        FollowsEnd d (item_end e owner position i d)
    item_follows item.Noop is complete = follows_itself e.checks d.entries
    item_follows (item.DeleteNamespace namespace) is complete = erased_follow (keys_in owner namespace d.entries) d
    item_follows item.Delete is complete = follows_removal e.checks d.entries (key.Install owner position) tt
    item_follows (item.Create code version on namespace parameters grants replace) is complete =
        unless_follows (is_occupied owner position replace d) d Occupied _
        (created_follows version code on namespace parameters grants is.0 is.1 (e.checks version code) refl)
    item_follows (item.Install hash on namespace parameters grants replace) is complete =
        unless_follows (is_occupied owner position replace d) d Occupied _
        (installed_follows hash on namespace parameters grants is (has_entry d (key.Definition hash)) refl)
    item_follows (item.Update on namespace parameters grants) is complete =
        updated_follows on namespace parameters grants is complete (get d.entries (key.Install owner position)) refl

  onward : (d b : Draft) (x : ItemEnd) → Follows e.checks d.entries b.entries → FollowsEnd b x → FollowsEnd d x
  onward d b (leaves c) one two = follows_further e.checks d.entries b.entries c.entries one two
  onward d b (stops name) one two = tt

  then_follows : (d : Draft) (x : ItemEnd) (later : Draft → ItemEnd) → FollowsEnd d x →
      ((b : Draft) → Follows e.checks d.entries b.entries → FollowsEnd b (later b)) →
      FollowsEnd d (then_items x later)
  then_follows d (leaves b) later one two = onward d b (later b) one (two b one)
  then_follows d (stops name) later one two = tt

  items_follow : (position : ℕ) (is : List HookItem) (d : Draft) → position + length is ≤ positions → Each ItemFits is →
      IsSome (holding_at d.entries owner) → IsComplete e.checks d.entries →
      FollowsEnd d (items_end e owner position is d)
  items_follow position [] d few fit here complete = follows_itself e.checks d.entries
  items_follow position (i ∷ is) d few fit here complete =
      then_follows d (item_end e owner position i d) (items_end e owner (position + 1) is)
      (item_follows position (omega (arith, few)) d here i fit.0 complete)
      (λ b one.
      items_follow (position + 1) is b (omega (arith, few)) fit.1 (one.accounts owner here)
      (complete_then e.checks d.entries b.entries complete one))

  reserved_follows : (d : Draft) (x : ItemEnd) → FollowsEnd d x → FollowsEnd d (reserved e owner x)
  reserved_follows d (leaves b) one = unless_follows (is_short e owner b.entries) d Reserve (leaves b) one
  reserved_follows d (stops name) one = tt

  pub hooks_follow : (is : List HookItem) (d : Draft) → length is ≤ positions → Each ItemFits is →
      IsSome (holding_at d.entries owner) →
      IsComplete e.checks d.entries → FollowsEnd d (hooks_end e owner is d)
  hooks_follow is d few fit here complete =
      reserved_follows d (items_end e owner 0 is d) (items_follow 0 is d (omega (arith, few)) fit here complete)
