-- What the answers of items that install or change a hook mean.
use Rattle.std.proofs.Common.{◌≡◌, ◌∙◌, ap, sym, refl, subst, ℕ, Bool, true, false, ◌&&◌, not, if◌then◌else◌, List}
use Rattle.std.proofs.Common.{Option, Some, None, is_some}
use Rattle.std.specs.FinMap.{get}
use Rattle.hk_base.specs.declared.ids.AccountId.{AccountId}
use Rattle.hk_base.specs.declared.ids.Hash256.{Hash256}
use Rattle.xo_object.specs.declared.transaction.Grant.{Grant}
use Rattle.xo_object.specs.declared.transaction.HookItem.TheVariants as item
use Rattle.xo_object.specs.declared.transaction.Parameter.{Parameter}
use Rattle.hk_lines.specs.declared.result_name.ResultName.TheVariants.{Occupied, HookRefused, NoDefinition, NoInstall}
use Rattle.hk_emit.specs.declared.emission.Emission.{Emission}
use Rattle.hk_state.specs.declared.entry.Entry.{Entry}
use Rattle.hk_state.specs.declared.entry.Entry.TheVariants as entry
use Rattle.hk_state.specs.declared.key.Key.TheVariants as key
use Rattle.hk_state.specs.declared.transactor.Done.{Done}
use Rattle.hk_state.specs.declared.transactor.Done.TheVariants.{Kept, Failed}
use Rattle.hk_state.specs.Entries.{Entries}
use Rattle.hk_state.specs.Writes.{Writes, with_writes, written}
use Rattle.hk_draft.specs.Drafted.{draft_of}
use Rattle.hk_events.specs.Engine.{Checked}
use Rattle.hk_events.specs.Items.{ItemEnd, leaves, stops, item_end, put_entry, created, defined}
use Rattle.hk_items.specs.Checks.{checked_in}
use Rattle.hk_items.specs.Endings.{Means, plain, changed}
use Rattle.hk_items.proofs.Puts.{put_so}
use Rattle.hk_items.proofs.Updates.{put_or_stop, by_change}

so : (m : Entries) (es : List Emission) (done : Done) (b : Bool) (one other : ItemEnd) → true ≡ b →
    Means m es done one →
    Means m es done (if b then one else other)
so m es done b one other is means = subst (λ x. Means m es done (if x then one else other)) is means

not_so : (m : Entries) (es : List Emission) (done : Done) (b : Bool) (one other : ItemEnd) → false ≡ b →
    Means m es done other →
    Means m es done (if b then one else other)
not_so m es done b one other is means = subst (λ x. Means m es done (if x then one else other)) is means

-- the Definition of a code, where its hash has one and where it has none
module _ (m : Entries) (w : Writes) (es : List Emission) (version : ℕ) (code : List ℕ) (c : Checked) (hash : Hash256)
    (same : hash ≡ c.hash) where
  pub defined_there : true ≡ is_some (get (with_writes m w) (key.Definition hash)) →
      draft_of m w es ≡ defined version code c (draft_of m w es)
  defined_there is =
      subst (λ b. draft_of m w es ≡ (if b then draft_of m w es else put_entry (key.Definition c.hash)
      (entry.Definition code version c.bound_hook c.bound_cbak) (draft_of m w es)))
      (is ∙ ap (λ h. is_some (get (with_writes m w) (key.Definition h))) same) refl

  pub defined_new : false ≡ is_some (get (with_writes m w) (key.Definition hash)) → (after : Writes) (e : Entry) →
      after ≡ written w (key.Definition hash) (Some e) → e ≡ entry.Definition code version c.bound_hook c.bound_cbak →
      draft_of m after es ≡ defined version code c (draft_of m w es)
  defined_new lacks after e made what =
      subst (λ b. draft_of m after es ≡
      (if b then draft_of m w es else put_entry (key.Definition c.hash)
      (entry.Definition code version c.bound_hook c.bound_cbak) (draft_of m w es)))
      (lacks ∙ ap (λ h. is_some (get (with_writes m w) (key.Definition h))) same)
      (ap (λ x. draft_of m x es) made ∙ put_so m w es (key.Definition hash) e refl
      ∙ (λ i. put_entry (key.Definition (same i)) (what i) (draft_of m w es)))

module _ (m : Entries) (w : Writes) (es : List Emission) (owner : AccountId) (position : ℕ) where
  module _ (code : List ℕ) (version : ℕ) (on namespace : Hash256) (parameters : List Parameter) (grants : List Grant)
      (replace : Bool) where
    pub create_occupied : true ≡ (is_some (get (with_writes m w) (key.Install owner position)) && not replace) →
        Means m es (Failed Occupied) (item_end plain owner position
        (item.Create code version on namespace parameters grants replace) (draft_of m w es))
    create_occupied is =
        so m es (Failed Occupied) (is_some (get (with_writes m w) (key.Install owner position)) && not replace)
        (stops Occupied) (created owner position version code
        (λ hash. entry.Install hash on namespace parameters grants) (draft_of m w es) (checked_in version code)) is refl

    pub create_refused : false ≡ (is_some (get (with_writes m w) (key.Install owner position)) && not replace) →
        None ≡ checked_in version code →
        Means m es (Failed HookRefused)
        (item_end plain owner position (item.Create code version on namespace parameters grants replace)
        (draft_of m w es))
    create_refused free none =
        not_so m es (Failed HookRefused) (is_some (get (with_writes m w) (key.Install owner position)) && not replace)
        (stops Occupied) (created owner position version code
        (λ hash. entry.Install hash on namespace parameters grants) (draft_of m w es) (checked_in version code)) free
        (subst (λ found. Means m es (Failed HookRefused)
        (created owner position version code (λ hash. entry.Install hash on namespace parameters grants)
        (draft_of m w es) found)) none refl)

    pub create_kept : false ≡ (is_some (get (with_writes m w) (key.Install owner position)) && not replace) →
        (c : Checked) → Some c ≡ checked_in version code →
        (after : Writes) → draft_of m after es ≡ put_entry (key.Install owner position)
        (entry.Install c.hash on namespace parameters grants) (defined version code c (draft_of m w es)) →
        Means m es (Kept after) (item_end plain owner position
        (item.Create code version on namespace parameters grants replace) (draft_of m w es))
    create_kept free c some after is =
        not_so m es (Kept after) (is_some (get (with_writes m w) (key.Install owner position)) && not replace)
        (stops Occupied) (created owner position version code
        (λ hash. entry.Install hash on namespace parameters grants) (draft_of m w es) (checked_in version code)) free
        (subst (λ found. Means m es (Kept after)
        (created owner position version code (λ hash. entry.Install hash on namespace parameters grants)
        (draft_of m w es) found)) some is)

  module _ (hash on namespace : Hash256) (parameters : List Parameter) (grants : List Grant) (replace : Bool) where
    pub install_occupied : true ≡ (is_some (get (with_writes m w) (key.Install owner position)) && not replace) →
        Means m es (Failed Occupied) (item_end plain owner position
        (item.Install hash on namespace parameters grants replace) (draft_of m w es))
    install_occupied is =
        so m es (Failed Occupied) (is_some (get (with_writes m w) (key.Install owner position)) && not replace)
        (stops Occupied)
        (if is_some (get (with_writes m w) (key.Definition hash)) then leaves
        (put_entry (key.Install owner position) (entry.Install hash on namespace parameters grants)
        (draft_of m w es)) else stops NoDefinition) is refl

    pub install_undefined : false ≡ (is_some (get (with_writes m w) (key.Install owner position)) && not replace) →
        false ≡ is_some (get (with_writes m w) (key.Definition hash)) →
        Means m es (Failed NoDefinition)
        (item_end plain owner position (item.Install hash on namespace parameters grants replace) (draft_of m w es))
    install_undefined free none =
        not_so m es (Failed NoDefinition)
        (is_some (get (with_writes m w) (key.Install owner position)) && not replace) (stops Occupied)
        (if is_some (get (with_writes m w) (key.Definition hash)) then leaves
        (put_entry (key.Install owner position) (entry.Install hash on namespace parameters grants)
        (draft_of m w es)) else stops NoDefinition) free
        (not_so m es (Failed NoDefinition) (is_some (get (with_writes m w) (key.Definition hash)))
        (leaves (put_entry (key.Install owner position) (entry.Install hash on namespace parameters grants)
        (draft_of m w es))) (stops NoDefinition) none refl)

    pub install_kept : false ≡ (is_some (get (with_writes m w) (key.Install owner position)) && not replace) →
        true ≡ is_some (get (with_writes m w) (key.Definition hash)) → (after : Writes) →
        draft_of m after es ≡ put_entry (key.Install owner position)
        (entry.Install hash on namespace parameters grants) (draft_of m w es) →
        Means m es (Kept after) (item_end plain owner position
        (item.Install hash on namespace parameters grants replace) (draft_of m w es))
    install_kept free some after is =
        not_so m es (Kept after) (is_some (get (with_writes m w) (key.Install owner position)) && not replace)
        (stops Occupied)
        (if is_some (get (with_writes m w) (key.Definition hash)) then leaves
        (put_entry (key.Install owner position) (entry.Install hash on namespace parameters grants)
        (draft_of m w es)) else stops NoDefinition) free
        (so m es (Kept after) (is_some (get (with_writes m w) (key.Definition hash)))
        (leaves (put_entry (key.Install owner position) (entry.Install hash on namespace parameters grants)
        (draft_of m w es))) (stops NoDefinition) some is)

  module _ (on namespace : Option Hash256) (parameters : Option (List Parameter)) (grants : Option (List Grant)) where
    by : (done : Done) → Means m es done
        (put_or_stop owner position (draft_of m w es)
        (changed on namespace parameters grants (get (with_writes m w) (key.Install owner position)))) →
        Means m es done (item_end plain owner position (item.Update on namespace parameters grants) (draft_of m w es))
    by done means =
        subst (Means m es done) (sym (by_change owner position on namespace parameters grants (draft_of m w es)
        (get (with_writes m w) (key.Install owner position)))) means

    pub update_none : None ≡ changed on namespace parameters grants
        (get (with_writes m w) (key.Install owner position)) →
        Means m es (Failed NoInstall) (item_end plain owner position (item.Update on namespace parameters grants)
        (draft_of m w es))
    update_none none =
        by (Failed NoInstall) (subst (λ o. Means m es (Failed NoInstall)
        (put_or_stop owner position (draft_of m w es) o)) none refl)

    pub update_kept : (e : Entry) →
        Some e ≡ changed on namespace parameters grants (get (with_writes m w) (key.Install owner position)) →
        (after : Writes) →
        draft_of m after es ≡ put_entry (key.Install owner position) e (draft_of m w es) →
        Means m es (Kept after) (item_end plain owner position (item.Update on namespace parameters grants)
        (draft_of m w es))
    update_kept e some after is =
        by (Kept after) (subst (λ o. Means m es (Kept after) (put_or_stop owner position (draft_of m w es) o)) some is)
