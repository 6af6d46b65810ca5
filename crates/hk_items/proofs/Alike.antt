-- Answers to items and what they mean, step by step; and engines that check and reserve alike.
use Rattle.std.proofs.Common.{◌≡◌, ◌∙◌, ap, sym, refl, subst, ℕ, ◌+◌, ◌≤◌, true, false, if◌then◌else◌, nat_lt, List, []}
use Rattle.std.proofs.Common.{◌∷◌, drop}
use Rattle.hk_base.specs.declared.ids.AccountId.{AccountId}
use Rattle.xo_object.specs.declared.transaction.HookItem.{HookItem}
use Rattle.xo_object.specs.declared.transaction.HookItem.TheVariants as item
use Rattle.hk_lines.specs.declared.result_name.ResultName.{ResultName}
use Rattle.hk_lines.specs.declared.result_name.ResultName.TheVariants.{Occupied, Reserve}
use Rattle.hk_emit.specs.declared.emission.Emission.{Emission}
use Rattle.hk_state.specs.declared.entry.Entry.TheVariants as entry
use Rattle.hk_state.specs.declared.transactor.Done.{Done}
use Rattle.hk_state.specs.declared.transactor.Done.TheVariants.{Kept, Failed}
use Rattle.hk_state.specs.Entries.{Entries}
use Rattle.hk_state.specs.Holdings.{holding_at}
use Rattle.hk_state.specs.Reserves.{reserve}
use Rattle.hk_state.specs.Writes.{Writes, with_writes}
use Rattle.hk_draft.specs.Draft.{Draft}
use Rattle.hk_draft.specs.Drafted.{draft_of}
use Rattle.hk_events.specs.Engine.{Engine}
use Rattle.hk_events.specs.Items.{ItemEnd, leaves, stops, item_end, items_end, hooks_end, then_items, created}
use Rattle.hk_events.specs.Items.{is_occupied, reserved, is_short, balance_of}
use Rattle.hk_items.specs.Checks.{checked_in}
use Rattle.hk_items.specs.Endings.{Means, plain}
use Rattle.hk_items.proofs.Grown.{Grows}

module _ (m : Entries) (es : List Emission) where
  -- an item stopped, and so do all
  pub stopped : (end : ItemEnd) (later : Draft → ItemEnd) (name : ResultName) → Means m es (Failed name) end →
      Means m es (Failed name) (then_items end later)
  stopped (leaves d) later name means = absurd means
  stopped (stops other) later name means = means

  -- an item left a draft, and the others go on from it
  pub onward : (end : ItemEnd) (later : Draft → ItemEnd) (w : Writes) → Means m es (Kept w) end →
      later (draft_of m w es) ≡ then_items end later
  onward (leaves d) later w means = ap later means
  onward (stops name) later w means = absurd means

  pub kept_grows : (id : AccountId) (more : ℕ) (d : Draft) (end : ItemEnd) (w : Writes) → Means m es (Kept w) end →
      Grows id more d end →
      reserve (with_writes m w) id ≤ reserve d.entries id + more
  kept_grows id more d (leaves after) w means grows =
      let same : with_writes m w ≡ after.entries = λ i. (means i).entries in
      subst (λ n. reserve n id ≤ reserve d.entries id + more) (sym same) grows
  kept_grows id more d (stops name) w means grows = absurd means

  module _ (owner : AccountId) where
    pub before_reserve : (end : ItemEnd) (name : ResultName) → Means m es (Failed name) end →
        Means m es (Failed name) (reserved plain owner end)
    before_reserve (leaves d) name means = absurd means
    before_reserve (stops other) name means = means

    pub short : (end : ItemEnd) (w : Writes) → true ≡ is_short plain owner (with_writes m w) → Means m es (Kept w) end →
        Means m es (Failed Reserve) (reserved plain owner end)
    short (leaves d) w is means =
        subst (λ b. Means m es (Failed Reserve) (if b then stops Reserve else leaves d)) (is
        ∙ (λ i. is_short plain owner (means i).entries)) refl
    short (stops other) w is means = absurd means

    pub covered : (end : ItemEnd) (w : Writes) → false ≡ is_short plain owner (with_writes m w) →
        Means m es (Kept w) end →
        Means m es (Kept w) (reserved plain owner end)
    covered (leaves d) w is means =
        subst (λ b. Means m es (Kept w) (if b then stops Reserve else leaves d)) (is
        ∙ (λ i. is_short plain owner (means i).entries)) means
    covered (stops other) w is means = absurd means

  -- the items that are left, when one of them was kept, and when one failed
  module _ (owner : AccountId) (position : ℕ) (items : List HookItem) (index : ℕ) (x : HookItem)
      (is : drop index items ≡ x ∷ drop (index + 1) items) (w : Writes) (start : ItemEnd)
      (left : items_end plain owner position (drop index items) (draft_of m w es) ≡ start) where
    pub next_item : (after : Writes) → Means m es (Kept after) (item_end plain owner position x (draft_of m w es)) →
        items_end plain owner (position + 1) (drop (index + 1) items) (draft_of m after es) ≡ start
    next_item after means =
        onward (item_end plain owner position x (draft_of m w es))
        (items_end plain owner (position + 1) (drop (index + 1) items)) after means
        ∙ sym (ap (λ xs. items_end plain owner position xs (draft_of m w es)) is) ∙ left

    pub failed_item : (name : ResultName) →
        Means m es (Failed name) (item_end plain owner position x (draft_of m w es)) → Means m es (Failed name) start
    failed_item name means =
        subst (Means m es (Failed name)) (sym (ap (λ xs. items_end plain owner position xs (draft_of m w es)) is)
        ∙ left)
        (stopped (item_end plain owner position x (draft_of m w es))
        (items_end plain owner (position + 1) (drop (index + 1) items)) name means)

  pub no_more : (owner : AccountId) (position : ℕ) (items : List HookItem) → items ≡ [] →
      (w : Writes) (start : ItemEnd) →
      items_end plain owner position items (draft_of m w es) ≡ start → Means m es (Kept w) start
  no_more owner position items none w start left =
      subst (Means m es (Kept w)) (ap (λ xs. items_end plain owner position xs (draft_of m w es)) (sym none)
      ∙ left) refl

module _ (e : Engine) (checks : e.checks ≡ checked_in) (reserves : e.reserve ≡ reserve) (owner : AccountId) where
  item_alike : (position : ℕ) (i : HookItem) (d : Draft) →
      item_end e owner position i d ≡ item_end plain owner position i d
  item_alike position item.Noop d = refl
  item_alike position (item.DeleteNamespace namespace) d = refl
  item_alike position item.Delete d = refl
  item_alike position (item.Create code version on namespace parameters grants replace) d =
      ap (λ check. if is_occupied owner position replace d then stops Occupied else created owner position version
      code (λ hash. entry.Install hash on namespace parameters grants) d (check version code)) checks
  item_alike position (item.Install hash on namespace parameters grants replace) d = refl
  item_alike position (item.Update on namespace parameters grants) d = refl

  items_alike : (position : ℕ) (items : List HookItem) (d : Draft) →
      items_end e owner position items d ≡ items_end plain owner position items d
  items_alike position [] d = refl
  items_alike position (i ∷ is) d =
      λ j. then_items (item_alike position i d j) (λ after. items_alike (position + 1) is after j)

  reserved_alike : (end : ItemEnd) → reserved e owner end ≡ reserved plain owner end
  reserved_alike (leaves d) =
      ap (λ keep. if nat_lt (balance_of (holding_at d.entries owner))
      (keep d.entries owner) then stops Reserve else leaves d) reserves
  reserved_alike (stops name) = refl

  pub hooks_alike : (items : List HookItem) (d : Draft) → hooks_end plain owner items d ≡ hooks_end e owner items d
  hooks_alike items d =
      sym (reserved_alike (items_end e owner 0 items d) ∙ ap (reserved plain owner) (items_alike 0 items d))
