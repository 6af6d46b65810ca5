-- The items of a change of hooks go on from a draft: they write State keys of deleted namespaces alone.
use Rattle.std.proofs.Common.{◌≡◌, ℕ, ◌+◌, inl, inr, Bool, true, false, cond, if◌then◌else◌, List, [], ◌∷◌, append-nil}
use Rattle.std.proofs.Common.{refl, sym, ap, subst, ◌∙◌, arith, Option, Some, None}
use Rattle.std.specs.List.{filter_map, cons_option}
use Rattle.std.specs.Str.{bytes_eq}
use Rattle.std.specs.FinMap.{get, entries}
use Rattle.std.proofs.lemmas.Bool.{and_parts}
use Rattle.std.proofs.lemmas.Slice.Eq.{bytes_eq-Decides}
use Rattle.hk_base.specs.declared.ids.AccountId.{AccountId}
use Rattle.hk_base.specs.declared.ids.Hash256.{Hash256}
use Rattle.xo_object.specs.declared.transaction.Grant.{Grant}
use Rattle.xo_object.specs.declared.transaction.HookItem.{HookItem}
use Rattle.xo_object.specs.declared.transaction.HookItem.TheVariants as item
use Rattle.xo_object.specs.declared.transaction.Parameter.{Parameter}
use Rattle.hk_lines.specs.declared.result_name.ResultName.{ResultName}
use Rattle.hk_lines.specs.declared.result_name.ResultName.TheVariants.{Occupied, NoDefinition, Reserve}
use Rattle.hk_reading.specs.declared.reading.Reading.{Reading}
use Rattle.hk_state.specs.declared.entry.Entry.{Entry}
use Rattle.hk_state.specs.declared.entry.Entry.TheVariants as entry
use Rattle.hk_state.specs.declared.key.Key.{Key}
use Rattle.hk_state.specs.declared.key.Key.TheVariants as key
use Rattle.hk_state.specs.declared.key.StateKey.{StateKey}
use Rattle.hk_state.specs.Keys.{is_key, as_key}
use Rattle.hk_state.specs.Entries.{Entries, write, get-write}
use Rattle.hk_state.specs.Balances.{worth}
use Rattle.hk_state.specs.Sums.{part, sum-write}
use Rattle.hk_draft.specs.Lists.{Each, SomeOf}
use Rattle.hk_draft.specs.Draft.{Draft, erased}
use Rattle.hk_draft.specs.Extends.{Extends, HoldsState}
use Rattle.hk_draft.proofs.Extended.{extends_itself, extends_further, extends_weaker, extends_erased}
use Rattle.hk_draft.proofs.Granted.{same_account}
use Rattle.hk_events.specs.Engine.{Engine, Checked}
use Rattle.hk_events.specs.Confined.{IsDeletion}
use Rattle.hk_events.specs.Items.{ItemEnd, leaves, stops, put_entry, is_in, key_in, keys_in, all_erased, has_entry}
use Rattle.hk_events.specs.Items.{is_occupied, defined, created, updated, item_end, then_items, items_end, is_short}
use Rattle.hk_events.specs.Items.{reserved, hooks_end}
use Rattle.hk_events.proofs.Words.{each-map}

-- a key of the account, in a namespace that one of the items deletes
abbrev pub IsDeleted : AccountId → List HookItem → StateKey → Type 0
IsDeleted owner items q = (owner ≡ q.owner) × SomeOf (IsDeletion q.namespace) items

-- an entry at a key that is no State key, is out of the queue, and is worth nothing
module _ (reads : List ℕ → Reading) (seq : ℕ) (G : StateKey → Type 0) (k : Key)
    (apart : (q : StateKey) → is_key (as_key q) k ≡ false)
    (aside : (n : ℕ) → is_key (key.Emitted n) k ≡ false) (poor : (found : Option Entry) → part worth k found ≡ 0) where
  stays_so : (m : Entries) (change : Option Entry) (q : Key) → is_key q k ≡ false → get (write m k change) q ≡ get m q
  stays_so m change q other = get-write m k change q ∙ ap (λ b. cond b change (get m q)) other

  extends_entry : (a : Draft) (change : Option Entry) →
      Extends reads seq G a
      (record { entries = write a.entries k change; written = a.written; emissions = a.emissions })
  extends_entry a change = record {
    unlisted = λ q h. stays_so a.entries change (as_key q) (apart q);
    listed = λ q h. h;
    grounds = λ q h. inl h;
    held = λ q h. subst HoldsState (sym (stays_so a.entries change (as_key q) (apart q))) h;
    queue = λ n. stays_so a.entries change (key.Emitted n) (aside n);
    more = [];
    emissions = sym (append-nil a.emissions);
    emits = tt;
    sum =
        let sums = sum-write worth a.entries k change in
        let old = poor (get a.entries k) in
        let new = poor change in omega (arith, sums, old, new);
  }

no_install : (owner : AccountId) (position : ℕ) (found : Option Entry) →
    part worth (key.Install owner position) found ≡ 0
no_install owner position None = refl
no_install owner position (Some x) = refl

no_definition : (hash : Hash256) (found : Option Entry) → part worth (key.Definition hash) found ≡ 0
no_definition hash None = refl
no_definition hash (Some x) = refl

-- what stands in a list of what h gives
each_given : {X Y : Type 0} (P : Y → Type 0) (h : X → Option Y) → ((x : X) (y : Y) → h x ≡ Some y → P y) →
    (xs : List X) → Each P (filter_map h xs)
each_given P h all [] = tt
each_given P h all (x ∷ xs) =
    elim (h x) as (λ o. h x ≡ o → Each P (cons_option o (filter_map h xs))) [
      | None ↦ λ no. each_given P h all xs
      | Some y ↦ λ is. (all x y is, each_given P h all xs)
    ] refl

-- of the account, in the namespace
abbrev pub IsIn : AccountId → Hash256 → StateKey → Type 0
IsIn owner namespace q = (owner ≡ q.owner) × (namespace ≡ q.namespace)

module _ (owner : AccountId) (namespace : Hash256) where
  in_parts : (id : AccountId) (space k : Hash256) (q : StateKey) (b : Bool) →
      is_in owner namespace (key.State id space k) ≡ b →
      (if b then Some (record { owner = id; namespace = space; key = k }) else None) ≡ Some q → IsIn owner namespace q
  in_parts id space k q true is same =
      let made : record { owner = id; namespace = space; key = k } ≡ q = cc in
      let own = and_parts _ (bytes_eq space.0 namespace.0) is in
      let beside = and_parts _ (bytes_eq owner.0 id.0) own.0 in (
        same_account owner id beside.1 ∙ ap (λ p. p.owner) made,
        sym (ap (λ bytes. record { 0 = bytes }) ((bytes_eq-Decides space.0 namespace.0).0 own.1))
            ∙ ap (λ p. p.namespace) made,
      )
  in_parts id space k q false is same = cc

  key_is_in : (k : Key) (q : StateKey) → key_in owner namespace k ≡ Some q → IsIn owner namespace q
  key_is_in (key.State id space k) q h = in_parts id space k q (is_in owner namespace (key.State id space k)) refl h
  key_is_in other q h = cc

  pub keys_are_in : (m : Entries) → Each (IsIn owner namespace) (keys_in owner namespace m)
  keys_are_in m = each_given (IsIn owner namespace) (λ e. key_in owner namespace e.0) (λ e. key_is_in e.0) (entries m)

module _ (reads : List ℕ → Reading) (seq : ℕ) (G : StateKey → Type 0) where
  all_go : (qs : List StateKey) (a : Draft) → Each G qs → Extends reads seq G a (all_erased qs a)
  all_go [] a grounds = extends_itself reads seq G a
  all_go (q ∷ qs) a grounds =
      extends_further reads seq G a (erased q a) (all_erased qs (erased q a))
      (extends_erased reads seq G a q grounds.0) (all_go qs (erased q a) grounds.1)

  -- items that go on
  abbrev pub GoesOn : Draft → ItemEnd → Type 0
  GoesOn a (leaves b) = Extends reads seq G a b
  GoesOn a (stops name) = Unit {0}

  install_goes : (owner : AccountId) (position : ℕ) (a : Draft) (change : Option Entry) →
      Extends reads seq G a (record {
        entries = write a.entries (key.Install owner position) change;
        written = a.written;
        emissions = a.emissions;
      })
  install_goes owner position a change =
      extends_entry reads seq G (key.Install owner position) (λ q. refl) (λ n. refl) (no_install owner position) a
      change

  defined_goes : (version : ℕ) (code : List ℕ) (c : Checked) (a : Draft) →
      Extends reads seq G a (defined version code c a)
  defined_goes version code c a =
      elim (has_entry a (key.Definition c.hash)) as (λ b.
      Extends reads seq G a (if b then a
      else put_entry (key.Definition c.hash) (entry.Definition code version c.bound_hook c.bound_cbak) a)) [
        | true ↦ extends_itself reads seq G a
        | false ↦
            extends_entry reads seq G (key.Definition c.hash) (λ q. refl) (λ n. refl) (no_definition c.hash) a
            (Some (entry.Definition code version c.bound_hook c.bound_cbak))
      ]

  created_goes : (owner : AccountId) (position version : ℕ) (code : List ℕ) (install : Hash256 → Entry) (a : Draft)
      (c : Option Checked) →
      GoesOn a (created owner position version code install a c)
  created_goes owner position version code install a None = tt
  created_goes owner position version code install a (Some c) =
      extends_further reads seq G a (defined version code c a) _ (defined_goes version code c a)
      (install_goes owner position (defined version code c a) (Some (install c.hash)))

  updated_goes : (owner : AccountId) (position : ℕ) (on namespace : Option Hash256)
      (parameters : Option (List Parameter)) (grants : Option (List Grant)) (a : Draft) (found : Option Entry) →
      GoesOn a (updated owner position on namespace parameters grants a found)
  updated_goes owner position on namespace parameters grants a
      (Some (entry.Install hash was_on was_namespace was_parameters was_grants)) =
      install_goes owner position a (Some _)
  updated_goes owner position on namespace parameters grants a other = tt

  unless_goes : (b : Bool) (a : Draft) (name : ResultName) (x : ItemEnd) → GoesOn a x →
      GoesOn a (if b then stops name else x)
  unless_goes true a name x goes = tt
  unless_goes false a name x goes = goes

  if_goes : (b : Bool) (a : Draft) (name : ResultName) (x : ItemEnd) → GoesOn a x →
      GoesOn a (if b then x else stops name)
  if_goes true a name x goes = goes
  if_goes false a name x goes = tt

  onward : (a b : Draft) (x : ItemEnd) → Extends reads seq G a b → GoesOn b x → GoesOn a x
  onward a b (leaves c) one two = extends_further reads seq G a b c one two
  onward a b (stops name) one two = tt

  then_goes : (a : Draft) (x : ItemEnd) (later : Draft → ItemEnd) → GoesOn a x → ((b : Draft) → GoesOn b (later b)) →
      GoesOn a (then_items x later)
  then_goes a (leaves b) later one two = onward a b (later b) one (two b)
  then_goes a (stops name) later one two = tt

module _ (reads : List ℕ → Reading) (seq : ℕ) (e : Engine) (owner : AccountId) where
  item_goes : (position : ℕ) (i : HookItem) (is : List HookItem) (a : Draft) →
      GoesOn reads seq (IsDeleted owner (i ∷ is)) a (item_end e owner position i a)
  item_goes position item.Noop is a = extends_itself reads seq (IsDeleted owner (item.Noop ∷ is)) a
  item_goes position (item.DeleteNamespace namespace) is a =
      all_go reads seq (IsDeleted owner (item.DeleteNamespace namespace ∷ is)) (keys_in owner namespace a.entries) a
      (each-map (IsIn owner namespace) (IsDeleted owner (item.DeleteNamespace namespace ∷ is)) (λ q h. (h.0, inl h.1))
      (keys_in owner namespace a.entries) (keys_are_in owner namespace a.entries))
  item_goes position item.Delete is a =
      install_goes reads seq (IsDeleted owner (item.Delete ∷ is)) owner position a None
  item_goes position (item.Create code version on namespace parameters grants replace) is a =
      unless_goes reads seq (IsDeleted owner (item.Create code version on namespace parameters grants replace ∷ is))
      (is_occupied owner position replace a) a Occupied _
      (created_goes reads seq (IsDeleted owner (item.Create code version on namespace parameters grants replace ∷ is))
      owner position version code (λ hash. entry.Install hash on namespace parameters grants) a (e.checks version code))
  item_goes position (item.Install hash on namespace parameters grants replace) is a =
      unless_goes reads seq (IsDeleted owner (item.Install hash on namespace parameters grants replace ∷ is))
      (is_occupied owner position replace a) a Occupied _
      (if_goes reads seq (IsDeleted owner (item.Install hash on namespace parameters grants replace ∷ is))
      (has_entry a (key.Definition hash)) a NoDefinition _
      (install_goes reads seq (IsDeleted owner (item.Install hash on namespace parameters grants replace ∷ is)) owner
      position a (Some (entry.Install hash on namespace parameters grants))))
  item_goes position (item.Update on namespace parameters grants) is a =
      updated_goes reads seq (IsDeleted owner (item.Update on namespace parameters grants ∷ is)) owner position on
      namespace parameters grants a (get a.entries (key.Install owner position))

  later_goes : (i : HookItem) (is : List HookItem) (a : Draft) (x : ItemEnd) →
      GoesOn reads seq (IsDeleted owner is) a x →
      GoesOn reads seq (IsDeleted owner (i ∷ is)) a x
  later_goes i is a (leaves b) one =
      extends_weaker reads seq (IsDeleted owner is) (IsDeleted owner (i ∷ is)) (λ q h. (h.0, inr h.1)) a b one
  later_goes i is a (stops name) one = tt

  pub items_go : (position : ℕ) (is : List HookItem) (a : Draft) →
      GoesOn reads seq (IsDeleted owner is) a (items_end e owner position is a)
  items_go position [] a = extends_itself reads seq (IsDeleted owner []) a
  items_go position (i ∷ is) a =
      then_goes reads seq (IsDeleted owner (i ∷ is)) a (item_end e owner position i a)
      (items_end e owner (position + 1) is)
      (item_goes position i is a)
      (λ b. later_goes i is b (items_end e owner (position + 1) is b) (items_go (position + 1) is b))

  reserved_goes : (is : List HookItem) (a : Draft) (x : ItemEnd) → GoesOn reads seq (IsDeleted owner is) a x →
      GoesOn reads seq (IsDeleted owner is) a (reserved e owner x)
  reserved_goes is a (leaves b) one =
      unless_goes reads seq (IsDeleted owner is) (is_short e owner b.entries) a Reserve (leaves b) one
  reserved_goes is a (stops name) one = tt

  pub hooks_go : (is : List HookItem) (a : Draft) → GoesOn reads seq (IsDeleted owner is) a (hooks_end e owner is a)
  hooks_go is a = reserved_goes is a (items_end e owner 0 is a) (items_go 0 is a)
