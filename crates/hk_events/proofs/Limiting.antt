-- Reserves and numbers stay within their limits.
use Rattle.std.proofs.Common.{◌≡◌, ℕ, ◌+◌, ◌*◌, ◌≤◌, Bool, true, false, cond, ◌||◌, ◌&&◌, if◌then◌else◌, List, [], ◌∷◌}
use Rattle.std.proofs.Common.{length, refl, sym, ap, ◌∙◌, arith, Option, Some, None}
use Rattle.std.specs.Str.{bytes_eq}
use Rattle.std.specs.FinMap.{get}
use Rattle.std.proofs.lemmas.Bool.{ltb-false, or_parts}
use Rattle.hk_base.specs.declared.ids.AccountId.{AccountId}
use Rattle.hk_base.specs.declared.ids.Hash256.{Hash256}
use Rattle.xo_object.specs.declared.transaction.Grant.{Grant}
use Rattle.xo_object.specs.declared.transaction.HookItem.{HookItem}
use Rattle.xo_object.specs.declared.transaction.HookItem.TheVariants as item
use Rattle.xo_object.specs.declared.transaction.Parameter.{Parameter}
use Rattle.hk_lines.specs.declared.output_line.OutputLine.{OutputLine}
use Rattle.hk_lines.specs.declared.result_name.ResultName.{ResultName}
use Rattle.hk_lines.specs.declared.result_name.ResultName.TheVariants.{Occupied, NoDefinition, Reserve}
use Rattle.hk_reading.specs.declared.reading.Reading.{Reading}
use Rattle.hk_state.specs.declared.entry.Entry.{Entry}
use Rattle.hk_state.specs.declared.entry.Entry.TheVariants as entry
use Rattle.hk_state.specs.declared.entry.Holding.{Holding}
use Rattle.hk_state.specs.declared.key.Key.{Key}
use Rattle.hk_state.specs.declared.key.Key.TheVariants as key
use Rattle.hk_state.specs.declared.key.StateKey.{StateKey}
use Rattle.hk_state.specs.Keys.{is_key, as_key, exact}
use Rattle.hk_state.specs.Least.{is_from}
use Rattle.hk_state.specs.Entries.{Entries, write, get-write}
use Rattle.hk_state.specs.Holdings.{holding_at}
use Rattle.hk_state.specs.Balances.{balances, held_most}
use Rattle.hk_state.specs.Reserves.{reserve, units_of, first_install, first_state, are_beside, own_units, units_in}
use Rattle.hk_state.specs.Reserves.{may_change, base_reserve, unit_reserve}
use Rattle.hk_state.specs.Sums.{part, sum-alike}
use Rattle.hk_draft.specs.Lists.{Each}
use Rattle.hk_draft.specs.Draft.{Draft, erased}
use Rattle.hk_draft.specs.Ends.{ChainEnd, kept, rejected, ChainFits}
use Rattle.hk_draft.proofs.Granted.{same_account}
use Rattle.hk_events.specs.Whole.{is_account}
use Rattle.hk_events.specs.Engine.{Engine, Checked}
use Rattle.hk_events.specs.Chains.{behind, onward, chains}
use Rattle.hk_events.specs.Limits.{most_number, owns, RestsOnOwn, AreWithin, Fit}
use Rattle.hk_events.specs.Items.{ItemEnd, leaves, stops, put_entry, keys_in, all_erased, has_entry, is_occupied}
use Rattle.hk_events.specs.Items.{defined, created, updated, item_end, then_items, items_end, balance_of, is_short}
use Rattle.hk_events.specs.Items.{reserved, hooks_end}
use Rattle.hk_events.proofs.Changing.{IsIn, keys_are_in, IsDeleted, GoesOn, items_go}
use Rattle.hk_events.proofs.Queueing.{is_numbered}

-- a key that an account doesn't own isn't one that it owns
apart_own : (id : AccountId) (k other : Key) → owns id k ≡ true → owns id other ≡ false → (b : Bool) →
    is_key k other ≡ b → b ≡ false
apart_own id k other own not true same =
    let bad : true ≡ false = sym own ∙ ap (owns id) (exact k other same) ∙ not in cc
apart_own id k other own not false same = refl

-- what items leave of reserves, and of emissions
abbrev pub ReservesEnd : (Entries → AccountId → ℕ) → ℕ → Draft → ItemEnd → Type 0
ReservesEnd of most a (leaves b) = AreWithin of most a.entries → AreWithin of most b.entries
ReservesEnd of most a (stops name) = Unit {0}

abbrev pub EmitsEnd : Draft → ItemEnd → Type 0
EmitsEnd a (leaves b) = b.emissions ≡ a.emissions
EmitsEnd a (stops name) = Unit {0}

emits_unless : (short : Bool) (name : ResultName) (a : Draft) (x : ItemEnd) → EmitsEnd a x →
    EmitsEnd a (if short then stops name else x)
emits_unless true name a x so = tt
emits_unless false name a x so = so

-- what all other accounts own stays, and the emissions too
record Leaves (owner : AccountId) (a b : Draft) : Type 0 where
  pub own : (id : AccountId) → bytes_eq id.0 owner.0 ≡ false → (k : Key) → owns id k ≡ true →
      get b.entries k ≡ get a.entries k
  pub emissions : b.emissions ≡ a.emissions

module _ (owner : AccountId) where
  leaves_itself : (a : Draft) → Leaves owner a a
  leaves_itself a = record { own = λ id apart k h. refl; emissions = refl }

  leaves_further : (a b c : Draft) → Leaves owner a b → Leaves owner b c → Leaves owner a c
  leaves_further a b c one two = record {
    own = λ id apart k h. two.own id apart k h ∙ one.own id apart k h;
    emissions = two.emissions ∙ one.emissions;
  }

  leaves_write : (a : Draft) (other : Key) (change : Option Entry) (written : List StateKey) →
      ((id : AccountId) → bytes_eq id.0 owner.0 ≡ false → owns id other ≡ false) →
      Leaves owner a (record { entries = write a.entries other change; written = written; emissions = a.emissions })
  leaves_write a other change written not = record {
    own =
        λ id apart k h.
        get-write a.entries other change k
        ∙ ap (λ b. cond b change (get a.entries k)) (apart_own id k other h (not id apart) (is_key k other) refl);
    emissions = refl;
  }

  module _ (e : Engine) where
    install_apart : (position : ℕ) (id : AccountId) → bytes_eq id.0 owner.0 ≡ false →
        owns id (key.Install owner position) ≡ false
    install_apart position id apart = ap (λ b. b || false) apart

    state_apart : (q : StateKey) → owner ≡ q.owner → (id : AccountId) → bytes_eq id.0 owner.0 ≡ false →
        owns id (as_key q) ≡ false
    state_apart q own id apart = ap (λ o. bytes_eq id.0 o.0) (sym own) ∙ apart

    abbrev LeavesEnd : Draft → ItemEnd → Type 0
    LeavesEnd a (leaves b) = Leaves owner a b
    LeavesEnd a (stops name) = Unit {0}

    unless_leaves : (b : Bool) (a : Draft) (name : ResultName) (x : ItemEnd) → LeavesEnd a x →
        LeavesEnd a (if b then stops name else x)
    unless_leaves true a name x so = tt
    unless_leaves false a name x so = so

    if_leaves : (b : Bool) (a : Draft) (name : ResultName) (x : ItemEnd) → LeavesEnd a x →
        LeavesEnd a (if b then x else stops name)
    if_leaves true a name x so = so
    if_leaves false a name x so = tt

    erased_leaves : (qs : List StateKey) (namespace : Hash256) (a : Draft) → Each (IsIn owner namespace) qs →
        Leaves owner a (all_erased qs a)
    erased_leaves [] namespace a are = leaves_itself a
    erased_leaves (q ∷ qs) namespace a are =
        leaves_further a (erased q a) (all_erased qs (erased q a))
        (leaves_write a (as_key q) None (erased q a).written (state_apart q are.0.0))
        (erased_leaves qs namespace (erased q a) are.1)

    defined_leaves : (version : ℕ) (code : List ℕ) (c : Checked) (a : Draft) → Leaves owner a (defined version code c a)
    defined_leaves version code c a =
        elim (has_entry a (key.Definition c.hash)) as (λ b.
        Leaves owner a (if b then a
        else put_entry (key.Definition c.hash) (entry.Definition code version c.bound_hook c.bound_cbak) a)) [
          | true ↦ leaves_itself a
          | false ↦
              leaves_write a (key.Definition c.hash) (Some (entry.Definition code version c.bound_hook c.bound_cbak))
              a.written (λ id apart. refl)
        ]

    created_leaves : (position version : ℕ) (code : List ℕ) (install : Hash256 → Entry) (a : Draft) (c : Option Checked)
        →
        LeavesEnd a (created owner position version code install a c)
    created_leaves position version code install a None = tt
    created_leaves position version code install a (Some c) =
        leaves_further a (defined version code c a)
        (put_entry (key.Install owner position) (install c.hash) (defined version code c a))
        (defined_leaves version code c a)
        (leaves_write (defined version code c a) (key.Install owner position) (Some (install c.hash))
        (defined version code c a).written (install_apart position))

    updated_leaves : (position : ℕ) (on namespace : Option Hash256) (parameters : Option (List Parameter))
        (grants : Option (List Grant)) (a : Draft) (found : Option Entry) →
        LeavesEnd a (updated owner position on namespace parameters grants a found)
    updated_leaves position on namespace parameters grants a
        (Some (entry.Install hash was_on was_namespace was_parameters was_grants)) =
        leaves_write a (key.Install owner position) (Some _) a.written (install_apart position)
    updated_leaves position on namespace parameters grants a other = tt

    item_leaves : (position : ℕ) (i : HookItem) (a : Draft) → LeavesEnd a (item_end e owner position i a)
    item_leaves position item.Noop a = leaves_itself a
    item_leaves position (item.DeleteNamespace namespace) a =
        erased_leaves (keys_in owner namespace a.entries) namespace a (keys_are_in owner namespace a.entries)
    item_leaves position item.Delete a =
        leaves_write a (key.Install owner position) None a.written (install_apart position)
    item_leaves position (item.Create code version on namespace parameters grants replace) a =
        unless_leaves (is_occupied owner position replace a) a Occupied _ (created_leaves position version code
        (λ hash. entry.Install hash on namespace parameters grants) a (e.checks version code))
    item_leaves position (item.Install hash on namespace parameters grants replace) a =
        unless_leaves (is_occupied owner position replace a) a Occupied _
        (if_leaves (has_entry a (key.Definition hash)) a NoDefinition _ (leaves_write a (key.Install owner position)
        (Some (entry.Install hash on namespace parameters grants)) a.written (install_apart position)))
    item_leaves position (item.Update on namespace parameters grants) a =
        updated_leaves position on namespace parameters grants a (get a.entries (key.Install owner position))

    onward_leaves : (a b : Draft) (x : ItemEnd) → Leaves owner a b → LeavesEnd b x → LeavesEnd a x
    onward_leaves a b (leaves c) one two = leaves_further a b c one two
    onward_leaves a b (stops name) one two = tt

    then_leaves : (a : Draft) (x : ItemEnd) (later : Draft → ItemEnd) → LeavesEnd a x →
        ((b : Draft) → LeavesEnd b (later b)) → LeavesEnd a (then_items x later)
    then_leaves a (leaves b) later one two = onward_leaves a b (later b) one (two b)
    then_leaves a (stops name) later one two = tt

    items_leave : (position : ℕ) (is : List HookItem) (a : Draft) → LeavesEnd a (items_end e owner position is a)
    items_leave position [] a = leaves_itself a
    items_leave position (i ∷ is) a =
        then_leaves a (item_end e owner position i a) (items_end e owner (position + 1) is) (item_leaves position i a)
        (items_leave (position + 1) is)

    reserved_emits : (a : Draft) (x : ItemEnd) → LeavesEnd a x → EmitsEnd a (reserved e owner x)
    reserved_emits a (leaves b) one = emits_unless (is_short e owner b.entries) Reserve a (leaves b) one.emissions
    reserved_emits a (stops name) one = tt

    pub hooks_emit : (is : List HookItem) (a : Draft) → EmitsEnd a (hooks_end e owner is a)
    hooks_emit is a = reserved_emits a (items_end e owner 0 is a) (items_leave 0 is a)

    -- all items: other accounts' reserves stay, and the owner's is covered
    module _ (rests : RestsOnOwn e.reserve) (most : ℕ) where
      held_within : (m : Entries) (id : AccountId) (found : Option Holding) → holding_at m id ≡ found →
          balance_of found ≤ balances m
      held_within m id None at = omega arith
      held_within m id (Some h) at = held_most m id h at

      within_by : (a b : Draft) → Leaves owner a b → is_short e owner b.entries ≡ false → balances b.entries ≤ most →
          AreWithin e.reserve most a.entries → (id : AccountId) (same : Bool) →
          bytes_eq id.0 owner.0 ≡ same → e.reserve b.entries id ≤ most
      within_by a b one covered sum within id true is =
          let own : e.reserve b.entries id ≡ e.reserve b.entries owner =
          ap (e.reserve b.entries) (same_account id owner is) in
          let enough = ltb-false (balance_of (holding_at b.entries owner)) (e.reserve b.entries owner) covered in
          let held = held_within b.entries owner (holding_at b.entries owner) refl in
          omega (arith, own, enough, held, sum)
      within_by a b one covered sum within id false is =
          let same = rests a.entries b.entries id (one.own id is) in let old = within id in omega (arith, same, old)

      short_by : (a b : Draft) → Leaves owner a b → balances b.entries ≤ most → (short : Bool) →
          is_short e owner b.entries ≡ short → ReservesEnd e.reserve most a (if short then stops Reserve else leaves b)
      short_by a b one sum true is = tt
      short_by a b one sum false is = λ within id. within_by a b one is sum within id (bytes_eq id.0 owner.0) refl

      module _ (reads : List ℕ → Reading) (seq : ℕ) (G : StateKey → Type 0) where
        ends_within : (a : Draft) (x : ItemEnd) → balances a.entries ≤ most → LeavesEnd a x → GoesOn reads seq G a x →
            ReservesEnd e.reserve most a (reserved e owner x)
        ends_within a (leaves b) fits one goes =
            let sum = goes.sum in short_by a b one (omega (arith, sum, fits)) (is_short e owner b.entries) refl
        ends_within a (stops name) fits one goes = tt

      pub hooks_within : (reads : List ℕ → Reading) (seq : ℕ) (is : List HookItem) (a : Draft) →
          balances a.entries ≤ most → ReservesEnd e.reserve most a (hooks_end e owner is a)
      hooks_within reads seq is a fits =
          ends_within reads seq (IsDeleted owner is) a (items_end e owner 0 is a) fits (items_leave 0 is a)
          (items_go reads seq e owner 0 is a)

-- what a draft leaves of the limits of the entries m
pub record IsLimited (e : Engine) (next : ℕ) (m : Entries) (d : Draft) : Type 0 where
  pub within : (most : ℕ) → balances m ≤ most → AreWithin e.reserve most m → AreWithin e.reserve most d.entries
  pub room : next ≤ most_number → next + length d.emissions ≤ most_number

-- chains of both sides
abbrev SumFit : Draft → ChainEnd → Type 0
SumFit a (kept b records) = balances b.entries ≡ balances a.entries
SumFit a (rejected records) = Unit {0}

sum_fit : (reads : List ℕ → Reading) (seq : ℕ) (before : Entries) (a : Draft) (x : ChainEnd) →
    ChainFits reads seq before a x → SumFit a x
sum_fit reads seq before a (kept b records) fits = fits.extends.sum
sum_fit reads seq before a (rejected records) fits = tt

module _ (e : Engine) (next : ℕ) where
  behind_measured : (a b : Draft) (records : List OutputLine) → Fit e next a (kept b records) →
      balances b.entries ≡ balances a.entries → (x : ChainEnd) →
      Fit e next b x → Fit e next a (behind records x)
  behind_measured a b records one sum (kept c more) two =
      (λ most fits within. two.0 most (omega (arith, sum, fits)) (one.0 most fits within), λ room. two.1 (one.1 room))
  behind_measured a b records one sum (rejected more) two = (tt, tt)

  onward_measured : (a : Draft) (x : ChainEnd) (later : Draft → ChainEnd) → Fit e next a x → SumFit a x →
      ((b : Draft) → Fit e next b (later b)) → Fit e next a (onward x later)
  onward_measured a (kept b records) later one sum two = behind_measured a b records one sum (later b) (two b)
  onward_measured a (rejected records) later one sum two = (tt, tt)

  module _ (reads : List ℕ → Reading) (seq : ℕ) (before : Entries) (chain : AccountId → Draft → ChainEnd)
      (fits : (account : AccountId) (a : Draft) → ChainFits reads seq before a (chain account a))
      (measured : (account : AccountId) (a : Draft) → Fit e next a (chain account a)) where
    pub chains_measured : (accounts : List AccountId) (a : Draft) → Fit e next a (chains chain accounts a)
    chains_measured [] a = (λ most sum within. within, λ room. room)
    chains_measured (account ∷ accounts) a =
        onward_measured a (chain account a) (chains chain accounts) (measured account a)
        (sum_fit reads seq before a (chain account a) (fits account a)) (chains_measured accounts)

-- what an account owns is no Account entry, no emission, and none that rules change
pub own_account : (id : AccountId) (k : Key) → owns id k ≡ true → (sender : Option AccountId) →
    is_account k sender ≡ false
own_account id (key.Install owner position) h None = refl
own_account id (key.Install owner position) h (Some account) = refl
own_account id (key.State owner namespace k) h None = refl
own_account id (key.State owner namespace k) h (Some account) = refl
own_account id (key.Account owner) h sender = cc
own_account id (key.Definition hash) h sender = cc
own_account id (key.Emitted n) h sender = cc
own_account id (key.Other bytes) h sender = cc

pub own_number : (id : AccountId) (k : Key) → owns id k ≡ true → is_numbered k ≡ false
own_number id (key.Install owner position) h = refl
own_number id (key.State owner namespace k) h = refl
own_number id (key.Account owner) h = refl
own_number id (key.Definition hash) h = refl
own_number id (key.Emitted n) h = cc
own_number id (key.Other bytes) h = refl

pub own_ruled : (id : AccountId) (k : Key) → owns id k ≡ true → may_change k ≡ false
own_ruled id (key.Install owner position) h = refl
own_ruled id (key.State owner namespace k) h = refl
own_ruled id (key.Account owner) h = cc
own_ruled id (key.Definition hash) h = refl
own_ruled id (key.Emitted n) h = refl
own_ruled id (key.Other bytes) h = cc

pub same_within : (of : Entries → AccountId → ℕ) → RestsOnOwn of → (most : ℕ) (m n : Entries) →
    ((id : AccountId) (k : Key) → owns id k ≡ true → get n k ≡ get m k) →
    AreWithin of most m → AreWithin of most n
same_within of rests most m n same within id =
    let alike = rests m n id (same id) in let old = within id in omega (arith, alike, old)

-- the reserve of the ledger rests on what an account owns
none_own : (first k : Key) (x : Entry) (b c : Bool) → are_beside first k ≡ c → c ≡ false →
    (if b && c then units_in x else 0) ≡ 0
none_own first k x true true is h = cc
none_own first k x true false is h = refl
none_own first k x false c is h = refl

no_units : (id : AccountId) (k : Key) (found : Option Entry) → owns id k ≡ false → part (units_of id) k found ≡ 0
no_units id k None h = refl
no_units id k (Some x) h =
    let parts = or_parts (are_beside (first_install id) k) (are_beside (first_state id) k) h in
    let one : own_units (first_install id) k x ≡ 0 =
    none_own (first_install id) k x (is_from (first_install id) k) (are_beside (first_install id) k) refl parts.0 in
    let two : own_units (first_state id) k x ≡ 0 =
    none_own (first_state id) k x (is_from (first_state id) k) (are_beside (first_state id) k) refl parts.1 in
    omega (arith, one, two)

pub reserve_rests : RestsOnOwn reserve
reserve_rests m n id same =
    ap (λ owned. base_reserve + unit_reserve * owned) (sum-alike (units_of id) (units_of id) n m (λ q.
    elim (owns id q) as (λ b. owns id q ≡ b → part (units_of id) q (get n q) ≡ part (units_of id) q (get m q)) [
      | true ↦ λ h. ap (part (units_of id) q) (same q h)
      | false ↦ λ h. no_units id q (get n q) h ∙ sym (no_units id q (get m q) h)
    ] refl))
