-- How much the items of a change of hooks add to a reserve: at most two units each.
use Rattle.std.proofs.Common.{◌≡◌, subst, refl, arith, ℕ, ◌+◌, ◌*◌, ◌≤◌, Bool, true, false, if◌then◌else◌, List, []}
use Rattle.std.proofs.Common.{◌∷◌, length, Option, Some, None}
use Rattle.std.specs.Option.{unwrap_or}
use Rattle.std.specs.FinMap.{get, insert, remove}
use Rattle.hk_base.specs.declared.ids.AccountId.{AccountId}
use Rattle.hk_base.specs.declared.ids.Hash256.{Hash256}
use Rattle.xo_object.specs.declared.transaction.HookItem.{HookItem}
use Rattle.xo_object.specs.declared.transaction.HookItem.TheVariants as item
use Rattle.xo_object.specs.declared.transaction.Grant.{Grant}
use Rattle.xo_object.specs.declared.transaction.Parameter.{Parameter}
use Rattle.hk_lines.specs.declared.result_name.ResultName.TheVariants.{Occupied, NoDefinition}
use Rattle.hk_state.specs.declared.entry.Entry.{Entry}
use Rattle.hk_state.specs.declared.entry.Entry.TheVariants as entry
use Rattle.hk_state.specs.declared.key.Key.{Key}
use Rattle.hk_state.specs.declared.key.Key.TheVariants as key
use Rattle.hk_state.specs.declared.key.StateKey.{StateKey}
use Rattle.hk_state.specs.Entries.{Entries}
use Rattle.hk_state.specs.Keys.{as_key}
use Rattle.hk_state.specs.Reserves.{reserve, units_of, units_in, own_units, is_own, first_install, first_state}
use Rattle.hk_state.specs.Sums.{sum, sum-insert, sum-remove}
use Rattle.hk_draft.specs.Draft.{Draft, erased}
use Rattle.hk_events.specs.Engine.{Checked}
use Rattle.hk_events.specs.Items.{ItemEnd, leaves, stops, item_end, items_end, then_items, all_erased, keys_in}
use Rattle.hk_events.specs.Items.{put_entry, created, defined, has_entry, is_occupied, updated}
use Rattle.hk_items.specs.Checks.{checked_in}
use Rattle.hk_items.specs.Endings.{plain}

owned : (first k : Key) (e : Entry) → own_units first k e ≤ units_in e
owned first k e =
    elim (is_own first k) as (λ b. (if b then units_in e else 0) ≤ units_in e)
    [ true ↦ omega arith | false ↦ omega arith ]

put_grows : (id : AccountId) (m : Entries) (k : Key) (e : Entry) →
    reserve (insert m k e) id ≤ reserve m id + 4000000 * units_in e
put_grows id m k e =
    let more = sum-insert (units_of id) m k e in
    let one = owned (first_install id) k e in
    let other = owned (first_state id) k e in
    omega (arith, more, one, other)

cut_grows : (id : AccountId) (m : Entries) (k : Key) → reserve (remove m k) id ≤ reserve m id
cut_grows id m k = let less = sum-remove (units_of id) m k in omega (arith, less)

erased_grows : (id : AccountId) (qs : List StateKey) (d : Draft) →
    reserve (all_erased qs d).entries id ≤ reserve d.entries id
erased_grows id [] d = omega arith
erased_grows id (q ∷ qs) d =
    let later = erased_grows id qs (erased q d) in
    let now = cut_grows id d.entries (as_key q) in
    omega (arith, later, now)

-- what an end leaves has a reserve of at most so much more
abbrev pub Grows : AccountId → ℕ → Draft → ItemEnd → Type 0
Grows id more d (leaves after) = reserve after.entries id ≤ reserve d.entries id + more
Grows id more d (stops name) = Unit {0}

defined_grows : (id : AccountId) (version : ℕ) (code : List ℕ) (c : Checked) (d : Draft) →
    reserve (defined version code c d).entries id ≤ reserve d.entries id
defined_grows id version code c d =
    elim (has_entry d (key.Definition c.hash)) as
    (λ b. reserve (if b then d else put_entry (key.Definition c.hash)
    (entry.Definition code version c.bound_hook c.bound_cbak) d).entries id ≤ reserve d.entries id) [
      | true ↦ omega arith
      | false ↦ let more =
          put_grows id d.entries (key.Definition c.hash) (entry.Definition code version c.bound_hook c.bound_cbak) in
          omega (arith, more)
    ]

created_grows : (id owner : AccountId) (position version : ℕ) (code : List ℕ) (install : Hash256 → Entry) (d : Draft)
    (found : Option Checked) → ((hash : Hash256) → units_in (install hash) ≡ 1) →
    Grows id 4000000 d (created owner position version code install d found)
created_grows id owner position version code install d None one = tt
created_grows id owner position version code install d (Some c) one =
    let first = defined_grows id version code c d in
    let more = put_grows id (defined version code c d).entries (key.Install owner position) (install c.hash) in
    let unit = one c.hash in
    omega (arith, first, more, unit)

updated_grows : (id owner : AccountId) (position : ℕ) (on namespace : Option Hash256)
    (parameters : Option (List Parameter)) (grants : Option (List Grant)) (d : Draft) (found : Option Entry) →
    Grows id 4000000 d (updated owner position on namespace parameters grants d found)
updated_grows id owner position on namespace parameters grants d None = tt
updated_grows id owner position on namespace parameters grants d (Some (entry.Account balance sequence)) = tt
updated_grows id owner position on namespace parameters grants d (Some (entry.Install hash o n p g)) =
    let more =
    put_grows id d.entries (key.Install owner position)
    (entry.Install hash (unwrap_or on o) (unwrap_or namespace n) (unwrap_or parameters p) (unwrap_or grants g)) in
    omega (arith, more)
updated_grows id owner position on namespace parameters grants d
    (Some (entry.Definition code version bound_hook bound_cbak)) = tt
updated_grows id owner position on namespace parameters grants d (Some (entry.State bytes)) = tt
updated_grows id owner position on namespace parameters grants d
    (Some (entry.Emitted blob hash first last callback)) = tt
updated_grows id owner position on namespace parameters grants d (Some (entry.Other bytes)) = tt

unless_occupied : (id owner : AccountId) (position : ℕ) (replace : Bool) (d : Draft) (other : ItemEnd) →
    Grows id 4000000 d other →
    Grows id 4000000 d (if is_occupied owner position replace d then stops Occupied else other)
unless_occupied id owner position replace d other grows =
    elim (is_occupied owner position replace d) as
    (λ b. Grows id 4000000 d (if b then stops Occupied else other)) [ true ↦ tt | false ↦ grows ]

installed_grows : (id owner : AccountId) (position : ℕ) (d : Draft) (hash : Hash256) (e : Entry) → units_in e ≡ 1 →
    Grows id 4000000 d (if has_entry d (key.Definition hash) then leaves
    (put_entry (key.Install owner position) e d) else stops NoDefinition)
installed_grows id owner position d hash e one =
    elim (has_entry d (key.Definition hash)) as
    (λ b. Grows id 4000000 d (if b then leaves (put_entry (key.Install owner position) e d) else stops NoDefinition)) [
      | true ↦ let more = put_grows id d.entries (key.Install owner position) e in omega (arith, more, one)
      | false ↦ tt
    ]

item_grows : (id owner : AccountId) (position : ℕ) (i : HookItem) (d : Draft) →
    Grows id 4000000 d (item_end plain owner position i d)
item_grows id owner position item.Noop d = omega arith
item_grows id owner position (item.DeleteNamespace namespace) d = let less =
    erased_grows id (keys_in owner namespace d.entries) d in omega (arith, less)
item_grows id owner position item.Delete d = let less = cut_grows id d.entries (key.Install owner position) in
    omega (arith, less)
item_grows id owner position (item.Create code version on namespace parameters grants replace) d =
    unless_occupied id owner position replace d
    (created owner position version code (λ hash. entry.Install hash on namespace parameters grants) d
    (checked_in version code))
    (created_grows id owner position version code (λ hash. entry.Install hash on namespace parameters grants) d
    (checked_in version code) (λ hash. refl))
item_grows id owner position (item.Install hash on namespace parameters grants replace) d =
    unless_occupied id owner position replace d
    (if has_entry d (key.Definition hash) then leaves
    (put_entry (key.Install owner position) (entry.Install hash on namespace parameters grants) d) else stops
    NoDefinition)
    (installed_grows id owner position d hash (entry.Install hash on namespace parameters grants) refl)
item_grows id owner position (item.Update on namespace parameters grants) d =
    updated_grows id owner position on namespace parameters grants d (get d.entries (key.Install owner position))

further : (id : AccountId) (some more : ℕ) (d after : Draft) (end : ItemEnd) →
    reserve after.entries id ≤ reserve d.entries id + some →
    Grows id more after end → Grows id (some + more) d end
further id some more d after (leaves last) one other = omega (arith, one, other)
further id some more d after (stops name) one other = tt

both : (id : AccountId) (some more : ℕ) (d : Draft) (end : ItemEnd) (later : Draft → ItemEnd) → Grows id some d end →
    ((after : Draft) → Grows id more after (later after)) → Grows id (some + more) d (then_items end later)
both id some more d (leaves after) later one others = further id some more d after (later after) one (others after)
both id some more d (stops name) later one others = tt

pub items_grow : (id owner : AccountId) (position : ℕ) (items : List HookItem) (d : Draft) →
    Grows id (4000000 * length items) d (items_end plain owner position items d)
items_grow id owner position [] d = omega arith
items_grow id owner position (i ∷ is) d =
    subst (λ more. Grows id more d (items_end plain owner position (i ∷ is) d))
    (let e : 4000000 + 4000000 * length is ≡ 4000000 * length (i ∷ is) = omega arith in e)
    (both id 4000000 (4000000 * length is) d (item_end plain owner position i d)
    (items_end plain owner (position + 1) is) (item_grows id owner position i d)
    (items_grow id owner (position + 1) is))
