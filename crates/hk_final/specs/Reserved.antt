-- What an account's line counts, in its reserve. This project's own.
use Rattle.std.specs.Prelude.{◌≡◌, ℕ, ◌+◌, ◌*◌, ◌<◌, ◌≤◌, ◌^◌, Some}
use Rattle.std.specs.FinMap.{get}
use Rattle.hk_base.specs.declared.ids.AccountId.{AccountId}
use Rattle.hk_base.specs.declared.ids.Hash256.{Hash256}
use Rattle.hk_state.specs.declared.entry.Entry.{Entry}
use Rattle.hk_state.specs.declared.key.Key.TheVariants as key
use Rattle.hk_state.specs.Entries.{Entries}
use Rattle.hk_state.specs.Reserves.{reserve, base_reserve, unit_reserve, units_in}
use Rattle.hk_final.specs.Final.{AreFew, hooks_of, states_of}

-- an Install or a State entry is a unit of the reserve, or more
pub record AreUnits (m : Entries) : Type 0 where
  pub installs : (id : AccountId) (position : ℕ) (e : Entry) → get m (key.Install id position) ≡ Some e →
      1 ≤ units_in e
  pub states : (id : AccountId) (namespace k : Hash256) (e : Entry) → get m (key.State id namespace k) ≡ Some e →
      1 ≤ units_in e

-- then an account's reserve has a unit for each hook and each state that its line counts
abbrev pub PaysForAll : Type 0
PaysForAll = (m : Entries) (id : AccountId) → AreUnits m →
    base_reserve + unit_reserve * (hooks_of m id + states_of m id) ≤ reserve m id

-- so these are few, where reserves are numbers of 64 bits
abbrev pub FewByReserves : Type 0
FewByReserves = (m : Entries) → AreUnits m → ((id : AccountId) → reserve m id < 2 ^ 64) → AreFew m
