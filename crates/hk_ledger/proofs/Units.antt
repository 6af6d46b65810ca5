-- What hooks keep on a whole ledger counts in reserves.
use Rattle.std.proofs.Common.{ℕ, ◌≤◌, arith, List, Option}
use Rattle.hk_base.specs.declared.ids.AccountId.{AccountId}
use Rattle.hk_state.specs.declared.entry.Entry.{Entry}
use Rattle.hk_state.specs.declared.entry.Entry.TheVariants as entry
use Rattle.hk_state.specs.Entries.{Entries}
use Rattle.hk_state.specs.Reserves.{units_in}
use Rattle.hk_events.specs.Complete.{IsComplete, IsInstall, IsSized}
use Rattle.hk_events.specs.Engine.{Checked}
use Rattle.hk_final.specs.Reserved.{AreUnits}

installed : (m : Entries) (owner : AccountId) (position : ℕ) (e : Entry) → IsInstall m owner position e → 1 ≤ units_in e
installed m owner position (entry.Install hash on namespace parameters grants) is = omega arith
installed m owner position e is = absurd is

sized : (e : Entry) → IsSized e → 1 ≤ units_in e
sized (entry.State bytes) is = let some = is.0 in omega (arith, some)
sized e is = absurd is

pub complete_units : (checks : ℕ → List ℕ → Option Checked) (m : Entries) → IsComplete checks m → AreUnits m
complete_units checks m are = record {
  installs = λ id position e at. installed m id position e (are.installs id position e at);
  states = λ id namespace k e at. (sized e (are.states (record { owner = id; namespace = namespace; key = k }) e at).0);
}
