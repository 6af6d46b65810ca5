-- What hooks keep of the limits of ledgers, whatever they call. This project's own.
use Rattle.std.specs.Prelude.{◌≡◌, ℕ, ◌+◌, ◌≤◌, length}
use Rattle.hk_state.specs.Balances.{balances}
use Rattle.hk_state.specs.Reserves.{reserve}
use Rattle.hk_draft.specs.Draft.{Draft}
use Rattle.hk_draft.specs.Ends.{ChainEnd, kept, rejected}
use Rattle.hk_api.specs.HostState.{HostState}
use Rattle.hk_events.specs.Complete.{AreSized}
use Rattle.hk_events.specs.Limits.{AreWithin, most_number}

-- from one draft to the next, where `next` is the number of the next emission as the event began: State entries that
-- are sized stay so, no drop comes or goes, reserves stay within what there is of drops, and numbers are left for all
-- emissions
pub record KeepsLimits (next : ℕ) (a b : Draft) : Type 0 where
  pub sizes : AreSized a.entries → AreSized b.entries
  pub sum : balances b.entries ≡ balances a.entries
  pub reserves : (most : ℕ) → balances a.entries ≤ most → AreWithin reserve most a.entries →
      AreWithin reserve most b.entries
  pub room : next + length a.emissions ≤ most_number → next + length b.emissions ≤ most_number

-- a call keeps these limits, and that number
pub record CallKeeps (h after : HostState) : Type 0 where
  pub next : after.next ≡ h.next
  pub limits : KeepsLimits h.next h.draft after.draft

-- what is kept at the end of a chain or a callback
abbrev pub EndKeeps : ℕ → Draft → ChainEnd → Type 0
EndKeeps next a (kept b records) = KeepsLimits next a b
EndKeeps next a (rejected records) = Unit {0}
