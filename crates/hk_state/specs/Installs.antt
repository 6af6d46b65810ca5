-- Where an account's next hook stands, from a position on. This project's own.
use Rattle.std.specs.Prelude.{◌≡◌, ◌≢◌, ℕ, ◌≤◌, ◌<◌, Option, Some, None}
use Rattle.std.specs.FinMap.{get}
use Rattle.hk_base.specs.declared.ids.AccountId.{AccountId}
use Rattle.hk_state.specs.declared.key.Key.TheVariants as key
use Rattle.hk_state.specs.Entries.{Entries}

-- an Install at a position, and none from one position up to that
pub record IsFirst (m : Entries) (id : AccountId) (from position : ℕ) : Type 0 where
  pub from_there : from ≤ position
  pub there : get m (key.Install id position) ≢ None
  pub none_before : (p : ℕ) → from ≤ p → p < position → get m (key.Install id p) ≡ None

-- the first Install from a position on, or that there is none
abbrev pub IsNext : Entries → AccountId → ℕ → Option ℕ → Type 0
IsNext m id from None = (p : ℕ) → from ≤ p → get m (key.Install id p) ≡ None
IsNext m id from (Some position) = IsFirst m id from position
