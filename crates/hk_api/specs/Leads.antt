-- What all calls keep. This project's own.
use Rattle.std.specs.Prelude.{◌≡◌, ℕ, List, length}
use Rattle.hk_draft.specs.Extends.{Extends, KeepsOthers}
use Rattle.hk_draft.specs.Reads.{reads_emitted}
use Rattle.hk_draft.specs.Writers.{MayWriteBy}
use Rattle.hk_api.specs.HostState.{HostState}
use Rattle.hk_api.specs.Table.{answers}

-- where the hook runs and what the event began with stay, the draft goes on under the hook's own grounds, and State
-- keys alone change
pub record Leads (h after : HostState) : Type 0 where
  pub setting : after.setting ≡ h.setting
  pub place : after.place ≡ h.place
  pub before : after.before ≡ h.before
  pub next : after.next ≡ h.next
  pub extends : Extends reads_emitted h.setting.header.seq (MayWriteBy h.before h.place.hash h.place.account)
      h.draft after.draft
  pub others : KeepsOthers h.draft.entries after.draft.entries

abbrev pub CallsLead : Type 0
CallsLead = (h : HostState) (row : ℕ) (arguments memory : List ℕ) → Leads h (answers h row arguments memory).after

-- a call keeps the memory's length
abbrev pub CallsKeepLength : Type 0
CallsKeepLength = (h : HostState) (row : ℕ) (arguments memory : List ℕ) →
    length (answers h row arguments memory).memory ≡ length memory
