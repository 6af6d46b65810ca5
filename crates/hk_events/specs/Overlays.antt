-- What an overlay's writes are of an event's draft. This project's own.
use Rattle.std.specs.Prelude.{◌≡◌, ℕ, ◌+◌, false, List, [], ◌∷◌, length, Option, Some}
use Rattle.hk_emit.specs.declared.emission.Emission.{Emission}
use Rattle.hk_state.specs.declared.entry.Entry.{Entry}
use Rattle.hk_state.specs.declared.key.Key.{Key}
use Rattle.hk_state.specs.declared.key.Key.TheVariants as key
use Rattle.hk_state.specs.Entries.{Entries, write}
use Rattle.hk_state.specs.Ledger.{LedgerValue, committed}
use Rattle.hk_state.specs.Writes.{Writes, new_writes, written}
use Rattle.hk_state.specs.Writes as writes
use Rattle.hk_draft.specs.Draft.{Draft, draft_on, relisted}
use Rattle.hk_draft.specs.Drafted.{draft_of}
use Rattle.hk_draft.specs.Extends.{is_state}
use Rattle.hk_events.specs.Events.{queued, entered}

-- emissions written under their numbers, the first at `next`
abbrev pub all_queued : Writes → ℕ → List Emission → Writes
all_queued w next [] = w
all_queued w next (e ∷ es) = all_queued (written w (key.Emitted next) (Some (queued e))) (next + 1) es

-- a draft with a change at a key that is no State key
abbrev pub changed : Key → Option Entry → Draft → Draft
changed k change d = record { entries = write d.entries k change; written = d.written; emissions = d.emissions }

pub record OverlaysMean (m : Entries) (w : Writes) (es : List Emission) : Type 0 where
  pub new : draft_of m new_writes [] ≡ draft_on m
  pub entry : (k : Key) (change : Option Entry) → is_state k ≡ false →
      draft_of m (written w k change) es ≡ changed k change (draft_of m w es)
  pub relists : draft_of m (writes.relisted w) es ≡ relisted (draft_of m w es)

-- a commit of the writes and of the queued emissions is what enters the ledger
abbrev pub CommitsSo : Type 0
CommitsSo = (ledger : LedgerValue) (w : Writes) (es : List Emission) (fee : ℕ) →
    committed ledger (all_queued w ledger.next es) (length es) fee ≡ entered ledger (draft_of ledger.entries w es) fee
