-- Laws of drafts.
use Rattle.std.specs.Prelude.{◌≡◌, ℕ, ◌<◌, ◌≤◌, ◌^◌, true, List, Some}
use Rattle.std.specs.FinMap.{get}
use Rattle.hk_base.specs.declared.ids.AccountId.{AccountId}
use Rattle.hk_base.specs.declared.ids.Hash256.{Hash256}
use Rattle.hk_lines.specs.declared.output_line.OutputLine.{OutputLine}
use Rattle.hk_reading.specs.declared.reading.Reading.{Reading}
use Rattle.hk_emit.specs.declared.context.EmitContext.{EmitContext}
use Rattle.hk_emit.specs.declared.emission.Emission.{Emission}
use Rattle.hk_emit.specs.Accepted.{accepted}
use Rattle.hk_state.specs.declared.key.Key.TheVariants as key
use Rattle.hk_state.specs.declared.key.StateKey.{StateKey}
use Rattle.hk_state.specs.Keys.{as_key}
use Rattle.hk_state.specs.Entries.{Entries}
use Rattle.hk_state.specs.Grants.{may_write}
use Rattle.hk_state.specs.Writes.{Writes, written}
use Rattle.hk_draft.specs.Draft.{Draft, change_to, write_state, emits_too}
use Rattle.hk_draft.specs.Drafted.{draft_of}
use Rattle.hk_draft.specs.Extends.{Extends, Emits}
use Rattle.hk_draft.specs.Reads.{reads_emitted}
use Rattle.hk_draft.specs.Writers.{MayWrite, MayWriteBy, IsWriter, HookRan, hash_of}

-- what the test lets through is granted
abbrev pub TestedMayWrite : Type 0
TestedMayWrite = (m : Entries) (hash : Hash256) (actor owner : AccountId) (namespace : Hash256) →
    may_write m hash actor owner namespace ≡ true → MayWrite m hash actor owner namespace

-- an overlay's write is its draft's
abbrev pub WritesSo : Type 0
WritesSo = (m : Entries) (w : Writes) (es : List Emission) (q : StateKey) (bytes : List ℕ) →
    draft_of m (written w (as_key q) (change_to bytes)) es ≡ write_state q bytes (draft_of m w es)

-- what is accepted as an emission may wait in the queue
abbrev pub AcceptedEmits : Type 0
AcceptedEmits = (blob : List ℕ) (context : EmitContext) (nonces : List Hash256) (e : Emission) →
    1 ≤ context.generation → context.generation < 2 ^ 32 → context.burden < 2 ^ 63 →
    accepted blob context nonces ≡ Some e →
    Emits reads_emitted context.seq e

-- under the grounds of one hook a draft goes on from itself, two steps are one, and it goes on by a write that the
-- grounds allow and by an emission
pub record GoesOn (reads : List ℕ → Reading) (seq : ℕ) (m : Entries) (hash : Hash256) (account : AccountId) :
    Type 0 where
  pub itself : (a : Draft) → Extends reads seq (MayWriteBy m hash account) a a
  pub further : (a b c : Draft) → Extends reads seq (MayWriteBy m hash account) a b →
      Extends reads seq (MayWriteBy m hash account) b c → Extends reads seq (MayWriteBy m hash account) a c
  pub state : (a : Draft) (q : StateKey) (bytes : List ℕ) → MayWriteBy m hash account q →
      Extends reads seq (MayWriteBy m hash account) a (write_state q bytes a)
  pub emission : (a : Draft) (e : Emission) → Emits reads seq e →
      Extends reads seq (MayWriteBy m hash account) a (emits_too e a)

abbrev pub DraftsGoOn : Type 0
DraftsGoOn = (reads : List ℕ → Reading) (seq : ℕ) (m : Entries) (hash : Hash256) (account : AccountId) →
    GoesOn reads seq m hash account

-- a hook's own run, once its line is there, is a chain's
abbrev pub RunsChain : Type 0
RunsChain = (reads : List ℕ → Reading) (seq : ℕ) (m : Entries) (hash : Hash256) (account : AccountId) (position : ℕ)
    (records : List OutputLine) (a b : Draft) → HookRan records account position →
    hash_of (get m (key.Install account position)) ≡ Some hash → Extends reads seq (MayWriteBy m hash account) a b →
    Extends reads seq (IsWriter m (HookRan records)) a b
