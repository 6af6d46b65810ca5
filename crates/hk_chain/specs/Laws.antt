-- Laws of the definitions (this project's own).
use Rattle.std.specs.Prelude.{◌≡◌, ℕ, ◌<◌, ◌≤◌, true, false, List, length, Option, Some}
use Rattle.std.specs.FinMap.{get}
use Rattle.hk_base.specs.declared.ids.AccountId.{AccountId}
use Rattle.hk_base.specs.declared.ids.Hash256.{Hash256}
use Rattle.xo_object.specs.declared.transaction.Grant.{Grant}
use Rattle.xo_object.specs.declared.transaction.Parameter.{Parameter}
use Rattle.hk_bound.specs.Bounds.{export_bound}
use Rattle.hk_bound.specs.Checks.{IsHook}
use Rattle.hk_bound.specs.declared.fault.Export.{Export}
use Rattle.hk_bound.specs.declared.fault.Export.TheVariants.{Hook, Cbak}
use Rattle.wa_exec.specs.Runs.{named}
use Rattle.wa_ops.specs.declared.modules.Module.{Module}
use Rattle.hk_lines.specs.declared.output_line.OutputLine.{OutputLine}
use Rattle.hk_lines.specs.declared.output_line.OutputLine.TheVariants as printed
use Rattle.hk_state.specs.declared.entry.Entry.TheVariants as entry
use Rattle.hk_state.specs.declared.key.Key.TheVariants as key
use Rattle.hk_state.specs.Entries.{Entries}
use Rattle.hk_state.specs.Fees.{positions}
use Rattle.hk_state.specs.Firing.{fires}
use Rattle.hk_draft.specs.Draft.{Draft}
use Rattle.hk_draft.specs.Ends.{ChainEnd, kept, rejected, ChainFits, CallbackFits}
use Rattle.hk_draft.specs.Lists.{Each}
use Rattle.hk_draft.specs.Reads.{reads_emitted}
use Rattle.hk_api_parts.specs.declared.setting.Setting.{Setting}
use Rattle.hk_api_parts.specs.Skips.{is_skipped}
use Rattle.hk_api.specs.HostState.{HostState}
use Rattle.hk_chain.specs.Calls.{hook_answers}
use Rattle.hk_chain.specs.Plays.{Passing, Play, idle, plays, stored_bound}
use Rattle.hk_chain.specs.Chain.{chain_of, play_at}
use Rattle.hk_chain.specs.Callback.{callback_of, callback_at}
use Rattle.hk_chain.specs.Programs.{AreStored}

-- a call keeps the memory's length
abbrev pub CallsKeepLength : Type 0
CallsKeepLength = (h : HostState) (row : ℕ) (arguments memory : List ℕ) →
    length (hook_answers h row arguments memory).memory ≡ length memory

-- what a chain owes its event
abbrev pub ChainsFit : Type 0
ChainsFit = (setting : Setting) (number : ℕ) (before : Entries) (account : AccountId) (d : Draft) →
    ChainFits reads_emitted setting.header.seq before d (chain_of setting number before account d)

-- what a callback owes its event
abbrev pub CallbacksFit : Type 0
CallbacksFit = (setting : Setting) (number : ℕ) (before : Entries) (account : AccountId) (hash : Hash256)
    (argument : ℕ) (d : Draft) →
    CallbackFits reads_emitted setting.header.seq before d (callback_of setting number before account hash argument d)

abbrev pub lines_of : ChainEnd → List OutputLine
lines_of (kept d records) = records
lines_of (rejected records) = records

-- ---- lines

-- the line of a hook at a position of the account, and of a callback there
abbrev pub IsHookOn : AccountId → OutputLine → Type 0
IsHookOn account (printed.Hook by position outcome count bound) = (by ≡ account) × (position < positions)
IsHookOn account other = ⊥

abbrev pub IsCallbackOn : AccountId → OutputLine → Type 0
IsCallbackOn account (printed.Callback by position outcome count bound) = (by ≡ account) × (position < positions)
IsCallbackOn account other = ⊥

-- the lines of a chain are of hooks of its account
abbrev pub ChainsShow : Type 0
ChainsShow = (setting : Setting) (number : ℕ) (before : Entries) (account : AccountId) (d : Draft) →
    Each (IsHookOn account) (lines_of (chain_of setting number before account d))

-- and so is a callback's
abbrev pub CallbacksShow : Type 0
CallbacksShow = (setting : Setting) (number : ℕ) (before : Entries) (account : AccountId) (hash : Hash256)
    (argument : ℕ) (d : Draft) →
    Each (IsCallbackOn account) (lines_of (callback_of setting number before account hash argument d))

-- ---- the bounds on lines

-- the Install at a position of an account, and the Definition of its hash
pub record HasHook (m : Entries) (account : AccountId) (position : ℕ) : Type 0 where
  pub hash : Hash256
  pub on : Hash256
  pub namespace : Hash256
  pub parameters : List Parameter
  pub grants : List Grant
  pub code : List ℕ
  pub version : ℕ
  pub bound_hook : ℕ
  pub bound_cbak : Option ℕ
  pub at : get m (key.Install account position) ≡ Some (entry.Install hash on namespace parameters grants)
  pub there : get m (key.Definition hash) ≡ Some (entry.Definition code version bound_hook bound_cbak)

-- this is the bound of an export of the hook at a position, by its code and as its Definition stores it, and so many
-- steps are within it
pub record IsBounded (m : Entries) (which : Export) (account : AccountId) (position count bound : ℕ) : Type 0 where
  pub installed : HasHook m account position
  pub stored : stored_bound which installed.bound_hook installed.bound_cbak ≡ Some bound
  pub wasm : Module
  pub hook : IsHook installed.version installed.code wasm
  pub bound_is : export_bound installed.version (named which) wasm ≡ Some bound
  pub within : count ≤ bound

-- the bound on a line is its hook's, and the count there is within it
abbrev pub HasBound : Entries → OutputLine → Type 0
HasBound m (printed.Hook account position outcome count bound) = IsBounded m Hook account position count bound
HasBound m (printed.Callback account position outcome count bound) = IsBounded m Cbak account position count bound
HasBound m other = ⊥

-- where each Definition stores its bounds, so it is on each line of a chain
abbrev pub ChainsBounded : Type 0
ChainsBounded = (setting : Setting) (number : ℕ) (before : Entries) (account : AccountId) (d : Draft) →
    AreStored before → Each (HasBound before) (lines_of (chain_of setting number before account d))

-- and of a callback
abbrev pub CallbacksBounded : Type 0
CallbacksBounded = (setting : Setting) (number : ℕ) (before : Entries) (account : AccountId) (hash : Hash256)
    (argument : ℕ) (d : Draft) → AreStored before →
    Each (HasBound before) (lines_of (callback_of setting number before account hash argument d))

-- ---- turns

-- a hook has run, within this bound
abbrev pub HasRun : ℕ → Play → Type 0
HasRun bound idle = ⊥
HasRun bound (plays t ran) = (ran.bound ≡ bound) × (ran.count ≤ bound)

-- where each Definition stores its bounds, a hook that fires and isn't skipped runs to an end
abbrev pub HooksRun : Type 0
HooksRun = (setting : Setting) (number : ℕ) (before : Entries) (account : AccountId) (position : ℕ) (s : Passing)
    (h : HasHook before account position) → AreStored before → fires h.on setting.transaction.kind ≡ true →
    is_skipped h.hash s.chain.skipped ≡ false → HasRun h.bound_hook (play_at setting number before account position s)

-- and so does a callback that the code has
abbrev pub CallbacksRun : Type 0
CallbacksRun = (setting : Setting) (number : ℕ) (before : Entries) (account : AccountId) (position argument : ℕ)
    (s : Passing) (h : HasHook before account position) (bound : ℕ) → AreStored before → h.bound_cbak ≡ Some bound →
    HasRun bound (callback_at setting number before account h.hash argument position s)
