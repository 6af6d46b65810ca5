-- *Chain*: the hooks of an account, one after the other (this project's own).
use Rattle.std.specs.Prelude.{ℕ, zero, suc, ◌+◌, Bool, true, false, not, if◌then◌else◌}
use Rattle.std.specs.Prelude.{List, [], ◌∷◌, ◌++◌, Option, Some}
use Rattle.std.specs.FinMap.{get}
use Rattle.hk_base.specs.declared.ids.AccountId.{AccountId}
use Rattle.hk_base.specs.declared.ids.Hash256.{Hash256}
use Rattle.hk_base.specs.declared.outcome.Outcome.{Outcome}
use Rattle.hk_base.specs.declared.outcome.Outcome.TheVariants.{Accepted}
use Rattle.hk_bound.specs.declared.fault.Export.TheVariants.{Hook}
use Rattle.hk_lines.specs.declared.output_line.OutputLine.{OutputLine}
use Rattle.hk_lines.specs.declared.output_line.OutputLine.TheVariants as printed
use Rattle.hk_state.specs.declared.entry.Entry.{Entry}
use Rattle.hk_state.specs.declared.entry.Entry.TheVariants as entry
use Rattle.hk_state.specs.declared.key.Key.TheVariants as key
use Rattle.hk_state.specs.Firing.{fires}
use Rattle.hk_state.specs.Fees.{positions}
use Rattle.hk_state.specs.Entries.{Entries}
use Rattle.hk_draft.specs.Draft.{Draft}
use Rattle.hk_draft.specs.Ends.{ChainEnd, kept, rejected}
use Rattle.hk_api_parts.specs.declared.chain_state.ChainState.{ChainState}
use Rattle.hk_api_parts.specs.declared.setting.Setting.{Setting}
use Rattle.hk_api_parts.specs.Skips.{is_skipped}
use Rattle.hk_chain.specs.declared.turn.Turn.{Turn}
use Rattle.hk_chain.specs.declared.work.HookRun.{HookRun}
use Rattle.hk_chain.specs.Plays.{Passing, Play, idle, plays, run_turn}

-- nothing is skipped or overridden
abbrev pub no_chain : ChainState
no_chain = record { skipped = []; overrides = [] }

abbrev pub is_accepted : Outcome → Bool
is_accepted (Accepted code text) = true
is_accepted other = false

-- `hook` is run with argument 0
abbrev pub hook_turn : AccountId → ℕ → Hash256 → Hash256 → Turn
hook_turn account position hash namespace = record {
  account = account;
  position = position;
  hash = hash;
  namespace = namespace;
  which = Hook;
  argument = 0;
}

-- an Install that fires on the transaction's type and isn't skipped has its turn
abbrev pub play_install : Setting → ℕ → Entries → AccountId → ℕ → Passing → Option Entry → Play
play_install setting number before account position s (Some (entry.Install hash on namespace parameters grants)) =
    if not (fires on setting.transaction.kind) then idle else
    if is_skipped hash s.chain.skipped then idle else
    run_turn setting number before (hook_turn account position hash namespace) s
play_install setting number before account position s other = idle

-- the turn of a position: Installs are read as the event began
unfoldable pub play_at : Setting → ℕ → Entries → AccountId → ℕ → Passing → Play
play_at setting number before account position s =
    play_install setting number before account position s (get before (key.Install account position))

abbrev pub hook_line : AccountId → ℕ → HookRun → OutputLine
hook_line account position ran = printed.Hook account position ran.outcome ran.count ran.bound

-- a hook that accepts lets the chain go on, another outcome rejects it
abbrev pub goes_on : AccountId → ℕ → Play → Passing → List OutputLine → (Passing → List OutputLine → ChainEnd) →
    ChainEnd
goes_on account position idle s records go = go s records
goes_on account position (plays t ran) s records go =
    if is_accepted ran.outcome then go t (records ++ hook_line account position ran ∷ [])
    else rejected (records ++ hook_line account position ran ∷ [])

-- so many positions from this one on, behind these lines
unfoldable pub chain_from : AccountId → (ℕ → Passing → Play) → ℕ → ℕ → Passing → List OutputLine → ChainEnd
chain_from account play zero position s records = kept s.draft records
chain_from account play (suc left) position s records =
    goes_on account position (play position s) s records (λ t more. chain_from account play left (position + 1) t more)

-- the chain of an account, over the entries as the event began
unfoldable pub chain_of : Setting → ℕ → Entries → AccountId → Draft → ChainEnd
chain_of setting number before account d =
    chain_from account (play_at setting number before account) positions 0 (record { draft = d; chain = no_chain }) []
