-- The callback of a settled emission (this project's own).
use Rattle.std.specs.Prelude.{ℕ, zero, suc, ◌+◌, not, [], ◌∷◌, Option, Some, if◌then◌else◌}
use Rattle.std.specs.Str.{bytes_eq}
use Rattle.std.specs.FinMap.{get}
use Rattle.hk_base.specs.declared.ids.AccountId.{AccountId}
use Rattle.hk_base.specs.declared.ids.Hash256.{Hash256}
use Rattle.hk_bound.specs.declared.fault.Export.TheVariants.{Cbak}
use Rattle.hk_lines.specs.declared.output_line.OutputLine.{OutputLine}
use Rattle.hk_lines.specs.declared.output_line.OutputLine.TheVariants as printed
use Rattle.hk_state.specs.declared.entry.Entry.{Entry}
use Rattle.hk_state.specs.declared.entry.Entry.TheVariants as entry
use Rattle.hk_state.specs.declared.key.Key.TheVariants as key
use Rattle.hk_state.specs.Fees.{positions}
use Rattle.hk_state.specs.Entries.{Entries}
use Rattle.hk_draft.specs.Draft.{Draft}
use Rattle.hk_draft.specs.Ends.{ChainEnd, kept, rejected}
use Rattle.hk_api_parts.specs.declared.setting.Setting.{Setting}
use Rattle.hk_chain.specs.declared.turn.Turn.{Turn}
use Rattle.hk_chain.specs.declared.work.HookRun.{HookRun}
use Rattle.hk_chain.specs.Plays.{Passing, Play, idle, plays, run_turn}
use Rattle.hk_chain.specs.Chain.{no_chain, is_accepted}

-- `cbak` is run with this argument
abbrev pub cbak_turn : AccountId → ℕ → Hash256 → Hash256 → ℕ → Turn
cbak_turn account position hash namespace argument = record {
  account = account;
  position = position;
  hash = hash;
  namespace = namespace;
  which = Cbak;
  argument = argument;
}

-- an Install of that hash has its turn, and nothing runs where its code has no `cbak`
abbrev pub callback_install : Setting → ℕ → Entries → AccountId → Hash256 → ℕ → ℕ → Passing → Option Entry → Play
callback_install setting number before account hash argument position s
    (Some (entry.Install other on namespace parameters grants)) =
    if not (bytes_eq other.0 hash.0) then idle else
    run_turn setting number before (cbak_turn account position other namespace argument) s
callback_install setting number before account hash argument position s other = idle

unfoldable pub callback_at : Setting → ℕ → Entries → AccountId → Hash256 → ℕ → ℕ → Passing → Play
callback_at setting number before account hash argument position s =
    callback_install setting number before account hash argument position s (get before (key.Install account position))

abbrev pub callback_line : AccountId → ℕ → HookRun → OutputLine
callback_line account position ran = printed.Callback account position ran.outcome ran.count ran.bound

abbrev pub called : AccountId → ℕ → Play → ChainEnd → ChainEnd
called account position idle later = later
called account position (plays t ran) later =
    if is_accepted ran.outcome then kept t.draft (callback_line account position ran ∷ [])
    else rejected (callback_line account position ran ∷ [])

-- the first of so many positions from this one on that runs
unfoldable pub callback_from : AccountId → (ℕ → Passing → Play) → ℕ → ℕ → Passing → ChainEnd
callback_from account play zero position s = kept s.draft []
callback_from account play (suc left) position s =
    called account position (play position s) (callback_from account play left (position + 1) s)

-- the callback of the hook of that hash on an account, over the entries as the event began
unfoldable pub callback_of : Setting → ℕ → Entries → AccountId → Hash256 → ℕ → Draft → ChainEnd
callback_of setting number before account hash argument d =
    callback_from account (callback_at setting number before account hash argument) positions 0
    (record { draft = d; chain = no_chain })
