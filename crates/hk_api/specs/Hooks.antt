-- Rows 33, 35 and 37 of the table of calls: the hooks of the account (this project's own, after the XRPL Hooks).
use Rattle.std.specs.Prelude.{ℕ, ◌==◌, ◌||◌, not, nat_lt, Bool, false, ℤ, pos, List, [], ◌∷◌, Option, Some, None}
use Rattle.std.specs.Prelude.{option_map, Ok, if◌then◌else◌}
use Rattle.std.specs.List.{list_any}
use Rattle.std.specs.Str.{bytes_eq}
use Rattle.std.specs.FinMap.{get}
use Rattle.hk_base.specs.declared.ids.AccountId.{AccountId}
use Rattle.hk_base.specs.declared.ids.Hash256.{Hash256}
use Rattle.hk_calls.specs.declared.arguments.Pair.{Pair}
use Rattle.hk_calls.specs.declared.code.Code.TheVariants as code
use Rattle.hk_calls.specs.Outputs.{Output, writes, writes_or_number}
use Rattle.hk_calls.specs.Rules.{OrCode, ◌>>=◌, ◌>>◌, refuse, inside, read, name, found}
use Rattle.xo_object.specs.declared.transaction.Parameter.{Parameter}
use Rattle.hk_state.specs.declared.entry.Entry.{Entry}
use Rattle.hk_state.specs.declared.entry.Entry.TheVariants as entry
use Rattle.hk_state.specs.declared.key.Key.TheVariants as key
use Rattle.hk_state.specs.Entries.{Entries}
use Rattle.hk_draft.specs.Writers.{hash_of}
use Rattle.hk_api_parts.specs.declared.chain_state.ChainState.{ChainState}
use Rattle.hk_api_parts.specs.Overrides.{named, override_of}
use Rattle.hk_api_parts.specs.Skips.{is_skipped, with_skip, without_skip}
use Rattle.hk_api.specs.HostState.{HostState}

-- the number that stands for the hook itself
abbrev pub this_hook : ℕ
this_hook = 4294967295

-- the hash of the hook at a position of an account; none has a position above 255
abbrev pub hash_at : Entries → AccountId → ℕ → Option Hash256
hash_at m account position = if nat_lt 255 position then None else hash_of (get m (key.Install account position))

abbrev pub is_hook : Hash256 → Option Hash256 → Bool
is_hook hash None = false
is_hook hash (Some other) = bytes_eq other.0 hash.0

abbrev pub hash_of_hook : HostState → ℕ → Option Hash256
hash_of_hook s number =
    if number == this_hook then Some s.place.hash else hash_at s.draft.entries s.place.account number

-- 33: the pair is wp wl, and the number
abbrev pub hook_hash : HostState → List ℕ → Pair → ℕ → OrCode Output
hook_hash s m write number = do
  inside m write
  hash ← found (hash_of_hook s number)
  Ok (writes hash.0)

-- an Install's parameters
abbrev pub parameters_of : Option Entry → List Parameter
parameters_of (Some (entry.Install hash on namespace parameters grants)) = parameters
parameters_of other = []

-- the value that the hook is given for a name: an override of it, or its Install's
abbrev pub first_of : Option (List ℕ) → Option Parameter → Option (List ℕ)
first_of (Some value) own = Some value
first_of None own = option_map (λ p. p.value) own

abbrev pub parameter_of : HostState → List ℕ → Option (List ℕ)
parameter_of s n =
    first_of (override_of s.place.hash n s.chain.overrides)
    (named n (parameters_of (get s.draft.entries (key.Install s.place.account s.place.position))))

-- 35: the pairs are wp wl and rp rl
abbrev pub hook_param : HostState → List ℕ → Pair → Pair → OrCode Output
hook_param s m write from = do
  inside m write
  bytes ← read m from
  n ← name bytes
  value ← found (parameter_of s n)
  Ok (writes_or_number value)

-- some hook of the account has that hash
unfoldable pub has_hook : HostState → Hash256 → Bool
has_hook s hash =
    list_any (λ position. is_hook hash (hash_at s.draft.entries s.place.account position))
    (0 ∷ 1 ∷ 2 ∷ 3 ∷ 4 ∷ 5 ∷ 6 ∷ 7 ∷ 8 ∷ 9 ∷ [])

-- flags 0 skip the hooks of a hash, and flags 1 end that
abbrev pub skipping : HostState → Hash256 → ℕ → OrCode (ℤ × ChainState)
skipping s hash flags =
    if flags == 0 then (refuse (not (has_hook s hash)) code.DoesntExist >> Ok (pos 1, with_skip s.chain hash)) else
    (refuse (not (is_skipped hash s.chain.skipped)) code.DoesntExist >> Ok (pos 1, without_skip s.chain hash))

-- 37: the pair is rp rl, and the flags
abbrev pub hook_skip : HostState → List ℕ → Pair → ℕ → OrCode (ℤ × ChainState)
hook_skip s m from flags = do
  bytes ← read m from
  refuse (not (from.count == 32) || nat_lt 1 flags) code.InvalidArgument
  skipping s (record { 0 = bytes }) flags
