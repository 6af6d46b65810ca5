-- Entries of the ledger by their indexes, and how many an account owns (this project's own, after the keylets of the
-- XRPL Hooks).
use Rattle.std.specs.Prelude.{ℕ, ◌+◌, ◌-◌, ◌^◌, min, ◌&&◌, ◌||◌, eqb, Bool, true, false, List, [], ◌∷◌, length}
use Rattle.std.specs.Prelude.{replicate, Option, if◌then◌else◌}
use Rattle.std.specs.List.{find, filter, starts_with}
use Rattle.std.specs.Str.{bytes_eq}
use Rattle.std.specs.FinMap.{entries}
use Rattle.hk_base.specs.declared.ids.AccountId.{AccountId}
use Rattle.hk_base.specs.Hashes.{account_index, state_index}
use Rattle.hk_state.specs.declared.entry.Entry.{Entry}
use Rattle.hk_state.specs.declared.key.Key.{Key}
use Rattle.hk_state.specs.declared.key.Key.TheVariants as key
use Rattle.hk_state.specs.Entries.{Entries}
use Rattle.hk_state.specs.Least.{is_from}
use Rattle.hk_state.specs.Reserves.{first_install, first_state, is_own}

-- the two bytes before an index: an account's, and a State entry's
abbrev pub account_space : List ℕ
account_space = 0x00 ∷ 0x61 ∷ []

abbrev pub state_space : List ℕ
state_space = 0x00 ∷ 0x76 ∷ []

-- a keylet is these two bytes and an index
abbrev pub is_keylet : List ℕ → Bool
is_keylet bytes = starts_with eqb bytes account_space || starts_with eqb bytes state_space

-- the first keys of accounts and of State entries, by a keylet
abbrev pub least_account : AccountId
least_account = record { 0 = replicate 20 0 }

abbrev pub first_key : List ℕ → Key
first_key keylet =
    if starts_with eqb keylet account_space then key.Account least_account else first_state least_account

-- two keys of accounts, or of State entries
abbrev pub are_alike : Key → Key → Bool
are_alike (key.Account a) (key.Account b) = true
are_alike (key.State a m j) (key.State b n k) = true
are_alike a b = false

-- a key of the kind of a first one
abbrev pub is_of : Key → Key → Bool
is_of first k = is_from first k && are_alike first k

abbrev pub has_index : List ℕ → Key → Bool
has_index index (key.Account id) = bytes_eq (account_index id).0 index
has_index index (key.State id namespace k) = bytes_eq (state_index id k namespace).0 index
has_index index other = false

-- the entries, in the order of keys, whose keys pass
abbrev pub listed : (Key → Bool) → Entries → List (Key × Entry)
listed test m = filter (λ e. test e.0) (entries m)

-- the first entry of a first key's kind that has an index
unfoldable pub entry_at : Entries → Key → List ℕ → Option (Key × Entry)
entry_at m first index = find (λ e. has_index index e.0) (listed (is_of first) m)

-- how many Installs and State entries an account has; the greatest number of 32 bits stands for more
unfoldable pub owner_count : Entries → AccountId → ℕ
owner_count m id =
    min (length (listed (is_own (first_install id)) m) + length (listed (is_own (first_state id)) m)) (2 ^ 32 - 1)
