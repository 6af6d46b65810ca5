-- The reserve of an account: 10,000,000 drops, and 2,000,000 more for each Install and for each 256 bytes begun of
-- each State entry. This project's own.
use Rattle.std.specs.Prelude.{◌≡◌, ℕ, ◌+◌, ◌*◌, Bool, true, false, ◌&&◌, if◌then◌else◌, length, replicate, Option, Some}
use Rattle.std.specs.Prelude.{None, refl}
use Rattle.std.proofs.Common.{◌∙◌, ap, sym}
use Rattle.std.specs.Int.{div_ceil}
use Rattle.std.specs.Str.{bytes_eq}
use Rattle.std.specs.FinMap.{get, empty}
use Rattle.hk_base.specs.declared.ids.AccountId.{AccountId}
use Rattle.hk_state.specs.declared.key.Key.{Key}
use Rattle.hk_state.specs.declared.key.Key.TheVariants as key
use Rattle.hk_state.specs.declared.entry.Entry.{Entry}
use Rattle.hk_state.specs.declared.entry.Entry.TheVariants as entry
use Rattle.hk_state.specs.Entries.{Entries}
use Rattle.hk_state.specs.Least.{is_from}
use Rattle.hk_state.specs.Sums.{sum, part, sum-alike, sum-empty}

-- the drops that each account keeps
abbrev pub base_reserve : ℕ
base_reserve = 10000000

-- and those for each unit of what it owns
abbrev pub unit_reserve : ℕ
unit_reserve = 2000000

-- how many times 256 bytes are begun
abbrev pub units : ℕ → ℕ
units size = div_ceil size 256

-- the first keys of an account's Installs and of its State entries
abbrev pub first_install : AccountId → Key
first_install id = key.Install id 0

abbrev pub first_state : AccountId → Key
first_state id = key.State id (record { 0 = replicate 32 0 }) (record { 0 = replicate 32 0 })

-- two keys of Installs, or of State entries, of one account
abbrev pub are_beside : Key → Key → Bool
are_beside (key.Install a m) (key.Install b n) = bytes_eq a.0 b.0
are_beside (key.State a m j) (key.State b n k) = bytes_eq a.0 b.0
are_beside a b = false

-- a key of the account and the kind of a first one
abbrev pub is_own : Key → Key → Bool
is_own first k = is_from first k && are_beside first k

-- the units that an entry is
abbrev pub units_in : Entry → ℕ
units_in (entry.Install hash on namespace parameters grants) = 1
units_in (entry.State bytes) = units (length bytes)
units_in e = 0

-- the units of an account's Installs, or of its State entries
abbrev pub own_units : Key → Key → Entry → ℕ
own_units first k e = if is_own first k then units_in e else 0

abbrev pub units_of : AccountId → Key → Entry → ℕ
units_of id k e = own_units (first_install id) k e + own_units (first_state id) k e

abbrev pub reserve : Entries → AccountId → ℕ
reserve m id = base_reserve + unit_reserve * sum (units_of id) m

-- the kinds of entries that rules for transactions change
abbrev pub may_change : Key → Bool
may_change (key.Account id) = true
may_change (key.Other bytes) = true
may_change k = false

nothing : (id : AccountId) (q : Key) (a : Option Entry) → may_change q ≡ true → part (units_of id) q a ≡ 0
nothing id q None h = refl
nothing id (key.Account owner) (Some a) h = refl
nothing id (key.Other bytes) (Some a) h = refl
nothing id q (Some a) h = cc

-- a reserve stays where only such entries change
pub reserve-alike : (m n : Entries) (id : AccountId) → ((q : Key) → may_change q ≡ false → get n q ≡ get m q) →
    reserve n id ≡ reserve m id
reserve-alike m n id same =
    ap (λ owned. base_reserve + unit_reserve * owned) (sum-alike (units_of id) (units_of id) n m (λ q.
    elim (may_change q) as (λ b. may_change q ≡ b → part (units_of id) q (get n q) ≡ part (units_of id) q (get m q)) [
      | true ↦ λ h. nothing id q (get n q) h ∙ sym (nothing id q (get m q) h)
      | false ↦ λ h. ap (part (units_of id) q) (same q h)
    ] refl))

-- of a ledger without entries
pub reserve-empty : (id : AccountId) → reserve empty id ≡ base_reserve
reserve-empty id = ap (λ owned. base_reserve + unit_reserve * owned) (sum-empty (units_of id))
