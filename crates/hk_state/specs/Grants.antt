-- Which hooks may write to an account's state. This project's own.
use Rattle.std.specs.Prelude.{Bool, true, false, ◌&&◌, ◌||◌, Option, Some, None}
use Rattle.std.specs.List.{list_any}
use Rattle.std.specs.Str.{bytes_eq}
use Rattle.std.specs.FinMap.{entries}
use Rattle.hk_base.specs.declared.ids.AccountId.{AccountId}
use Rattle.hk_base.specs.declared.ids.Hash256.{Hash256}
use Rattle.xo_object.specs.declared.transaction.Grant.{Grant}
use Rattle.hk_state.specs.declared.entry.Entry.{Entry}
use Rattle.hk_state.specs.declared.entry.Entry.TheVariants as entry
use Rattle.hk_state.specs.Entries.{Entries}
use Rattle.hk_state.specs.Reserves.{first_install, is_own}

-- for any account, or for this one
abbrev pub is_for : AccountId → Option AccountId → Bool
is_for actor None = true
is_for actor (Some account) = bytes_eq account.0 actor.0

-- a grant to the hook of that hash on that account
abbrev pub is_granted : Hash256 → AccountId → Grant → Bool
is_granted hash actor grant = bytes_eq grant.hash.0 hash.0 && is_for actor grant.account

-- an Install of that namespace with such a grant
abbrev pub has_grant : Hash256 → AccountId → Hash256 → Entry → Bool
has_grant hash actor namespace (entry.Install code on space parameters grants) =
    bytes_eq space.0 namespace.0 && list_any (is_granted hash actor) grants
has_grant hash actor namespace e = false

-- the owner is the actor itself, or some Install of the owner in that namespace grants it
abbrev pub may_write : Entries → Hash256 → AccountId → AccountId → Hash256 → Bool
may_write m hash actor owner namespace =
    bytes_eq owner.0 actor.0
    || list_any (λ e. is_own (first_install owner) e.0 && has_grant hash actor namespace e.1) (entries m)
