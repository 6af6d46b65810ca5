-- Nonces and burdens of emissions (this project's own, after the Hooks documentation, "Emitted Transactions").
use Rattle.std.specs.Prelude.{ℕ, ◌*◌, ◌^◌, Bool, [], ◌∷◌, ◌++◌, nat_lt, Option, Some, None, if◌then◌else◌}
use Rattle.hk_base.specs.declared.ids.AccountId.{AccountId}
use Rattle.hk_base.specs.declared.ids.Hash256.{Hash256}
use Rattle.hk_base.specs.Hashes.{sha512half}

-- a nonce, by the transaction that the hook runs on, its account and position, whether it is called back, and the
-- nonce's number: the prefix is `NCE` and a zero byte
abbrev pub nonce : Hash256 → AccountId → ℕ → Bool → ℕ → Hash256
nonce parent account position callback counter =
    sha512half
    (0x4E ∷ 0x43 ∷ 0x45 ∷ 0x00 ∷ parent.0 ++ account.0 ++ position ∷ (if callback then 1 else 0) ∷ counter ∷ [])

-- the burden of the transaction that the hook runs on, for each emission that is reserved
abbrev pub burden : ℕ → ℕ → Option ℕ
burden parent reserved = if nat_lt (parent * reserved) (2 ^ 63) then Some (parent * reserved) else None
