-- The hashes that name transactions and ledger entries.
use Rattle.std.specs.Prelude.{ℕ, List, ◌∷◌, ◌++◌, take}
use Rattle.sha2.specs.Sha512.{sha512}
use Rattle.sha2.specs.Hashers.{Holds512}
use Rattle.hk_base.specs.declared.hashes.HalfHash.{HalfHash}
use Rattle.hk_base.specs.declared.ids.AccountId.{AccountId}
use Rattle.hk_base.specs.declared.ids.Hash256.{Hash256}

-- the first 32 bytes of SHA-512 (FIPS 180-4, 6.4; XRPL, "SHA-512Half")
abbrev pub sha512half : List ℕ → Hash256
sha512half bytes = record { 0 = take 32 (sha512 bytes) }

-- a transaction's id: the prefix is `TXN` and a zero byte (XRPL, "Hash Prefixes")
abbrev pub tx_id : List ℕ → Hash256
tx_id blob = sha512half (0x54 ∷ 0x58 ∷ 0x4E ∷ 0x00 ∷ blob)

-- the index of an account's entry: the space of accounts is 0 and `a` (XRPL, "Ledger Object IDs")
abbrev pub account_index : AccountId → Hash256
account_index id = sha512half (0x00 ∷ 0x61 ∷ id.0)

-- the index of a hook's state entry, in a space of its own, 0 and `v` (this project's own)
abbrev pub state_index : AccountId → Hash256 → Hash256 → Hash256
state_index id key namespace = sha512half (0x00 ∷ 0x76 ∷ id.0 ++ key.0 ++ namespace.0)

-- these bytes were taken so far
abbrev pub HasTaken : HalfHash → List ℕ → Type 0
HasTaken hash bytes = Holds512 hash.hasher bytes
