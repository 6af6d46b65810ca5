-- The hashes whose hooks are skipped: a set, in the order in which they were added (this project's own).
use Rattle.std.specs.Prelude.{ℕ, Bool, List, [], ◌∷◌, ◌++◌, Option, Some, None, if◌then◌else◌}
use Rattle.std.specs.List.{list_any, position, remove}
use Rattle.std.specs.Str.{bytes_eq}
use Rattle.hk_base.specs.declared.ids.Hash256.{Hash256}
use Rattle.hk_api_parts.specs.declared.chain_state.ChainState.{ChainState}

abbrev pub is_hash : Hash256 → Hash256 → Bool
is_hash hash other = bytes_eq other.0 hash.0

unfoldable pub is_skipped : Hash256 → List Hash256 → Bool
is_skipped hash skipped = list_any (is_hash hash) skipped

abbrev pub without_place : List Hash256 → Option ℕ → List Hash256
without_place hashes None = hashes
without_place hashes (Some place) = remove hashes place

-- a list without the first hash that is this one
unfoldable pub without_hash : Hash256 → List Hash256 → List Hash256
without_hash hash hashes = without_place hashes (position (is_hash hash) hashes)

abbrev pub with_skip : ChainState → Hash256 → ChainState
with_skip chain hash = record {
  skipped = if is_skipped hash chain.skipped then chain.skipped else chain.skipped ++ hash ∷ [];
  overrides = chain.overrides;
}

abbrev pub without_skip : ChainState → Hash256 → ChainState
without_skip chain hash = record { skipped = without_hash hash chain.skipped; overrides = chain.overrides }
