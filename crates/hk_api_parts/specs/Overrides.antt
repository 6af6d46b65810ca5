-- Parameters by their names, those that a hook overrides for the hooks of a hash, and row 36 of the table of calls
-- (this project's own, after the XRPL Hooks).
use Rattle.std.specs.Prelude.{ℕ, ◌==◌, ◌&&◌, nat_lt, nat_le, Bool, not, is_none, ℤ, pos, List, [], ◌∷◌, ◌++◌, length}
use Rattle.std.specs.Prelude.{slice_get, slice_set, Option, Some, None, option_map, Ok, if◌then◌else◌}
use Rattle.std.specs.List.{find, count_by, position}
use Rattle.std.specs.Option.{option_and_then}
use Rattle.std.specs.Str.{bytes_eq}
use Rattle.hk_base.specs.declared.ids.Hash256.{Hash256}
use Rattle.xo_object.specs.declared.transaction.Parameter.{Parameter}
use Rattle.hk_calls.specs.declared.arguments.Pair.{Pair}
use Rattle.hk_calls.specs.declared.code.Code.TheVariants as code
use Rattle.hk_calls.specs.Rules.{OrCode, ◌>>=◌, ◌>>◌, refuse, read, name}
use Rattle.hk_api_parts.specs.declared.chain_state.ChainState.{ChainState}

-- the first parameter of a name
unfoldable pub named : List ℕ → List Parameter → Option Parameter
named name parameters = find (λ p. bytes_eq p.name name) parameters

-- an override: the hash of the hooks that it is for, and the parameter
abbrev pub Override : Type 0
Override = Hash256 × Parameter

abbrev pub is_override : Hash256 → List ℕ → Override → Bool
is_override hash name o = bytes_eq o.0.0 hash.0 && bytes_eq o.1.name name

-- the place of the first override of a name for a hash
unfoldable pub override_place : Hash256 → List ℕ → List Override → Option ℕ
override_place hash name overrides = position (is_override hash name) overrides

-- its value
unfoldable pub override_of : Hash256 → List ℕ → List Override → Option (List ℕ)
override_of hash name overrides =
    option_and_then (λ place. option_map (λ o. o.1.value) (slice_get overrides place))
    (override_place hash name overrides)

-- how many names are overridden for a hash
unfoldable pub names_for : Hash256 → List Override → ℕ
names_for hash overrides = count_by (λ o. bytes_eq o.0.0 hash.0) overrides

-- a name is a seventeenth for a hash
abbrev pub is_full : Hash256 → List ℕ → List Override → Bool
is_full hash name overrides = is_none (override_place hash name overrides) && nat_le 16 (names_for hash overrides)

abbrev pub put_at : Option ℕ → Override → List Override → List Override
put_at (Some place) o overrides = slice_set overrides place o
put_at None o overrides = overrides ++ o ∷ []

-- an override in the place of the first one of its name for its hash, or last
abbrev pub with_override : ChainState → Hash256 → Parameter → ChainState
with_override chain hash p = record {
  skipped = chain.skipped;
  overrides = put_at (override_place hash p.name chain.overrides) (hash, p) chain.overrides;
}

-- 36: the pairs are rp rl, kp kl and hp hl
abbrev pub hook_param_set : ChainState → List ℕ → Pair → Pair → Pair → OrCode (ℤ × ChainState)
hook_param_set chain m from named by = do
  value ← read m from
  bytes ← read m named
  hash ← read m by
  refuse (nat_lt 256 from.count) code.TooBig
  n ← name bytes
  refuse (not (by.count == 32)) code.InvalidArgument
  refuse (is_full (record { 0 = hash }) n chain.overrides) code.TooManyParams
  Ok (pos (length value), with_override chain (record { 0 = hash }) (record { name = n; value = value }))
