-- Rows 3 and 4: a hash, and the keylets of ledger entries (this project's own, after the XRPL Hooks).
use Rattle.std.specs.Prelude.{ℕ, ◌==◌, ◌&&◌, not, Bool, List, ◌∷◌, Ok, Err, if◌then◌else◌}
use Rattle.hk_base.specs.Hashes.{sha512half, account_index, state_index}
use Rattle.hk_calls.specs.declared.arguments.Pair.{Pair}
use Rattle.hk_calls.specs.declared.code.Code.TheVariants as code
use Rattle.hk_calls.specs.Outputs.{Output, writes}
use Rattle.hk_calls.specs.Rules.{OrCode, ◌>>=◌, ◌>>◌, refuse, inside, read, key}

-- 3: the pairs are wp wl and rp rl
abbrev pub util_sha512h : List ℕ → Pair → Pair → OrCode Output
util_sha512h m write from = do
  inside m write
  bytes ← read m from
  Ok (writes (sha512half bytes).0)

-- the pair is no pair, and holds nothing
abbrev pub is_zero : Pair → Bool
is_zero pair = pair.at == 0 && pair.count == 0

-- kind 3, an account's entry
abbrev pub account_keylet : List ℕ → Pair → Pair → Pair → OrCode (List ℕ)
account_keylet m ab cd ef = do
  refuse (not (is_zero cd && is_zero ef)) code.InvalidArgument
  refuse (not (ab.count == 20)) code.InvalidArgument
  account ← read m ab
  Ok (0x00 ∷ 0x61 ∷ (account_index (record { 0 = account })).0)

-- kind 2, a hook's state entry
abbrev pub state_keylet : List ℕ → Pair → Pair → Pair → OrCode (List ℕ)
state_keylet m ab cd ef = do
  refuse (not (ab.count == 20 && ef.count == 32)) code.InvalidArgument
  account ← read m ab
  bytes ← read m cd
  namespace ← read m ef
  k ← key bytes
  Ok (0x00 ∷ 0x76 ∷ (state_index (record { 0 = account }) k (record { 0 = namespace })).0)

abbrev pub keylet : List ℕ → ℕ → Pair → Pair → Pair → OrCode (List ℕ)
keylet m kind ab cd ef =
    if kind == 2 then state_keylet m ab cd ef else
    if kind == 3 then account_keylet m ab cd ef else Err code.NoSuchKeylet

-- 4: the pair wp wl, the kind, and the pairs a b, c d and e f. Its tests have an order of their own.
unfoldable pub util_keylet : List ℕ → Pair → ℕ → Pair → Pair → Pair → OrCode Output
util_keylet m write kind ab cd ef = do
  inside m write
  bytes ← keylet m kind ab cd ef
  Ok (writes bytes)
