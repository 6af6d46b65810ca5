-- Rows 5 to 9: parts and edits of objects (this project's own, after the XRPL Hooks).
use Rattle.std.specs.Prelude.{ℕ, ◌+◌, ◌-◌, ◌*◌, ◌^◌, ℤ, pos, List, is_some, Ok, if◌then◌else◌}
use Rattle.std.specs.Int.{w64, cast_signed}
use Rattle.xo_list.specs.declared.span.Span.{Span}
use Rattle.hk_calls.specs.declared.arguments.Pair.{Pair}
use Rattle.hk_calls.specs.Outputs.{Output, writes}
use Rattle.hk_calls.specs.Rules.{OrCode, ◌>>=◌, ◌>>◌, inside, read, field}
use Rattle.hk_api_pure.specs.Editing.{object_fields, subfield, subarray, emplaced, erased}

-- from * 2^32 + length, as a signed number of 64 bits
abbrev pub place_number : Span → ℤ
place_number part = cast_signed w64 (part.from * 2 ^ 32 + (part.to - part.from))

-- 5: the pair is rp rl
abbrev pub sto_subfield : List ℕ → Pair → ℕ → OrCode ℤ
sto_subfield m from number = do
  bytes ← read m from
  f ← field number
  part ← subfield bytes f
  Ok (place_number part)

-- 6: the pair is rp rl
abbrev pub sto_subarray : List ℕ → Pair → ℕ → OrCode ℤ
sto_subarray m from index = do
  bytes ← read m from
  part ← subarray bytes index
  Ok (place_number part)

-- 7: the pairs are wp wl, sp sl and fp fl
abbrev pub sto_emplace : List ℕ → Pair → Pair → Pair → ℕ → OrCode Output
sto_emplace m write from put number = do
  inside m write
  bytes ← read m from
  spelled ← read m put
  f ← field number
  edited ← emplaced bytes spelled f
  Ok (writes edited)

-- 8: the pairs are wp wl and rp rl
abbrev pub sto_erase : List ℕ → Pair → Pair → ℕ → OrCode Output
sto_erase m write from number = do
  inside m write
  bytes ← read m from
  f ← field number
  edited ← erased bytes f
  Ok (writes edited)

-- 9: the pair is rp rl
abbrev pub sto_validate : List ℕ → Pair → OrCode ℤ
sto_validate m from = do
  bytes ← read m from
  Ok (if is_some (object_fields bytes) then pos 1 else pos 0)
