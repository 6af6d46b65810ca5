-- Rows 32 and 34 of the table of calls: what the place tells (this project's own, after the XRPL Hooks).
use Rattle.std.specs.Prelude.{ℕ, ℤ, pos, List, Ok}
use Rattle.hk_calls.specs.declared.arguments.Pair.{Pair}
use Rattle.hk_calls.specs.Outputs.{Output, writes}
use Rattle.hk_calls.specs.Rules.{OrCode, ◌>>=◌, ◌>>◌, inside}
use Rattle.hk_api_parts.specs.declared.place.Place.{Place}

-- 32: the pair is wp wl
abbrev pub hook_account : Place → List ℕ → Pair → OrCode Output
hook_account place m write = do
  inside m write
  Ok (writes place.account.0)

-- 34
abbrev pub hook_pos : Place → OrCode ℤ
hook_pos place = Ok (pos place.position)
