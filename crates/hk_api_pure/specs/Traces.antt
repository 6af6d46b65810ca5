-- Rows 24 to 26: nothing is printed (this project's own, after the XRPL Hooks).
use Rattle.std.specs.Prelude.{ℕ, ℤ, pos, List, Ok}
use Rattle.hk_calls.specs.declared.arguments.Pair.{Pair}
use Rattle.hk_calls.specs.Rules.{OrCode, ◌>>◌, inside}

-- 24: the pairs are mp ml and dp dl
abbrev pub trace : List ℕ → Pair → Pair → OrCode ℤ
trace m message value = do
  inside m message
  inside m value
  Ok (pos 0)

-- 25 and 26: the pair is mp ml
abbrev pub trace_number : List ℕ → Pair → OrCode ℤ
trace_number m message = do
  inside m message
  Ok (pos 0)
