-- The state in which a command is when its last line comes: the one that ends it, a wrong one, or none (this project's
-- own).
use Rattle.std.specs.Prelude.{ℕ, nat_le, if◌then◌else◌, List, [], ◌∷◌, length, take}
use Rattle.hk_lines.specs.Cut.{Cut, behind, whole, cut, trim, is_skipped}
use Rattle.hk_lines.specs.Given.{Turn, goes}
use Rattle.hk_lines.specs.Numbers.{longest_line}

module _ {S : Type 0} (turn : S → List ℕ → Turn S) where
  -- where a line is right the lines go on from the state that it leaves
  abbrev pub state_after : S → Turn S → (S → S) → S
  state_after state (goes next text) later = later next
  state_after state other later = state

  abbrev pub state_line : S → List ℕ → (S → S) → S
  state_line state line later =
      if nat_le (length line) longest_line then
      (if is_skipped line then later state else state_after state (turn state line) later)
      else state

  -- the bytes behind the last line feed are a line, unless there are none
  abbrev pub state_last : S → List ℕ → S
  state_last state [] = state
  state_last state (byte ∷ bytes) = state_line state (trim (byte ∷ bytes)) (λ next. next)

  abbrev pub state_from : S → Cut → S
  state_from state (whole line more) = state_line state (trim line) (λ next. state_from next more)
  state_from state (behind bytes) = state_last state bytes

  -- the state that the bytes up to the limit lead to, from a start
  abbrev pub reached : ℕ → S → List ℕ → S
  reached limit start bytes = state_from start (cut (take limit bytes))
