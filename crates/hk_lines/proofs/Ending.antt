-- Bytes with the end of input behind them have a status.
use Rattle.std.proofs.Common.{◌≡◌, ℕ, ◌+◌, nat_le, Bool, true, false, if◌then◌else◌, List, [], ◌∷◌, length, take, Some}
use Rattle.std.proofs.Common.{refl}
use Rattle.hk_lines.specs.Cut.{Cut, behind, whole, cut, trim, is_skipped}
use Rattle.hk_lines.specs.Ended.{HasStatus, GivesStatus}
use Rattle.hk_lines.specs.Given.{Close, opened, ended, full, Given, bad, Turn, goes, ends, wrong, after_turn}
use Rattle.hk_lines.specs.Given.{given_line, given_last, given_from, close_of}
use Rattle.hk_lines.specs.Numbers.{longest_line, endless_line}
use Rattle.hk_lines.specs.declared.rule.Rule.TheVariants.{LineTooLong, NoEnd}
use Rattle.hk_lines.specs.declared.status.Status.TheVariants.{BadInput, TooLong}

-- nothing more comes
abbrev pub IsClosed : Close → Type 0
IsClosed opened = ⊥
IsClosed ended = Unit {0}
IsClosed full = Unit {0}

module _ {S : Type 0} (turn : S → List ℕ → Turn S) where
  turn_ends : (answer : Turn S) (number : ℕ) (later : S → Given) → ((state : S) → HasStatus (later state)) →
      HasStatus (after_turn turn answer number later)
  turn_ends (goes state text) number later h = h state
  turn_ends (ends text status) number later h = (status, refl)
  turn_ends (wrong rule) number later h = (BadInput, refl)

  tests_end : (short skipped : Bool) (answer : Turn S) (state : S) (number : ℕ) (later : S → Given) →
      ((state : S) → HasStatus (later state)) →
      HasStatus
      (if short then (if skipped then later state else after_turn turn answer number later) else bad number LineTooLong)
  tests_end true true answer state number later h = h state
  tests_end true false answer state number later h = turn_ends answer number later h
  tests_end false skipped answer state number later h = (BadInput, refl)

  line_ends : (state : S) (number : ℕ) (line : List ℕ) (later : S → Given) → ((state : S) → HasStatus (later state)) →
      HasStatus (given_line turn state number line later)
  line_ends state number line later h =
      tests_end (nat_le (length line) longest_line) (is_skipped line) (turn state line) state number later h

  last_ends : (state : S) (number : ℕ) (bytes : List ℕ) (close : Close) → IsClosed close →
      HasStatus (given_last turn state number bytes close)
  last_ends state number bytes opened closed = absurd closed
  last_ends state number bytes full closed = (TooLong, refl)
  last_ends state number [] ended closed = (BadInput, refl)
  last_ends state number (byte ∷ bytes) ended closed =
      line_ends state number (trim (byte ∷ bytes)) (λ next. bad (number + 1) NoEnd) (λ next. (BadInput, refl))

  behind_ends : (endless : Bool) (state : S) (number : ℕ) (bytes : List ℕ) (close : Close) → IsClosed close →
      HasStatus (if endless then bad number LineTooLong else given_last turn state number bytes close)
  behind_ends true state number bytes close closed = (BadInput, refl)
  behind_ends false state number bytes close closed = last_ends state number bytes close closed

  from_ends : (c : Cut) (state : S) (number : ℕ) (close : Close) → IsClosed close →
      HasStatus (given_from turn state number c close)
  from_ends (whole line more) state number close closed =
      line_ends state number (trim line) (λ next. given_from turn next (number + 1) more close)
      (λ next. from_ends more next (number + 1) close closed)
  from_ends (behind bytes) state number close closed =
      behind_ends (nat_le endless_line (length bytes)) state number bytes close closed

  closes : (reached : Bool) → IsClosed (if reached then full else ended)
  closes true = tt
  closes false = tt

  pub gives_status_law : GivesStatus turn
  gives_status_law limit start bytes =
      from_ends (cut (take limit bytes)) start 1 (close_of turn limit bytes ended)
      (closes (nat_le limit (length bytes)))
