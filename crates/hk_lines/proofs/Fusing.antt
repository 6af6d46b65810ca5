-- Reading and running line by line gives what the machine gives for the lines.
use Rattle.std.proofs.Common.{◌≡◌, ℕ, ◌+◌, nat_le, Bool, true, false, if◌then◌else◌, List, [], ◌∷◌, length, take, refl}
use Rattle.std.proofs.Common.{ap}
use Rattle.hk_lines.specs.Cut.{Cut, behind, whole, cut, trim, is_skipped}
use Rattle.hk_lines.specs.Given.{Close, opened, ended, full, Given, after, bad, after_turn, given_line, given_last}
use Rattle.hk_lines.specs.Given.{given_from}
use Rattle.hk_lines.specs.Lines.{Lines, last, bad_at, Read, takes, closes, refuses, after_read, lines_line, lines_last}
use Rattle.hk_lines.specs.Lines.{lines_from, Machine, fold_lines, turned, turn_of, Fuses}
use Rattle.hk_lines.specs.Numbers.{longest_line, endless_line}
use Rattle.hk_lines.specs.declared.rule.Rule.TheVariants.{LineTooLong, NoEnd}

module _ {Q S L : Type 0} (read : Q → List ℕ → Read Q L) (machine : Machine S L) where
  -- a line that was read, and what comes behind it
  fused_read : (answer : Read Q L) (state : S) (number : ℕ) (later : Q × S → Given) (rest : Q → Lines L) →
      ((order : Q) (next : S) → later (order, next) ≡ fold_lines machine next (rest order)) →
      after_turn (turn_of machine read) (turned machine state answer) number later
      ≡ fold_lines machine state (after_read read answer number rest)
  fused_read (takes order line) state number later rest h =
      ap (after (machine.step state line).1) (h order (machine.step state line).0)
  fused_read closes state number later rest h = refl
  fused_read (refuses rule) state number later rest h = refl

  -- the same under the two tests of a line
  fused_tests : (short skipped : Bool) (answer : Read Q L) (order : Q) (state : S) (number : ℕ) (later : Q × S → Given)
      (rest : Q → Lines L) →
      ((order : Q) (next : S) → later (order, next) ≡ fold_lines machine next (rest order)) →
      (if short then
      (if skipped then later (order, state)
      else after_turn (turn_of machine read) (turned machine state answer) number later)
      else bad number LineTooLong)
      ≡ fold_lines machine state
      (if short then (if skipped then rest order else after_read read answer number rest)
      else last (bad_at number LineTooLong))
  fused_tests true true answer order state number later rest h = h order state
  fused_tests true false answer order state number later rest h = fused_read answer state number later rest h
  fused_tests false skipped answer order state number later rest h = refl

  fused_line : (order : Q) (state : S) (number : ℕ) (line : List ℕ) (later : Q × S → Given) (rest : Q → Lines L) →
      ((order : Q) (next : S) → later (order, next) ≡ fold_lines machine next (rest order)) →
      given_line (turn_of machine read) (order, state) number line later
      ≡ fold_lines machine state (lines_line read order number line rest)
  fused_line order state number line later rest h =
      fused_tests (nat_le (length line) longest_line) (is_skipped line) (read order line) order state number later rest
      h

  fused_last : (order : Q) (state : S) (number : ℕ) (bytes : List ℕ) (close : Close) →
      given_last (turn_of machine read) (order, state) number bytes close
      ≡ fold_lines machine state (lines_last read order number bytes close)
  fused_last order state number bytes opened = refl
  fused_last order state number bytes full = refl
  fused_last order state number [] ended = refl
  fused_last order state number (byte ∷ bytes) ended =
      fused_line order state number (trim (byte ∷ bytes)) (λ next. bad (number + 1) NoEnd)
      (λ next. last (bad_at (number + 1) NoEnd))
      (λ order next. refl)

  fused_behind : (endless : Bool) (order : Q) (state : S) (number : ℕ) (bytes : List ℕ) (close : Close) →
      (if endless then bad number LineTooLong else given_last (turn_of machine read) (order, state) number bytes close)
      ≡ fold_lines machine state
      (if endless then last (bad_at number LineTooLong) else lines_last read order number bytes close)
  fused_behind true order state number bytes close = refl
  fused_behind false order state number bytes close = fused_last order state number bytes close

  pub fused_from : (c : Cut) (order : Q) (state : S) (number : ℕ) (close : Close) →
      given_from (turn_of machine read) (order, state) number c close
      ≡ fold_lines machine state (lines_from read order number c close)
  fused_from (whole line more) order state number close =
      fused_line order state number (trim line) (λ next. given_from (turn_of machine read) next (number + 1) more close)
      (λ next. lines_from read next (number + 1) more close)
      (λ order next. fused_from more order next (number + 1) close)
  fused_from (behind bytes) order state number close =
      fused_behind (nat_le endless_line (length bytes)) order state number bytes close

  pub fuses_law : Fuses read machine
  fuses_law limit order state bytes close =
      fused_from (cut (take limit bytes)) order state 1 (if nat_le limit (length bytes) then full else close)
