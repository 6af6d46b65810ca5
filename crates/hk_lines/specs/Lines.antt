-- The lines of bytes, and a machine that goes through them (this project's own).
use Rattle.std.specs.Prelude.{◌≡◌, ℕ, ◌+◌, nat_le, if◌then◌else◌, List, [], ◌∷◌, length, take, Some, None}
use Rattle.hk_lines.specs.Cut.{Cut, behind, whole, cut, trim, is_skipped}
use Rattle.hk_lines.specs.Given.{Close, opened, ended, full, Given, after, bad, too_long, Turn, goes, ends, wrong}
use Rattle.hk_lines.specs.Given.{given}
use Rattle.hk_lines.specs.Numbers.{longest_line, endless_line}
use Rattle.hk_lines.specs.declared.rule.Rule.{Rule}
use Rattle.hk_lines.specs.declared.rule.Rule.TheVariants.{LineTooLong, NoEnd}
use Rattle.hk_lines.specs.declared.status.Status.{Status}

-- how lines end: with the last line of a file, at a wrong line, at the limit of the input, or not yet
pub data Ending : Type 0 where
  at_end : Ending
  bad_at : ℕ → Rule → Ending
  at_limit : Ending
  unended : Ending

-- the right lines in order, and how they end
pub data Lines (L : Type 0) : Type 0 where
  right : L → Lines L → Lines L
  last : Ending → Lines L

-- what a line is: a right one, the last one, or a wrong one; what decides over the order of lines goes on with the
-- first
pub data Read (Q L : Type 0) : Type 0 where
  takes : Q → L → Read Q L
  closes : Read Q L
  refuses : Rule → Read Q L

module _ {Q L : Type 0} (read : Q → List ℕ → Read Q L) where
  abbrev pub after_read : Read Q L → ℕ → (Q → Lines L) → Lines L
  after_read (takes order line) number later = right line (later order)
  after_read closes number later = last at_end
  after_read (refuses rule) number later = last (bad_at number rule)

  -- a line: its length is tested first, then it may be skipped
  abbrev pub lines_line : Q → ℕ → List ℕ → (Q → Lines L) → Lines L
  lines_line order number line later =
      if nat_le (length line) longest_line then
      (if is_skipped line then later order else after_read (read order line) number later)
      else last (bad_at number LineTooLong)

  -- the bytes behind the last line feed
  abbrev pub lines_last : Q → ℕ → List ℕ → Close → Lines L
  lines_last order number bytes opened = last unended
  lines_last order number bytes full = last at_limit
  lines_last order number [] ended = last (bad_at number NoEnd)
  lines_last order number (byte ∷ bytes) ended =
      lines_line order number (trim (byte ∷ bytes)) (λ next. last (bad_at (number + 1) NoEnd))

  -- lines from an order and a number on
  abbrev pub lines_from : Q → ℕ → Cut → Close → Lines L
  lines_from order number (whole line more) close =
      lines_line order number (trim line) (λ next. lines_from next (number + 1) more close)
  lines_from order number (behind bytes) close =
      if nat_le endless_line (length bytes) then last (bad_at number LineTooLong)
      else lines_last order number bytes close

  -- the lines of the bytes up to the limit
  abbrev pub lines : ℕ → Q → List ℕ → Close → Lines L
  lines limit order bytes close =
      lines_from order 1 (cut (take limit bytes)) (if nat_le limit (length bytes) then full else close)

-- a machine: what a right line makes of its state and prints, and what it prints and answers at the end
pub record Machine (S L : Type 0) : Type 0 where
  pub step : S → L → S × List ℕ
  pub final_text : S → List ℕ
  pub final_status : S → Status

module _ {S L : Type 0} (machine : Machine S L) where
  -- the machine goes through the lines
  abbrev pub fold_lines : S → Lines L → Given
  fold_lines state (right line more) = after (machine.step state line).1 (fold_lines (machine.step state line).0 more)
  fold_lines state (last at_end) = record {
    text = machine.final_text state;
    status = Some (machine.final_status state);
  }
  fold_lines state (last (bad_at number rule)) = bad number rule
  fold_lines state (last at_limit) = too_long
  fold_lines state (last unended) = record { text = []; status = None }

  -- what one line does, where it is read and at once handed to the machine
  abbrev pub turned : {Q : Type 0} → S → Read Q L → Turn (Q × S)
  turned state (takes order line) = goes (order, (machine.step state line).0) (machine.step state line).1
  turned state closes = ends (machine.final_text state) (machine.final_status state)
  turned state (refuses rule) = wrong rule

  abbrev pub turn_of : {Q : Type 0} → (Q → List ℕ → Read Q L) → Q × S → List ℕ → Turn (Q × S)
  turn_of read (order, state) line = turned state (read order line)

-- reading and running line by line gives what the machine gives for the lines
abbrev pub Fuses : {Q S L : Type 0} → (Q → List ℕ → Read Q L) → Machine S L → Type 0
Fuses {Q} {S} {L} read machine =
    (limit : ℕ) (order : Q) (state : S) (bytes : List ℕ) (close : Close) →
    given (turn_of machine read) limit (order, state) bytes close
    ≡ fold_lines machine state (lines read limit order bytes close)
