-- A replay that is done prints what the ledger machine prints for the lines of its input, so no drop comes or goes.
use Rattle.std.proofs.Common.{◌≡◌, ℕ, ◌+◌, nat_le, Bool, true, false, if◌then◌else◌, List, [], ◌∷◌, ◌++◌, length}
use Rattle.std.proofs.Common.{take, Option, Some, Result, Ok, Err, ap, sym, subst, ◌∙◌, refl, append_assoc}
use Rattle.std.proofs.Common.{append-nil}
use Rattle.std.specs.Option.{option_map}
use Rattle.std.specs.Io.KnownBytes.{Appends}
use Rattle.hk_lines.specs.Cut.{Cut, behind, whole, cut, trim, is_skipped}
use Rattle.hk_lines.specs.Given.{Close, opened, ended, full, Given, bad, after_turn, given_line, given_last}
use Rattle.hk_lines.specs.Given.{given_from, close_of}
use Rattle.hk_lines.specs.InputForms.{line_read}
use Rattle.hk_lines.specs.Numbers.{longest_line, endless_line, longest_input}
use Rattle.hk_lines.specs.OutputForms.{line_text}
use Rattle.hk_lines.specs.declared.input_line.InputLine.{InputLine}
use Rattle.hk_lines.specs.declared.input_line.InputLine.TheVariants.{Account, Ledger, Tx, Hook, End}
use Rattle.hk_lines.specs.declared.line_fault.LineFault.{LineFault}
use Rattle.hk_lines.specs.declared.output_line.OutputLine.{OutputLine}
use Rattle.hk_lines.specs.declared.output_line.OutputLine.TheVariants as shown
use Rattle.hk_lines.specs.declared.rule.Rule.TheVariants.{LineTooLong, NoEnd}
use Rattle.hk_lines.specs.declared.status.Status.{Status}
use Rattle.hk_lines.specs.declared.status.Status.TheVariants.{Done}
use Rattle.hk_loop.specs.Answers.{IsAnswer}
use Rattle.hk_ledger.specs.Machine.{State, start, Step, goes, ends, breaks, step}
use Rattle.hk_state.specs.Native.{native}
use Rattle.hk_ledger.specs.Replays.{Conserves, continued, replayed}
use Rattle.hk_replay.specs.declared.command.Command.TheVariants.{Replay}
use Rattle.hk_replay.specs.Conserved.{read_before, line_before, last_lines, cut_lines, input_lines, Conserved}
use Rattle.hk_replay.specs.Moved.{Answered}
use Rattle.hk_replay.specs.Told.{Told}
use Rattle.hk_whole.specs.Laws.{AccountsFor, BoundsCounts, TellsHistory}
use Rattle.hk_replay.specs.Replaying.{texts, printed, replay_read, replay_turn}
use Rattle.hk_lines.specs.Taken.{read_if}
use Rattle.hk_replay.specs.Words.{is_replay_line}

-- a text is that of the lines that a replay prints
record Shows (replay : Option (List OutputLine)) (text : List ℕ) : Type 0 where
  pub lines : List OutputLine
  pub is : replay ≡ Some lines
  pub told : text ≡ texts lines

texts_append : (front back : List OutputLine) → texts (front ++ back) ≡ texts front ++ texts back
texts_append [] back = refl
texts_append (line ∷ front) back =
    ap (λ t. line_text line ++ t) (texts_append front back)
    ∙ sym (append_assoc (line_text line) (texts front) (texts back))

-- lines that are printed before
behind_lines : (before : List OutputLine) (replay : Option (List OutputLine)) (text : List ℕ) → Shows replay text →
    Shows (option_map (λ more. before ++ more) replay) (texts before ++ text)
behind_lines before replay text s = record {
  lines = before ++ s.lines;
  is = ap (λ r. option_map (λ more. before ++ more) r) s.is;
  told = ap (λ t. texts before ++ t) s.told ∙ sym (texts_append before s.lines);
}

-- a line's step, and what comes behind it
step_shows : (done : Step) (number : ℕ) (later : State → Given) (rest : State → Option (List OutputLine)) →
    ((next : State) → (later next).status ≡ Some Done → Shows (rest next) (later next).text) →
    (after_turn replay_turn (printed done) number later).status ≡ Some Done →
    Shows (continued done rest) (after_turn replay_turn (printed done) number later).text
step_shows (goes next lines) number later rest h over = behind_lines lines (rest next) (later next).text (h next over)
step_shows (ends lines) number later rest h over = record { lines = lines; is = refl; told = refl }
step_shows (breaks rule) number later rest h over = absurd (cc)

read_shows : (answer : Result InputLine LineFault) (s : State) (number : ℕ) (later : State → Given)
    (rest : List InputLine) →
    ((next : State) → (later next).status ≡ Some Done → Shows (replayed native next rest) (later next).text) →
    (after_turn replay_turn (replay_read s answer) number later).status ≡ Some Done →
    Shows (replayed native s (read_before answer rest))
    (after_turn replay_turn (replay_read s answer) number later).text
read_shows (Ok (Account id balance sequence)) s number later rest h over =
    step_shows (step native s (Account id balance sequence)) number later (λ next. replayed native next rest) h over
read_shows (Ok (Ledger seq time last_hash)) s number later rest h over =
    step_shows (step native s (Ledger seq time last_hash)) number later (λ next. replayed native next rest) h over
read_shows (Ok (Tx verdict blob)) s number later rest h over =
    step_shows (step native s (Tx verdict blob)) number later (λ next. replayed native next rest) h over
read_shows (Ok (Hook code)) s number later rest h over = absurd (cc)
read_shows (Ok End) s number later rest h over = record { lines = _; is = refl; told = refl }
read_shows (Err fault) s number later rest h over = absurd (cc)

-- a line whose first word isn't a replay's is wrong
word_shows : (taken : Bool) (line : List ℕ) (s : State) (number : ℕ) (later : State → Given) (rest : List InputLine) →
    ((next : State) → (later next).status ≡ Some Done → Shows (replayed native next rest) (later next).text) →
    (after_turn replay_turn (replay_read s (read_if taken line)) number later).status ≡ Some Done →
    Shows (replayed native s (read_before (line_read line) rest))
    (after_turn replay_turn (replay_read s (read_if taken line)) number later).text
word_shows true line s number later rest h over = read_shows (line_read line) s number later rest h over
word_shows false line s number later rest h over = absurd (cc)

tests_show : (short skipped : Bool) (line : List ℕ) (s : State) (number : ℕ) (later : State → Given)
    (rest : List InputLine) →
    ((next : State) → (later next).status ≡ Some Done → Shows (replayed native next rest) (later next).text) →
    (if short then
    (if skipped then later s else after_turn replay_turn (replay_turn s line) number later)
    else bad number LineTooLong).status ≡ Some Done →
    Shows (replayed native s (if skipped then rest else read_before (line_read line) rest))
    (if short then
    (if skipped then later s else after_turn replay_turn (replay_turn s line) number later)
    else bad number LineTooLong).text
tests_show true true line s number later rest h over = h s over
tests_show true false line s number later rest h over =
    word_shows (is_replay_line line) line s number later rest h over
tests_show false skipped line s number later rest h over = absurd (cc)

line_shows : (line : List ℕ) (s : State) (number : ℕ) (later : State → Given) (rest : List InputLine) →
    ((next : State) → (later next).status ≡ Some Done → Shows (replayed native next rest) (later next).text) →
    (given_line replay_turn s number line later).status ≡ Some Done →
    Shows (replayed native s (line_before line rest)) (given_line replay_turn s number line later).text
line_shows line s number later rest h over =
    tests_show (nat_le (length line) longest_line) (is_skipped line) line s number later rest h over

last_shows : (bytes : List ℕ) (s : State) (number : ℕ) (close : Close) →
    (given_last replay_turn s number bytes close).status ≡ Some Done →
    Shows (replayed native s (last_lines bytes)) (given_last replay_turn s number bytes close).text
last_shows bytes s number opened over = absurd (cc)
last_shows bytes s number full over = absurd (cc)
last_shows [] s number ended over = absurd (cc)
last_shows (byte ∷ bytes) s number ended over =
    line_shows (trim (byte ∷ bytes)) s number (λ next. bad (number + 1) NoEnd) [] (λ next never. absurd (cc)) over

behind_shows : (endless : Bool) (bytes : List ℕ) (s : State) (number : ℕ) (close : Close) →
    (if endless then bad number LineTooLong else given_last replay_turn s number bytes close).status ≡ Some Done →
    Shows (replayed native s (last_lines bytes))
    (if endless then bad number LineTooLong else given_last replay_turn s number bytes close).text
behind_shows true bytes s number close over = absurd (cc)
behind_shows false bytes s number close over = last_shows bytes s number close over

-- what is printed for bytes is what the ledger machine prints for their lines
cut_shows : (c : Cut) (s : State) (number : ℕ) (close : Close) →
    (given_from replay_turn s number c close).status ≡ Some Done →
    Shows (replayed native s (cut_lines c)) (given_from replay_turn s number c close).text
cut_shows (whole line more) s number close over =
    line_shows (trim line) s number (λ next. given_from replay_turn next (number + 1) more close) (cut_lines more)
    (λ next. cut_shows more next (number + 1) close) over
cut_shows (behind bytes) s number close over =
    behind_shows (nat_le endless_line (length bytes)) bytes s number close over

-- the last two lines of a text
ending : (front : List OutputLine) (balances burnt : ℕ) →
    texts (front ++ shown.FinalTotal balances burnt ∷ shown.Done ∷ []) ≡ texts front ++
    (line_text (shown.FinalTotal balances burnt) ++ line_text shown.Done)
ending front balances burnt =
    texts_append front (shown.FinalTotal balances burnt ∷ shown.Done ∷ [])
    ∙ ap (λ t. texts front ++ (line_text (shown.FinalTotal balances burnt) ++ t)) (append-nil (line_text shown.Done))

sums : Conserves native → (bytes text : List ℕ) (before now : Option (List ℕ)) →
    Shows (replayed native start (input_lines bytes)) text →
    Appends before now text → Conserved bytes before now
sums law bytes text before now s wrote =
    let adds = law (input_lines bytes) s.lines s.is in
    let same : text ≡ texts adds.front ++
    (line_text (shown.FinalTotal adds.balances adds.burnt) ++ line_text shown.Done) =
    s.told ∙ ap texts adds.whole ∙ ending adds.front adds.balances adds.burnt in
    record {
      front = adds.front;
      balances = adds.balances;
      burnt = adds.burnt;
      wrote = subst (λ t. Appends before now t) same wrote;
      sum = adds.sum;
    }

-- a replay that is done shows what is printed for its lines
done_shows : (bytes : List ℕ) (before now : Option (List ℕ)) (a : Answered Replay bytes Done before now) →
    Shows (replayed native start (input_lines bytes)) a.text
done_shows bytes before now a =
    subst (λ t. Shows (replayed native start (input_lines bytes)) t) (sym a.given.0)
    (cut_shows (cut (take longest_input bytes)) start 1 (close_of replay_turn longest_input bytes ended) a.given.1)

done_answered : (bytes : List ℕ) (status : Status) (before now : Option (List ℕ)) → status ≡ Done →
    (IsAnswer status → Answered Replay bytes status before now) → Answered Replay bytes Done before now
done_answered bytes status before now is answered =
    subst (λ s. Answered Replay bytes s before now) is (answered (subst IsAnswer (sym is) tt))

pub done_conserved : Conserves native → (bytes : List ℕ) (status : Status) (before now : Option (List ℕ)) →
    status ≡ Done → (IsAnswer status → Answered Replay bytes status before now) →
    Conserved bytes before now
done_conserved law bytes status before now is answered =
    let a = done_answered bytes status before now is answered in
    sums law bytes a.text before now (done_shows bytes before now a) a.wrote

-- and what its lines tell
pub done_told : BoundsCounts native → AccountsFor native → TellsHistory native → (bytes : List ℕ) (status : Status)
    (before now : Option (List ℕ)) → status ≡ Done →
    (IsAnswer status → Answered Replay bytes status before now) → Told bytes before now
done_told bounds accounts history bytes status before now is answered =
    let a = done_answered bytes status before now is answered in
    let s = done_shows bytes before now a in
    record {
      lines = s.lines;
      wrote = subst (λ t. Appends before now t) s.told a.wrote;
      bounded = bounds (input_lines bytes) s.lines s.is;
      accounts = accounts (input_lines bytes) s.lines s.is;
      history = history (input_lines bytes) s.lines s.is;
    }
