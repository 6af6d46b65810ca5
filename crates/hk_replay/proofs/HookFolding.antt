-- Reading a hook is its machine, going through the lines; nothing is printed while they are right.
use Rattle.std.proofs.Common.{◌≡◌, ℕ, ◌+◌, nat_le, Bool, true, false, if◌then◌else◌, List, [], ◌∷◌, length, take}
use Rattle.std.proofs.Common.{Option, Some, None, Result, Ok, Err, ap, sym, subst, ◌∙◌, refl}
use Rattle.hk_lines.specs.Cut.{Cut, behind, whole, cut, trim, is_skipped}
use Rattle.hk_lines.specs.Given.{Close, opened, ended, full, given}
use Rattle.hk_lines.specs.Lines.{Lines, right, last, at_end, bad_at, at_limit, unended, turned, turn_of, lines}
use Rattle.hk_lines.specs.Lines.{fold_lines}
use Rattle.hk_lines.specs.Lines.{after_read, lines_last, lines_from}
use Rattle.hk_lines.specs.Numbers.{longest_line, endless_line}
use Rattle.hk_lines.specs.Reached.{state_after, state_last, state_from}
use Rattle.hk_lines.specs.declared.rule.Rule.TheVariants.{LineTooLong, NoEnd}
use Rattle.hk_lines.proofs.Fusing.{fuses_law}
use Rattle.hk_lines.specs.Taken.{read_if}
use Rattle.hk_lines.specs.declared.input_line.InputLine.{InputLine}
use Rattle.hk_lines.specs.declared.input_line.InputLine.TheVariants.{Account, Ledger, Tx, Hook, End}
use Rattle.hk_lines.specs.declared.line_fault.LineFault.{LineFault}
use Rattle.hk_lines.specs.declared.status.Status.{Status}
use Rattle.hk_lines.specs.declared.status.Status.TheVariants.{Done, BadInput, TooLong}
use Rattle.hk_replay.specs.HookLines.{hook_turn, hook_read, hook_step, hook_ordered, hook_ordered_read, hook_line}
use Rattle.hk_replay.specs.HookLines.{hook_machine, last_code, HookFolds}
use Rattle.hk_replay.specs.Words.{is_hook_line}
use Rattle.hk_replay.proofs.Together.{SameTurn, same_given}

abbrev held_if : Bool → List ℕ → Option (List ℕ)
held_if false code = None
held_if true code = Some code

-- the code that is held
abbrev Holds : Bool × List ℕ → Option (List ℕ) → Type 0
Holds p held = held ≡ held_if p.0 p.1

hook_ordered_same : (came : Bool) (code : List ℕ) (line : InputLine) →
    SameTurn Holds (turned hook_machine code (hook_ordered came line)) (hook_step (held_if came code) line)
hook_ordered_same false code (Hook more) = (refl, refl)
hook_ordered_same true code (Hook more) = refl
hook_ordered_same false code End = refl
hook_ordered_same true code End = (refl, refl)
hook_ordered_same false code (Account id balance sequence) = refl
hook_ordered_same true code (Account id balance sequence) = refl
hook_ordered_same false code (Ledger seq time last_hash) = refl
hook_ordered_same true code (Ledger seq time last_hash) = refl
hook_ordered_same false code (Tx verdict blob) = refl
hook_ordered_same true code (Tx verdict blob) = refl

hook_read_same : (came : Bool) (code : List ℕ) (answer : Result InputLine LineFault) →
    SameTurn Holds (turned hook_machine code (hook_ordered_read came answer)) (hook_read (held_if came code) answer)
hook_read_same came code (Ok line) = hook_ordered_same came code line
hook_read_same came code (Err fault) = refl

hook_same : (p : Bool × List ℕ) (held : Option (List ℕ)) (line : List ℕ) → Holds p held →
    SameTurn Holds (turn_of hook_machine hook_line p line) (hook_turn held line)
hook_same p held line is =
    subst (λ h. SameTurn Holds (turn_of hook_machine hook_line p line) (hook_turn h line)) (sym is)
    (hook_read_same p.0 p.1 (read_if (is_hook_line line) line))

is_fold : (limit : ℕ) (bytes : List ℕ) (close : Close) →
    given hook_turn limit None bytes close ≡ fold_lines hook_machine [] (lines hook_line limit false bytes close)
is_fold limit bytes close =
    sym (same_given Holds (turn_of hook_machine hook_line) hook_turn hook_same limit (false, []) None bytes close refl)
    ∙ fuses_law hook_line hook_machine limit false [] bytes close

-- ---- lines that are done lead to the last code

-- going through the lines ends so
abbrev IsDone : List ℕ → Lines (List ℕ) → Type 0
IsDone code found = (fold_lines hook_machine code found).status ≡ Some Done

-- what comes behind leads to the last code
abbrev LeadsTo : (Option (List ℕ) → Option (List ℕ)) → (Bool → Lines (List ℕ)) → Type 0
LeadsTo later rest =
    (came : Bool) (code : List ℕ) → IsDone code (rest came) →
    later (held_if came code) ≡ Some (last_code code (rest came))

not_done : {A : Type 0} → Some BadInput ≡ Some Done → A
not_done bad = absurd (cc)

ordered_leads : (came : Bool) (code : List ℕ) (line : InputLine) (number : ℕ)
    (later : Option (List ℕ) → Option (List ℕ)) (rest : Bool → Lines (List ℕ)) → LeadsTo later rest →
    IsDone code (after_read hook_line (hook_ordered came line) number rest) →
    state_after hook_turn (held_if came code) (hook_step (held_if came code) line) later
    ≡ Some (last_code code (after_read hook_line (hook_ordered came line) number rest))
ordered_leads false code (Hook more) number later rest h done = h true more done
ordered_leads true code End number later rest h done = refl
ordered_leads true code (Hook more) number later rest h done = not_done done
ordered_leads false code End number later rest h done = not_done done
ordered_leads false code (Account id balance sequence) number later rest h done = not_done done
ordered_leads true code (Account id balance sequence) number later rest h done = not_done done
ordered_leads false code (Ledger seq time last_hash) number later rest h done = not_done done
ordered_leads true code (Ledger seq time last_hash) number later rest h done = not_done done
ordered_leads false code (Tx verdict blob) number later rest h done = not_done done
ordered_leads true code (Tx verdict blob) number later rest h done = not_done done

read_leads : (came : Bool) (code : List ℕ) (answer : Result InputLine LineFault) (number : ℕ)
    (later : Option (List ℕ) → Option (List ℕ)) (rest : Bool → Lines (List ℕ)) → LeadsTo later rest →
    IsDone code (after_read hook_line (hook_ordered_read came answer) number rest) →
    state_after hook_turn (held_if came code) (hook_read (held_if came code) answer) later
    ≡ Some (last_code code (after_read hook_line (hook_ordered_read came answer) number rest))
read_leads came code (Ok line) number later rest h done = ordered_leads came code line number later rest h done
read_leads came code (Err fault) number later rest h done = not_done done

tests_lead : (short skipped : Bool) (came : Bool) (code : List ℕ) (answer : Result InputLine LineFault) (number : ℕ)
    (later : Option (List ℕ) → Option (List ℕ)) (rest : Bool → Lines (List ℕ)) → LeadsTo later rest →
    IsDone code
    (if short then
    (if skipped then rest came else after_read hook_line (hook_ordered_read came answer) number rest)
    else last (bad_at number LineTooLong)) →
    (if short then
    (if skipped then later (held_if came code)
    else state_after hook_turn (held_if came code) (hook_read (held_if came code) answer) later)
    else held_if came code)
    ≡ Some (last_code code
    (if short then
    (if skipped then rest came else after_read hook_line (hook_ordered_read came answer) number rest)
    else last (bad_at number LineTooLong)))
tests_lead true true came code answer number later rest h done = h came code done
tests_lead true false came code answer number later rest h done = read_leads came code answer number later rest h done
tests_lead false skipped came code answer number later rest h done = not_done done

last_leads : (came : Bool) (code : List ℕ) (number : ℕ) (bytes : List ℕ) (close : Close) →
    IsDone code (lines_last hook_line came number bytes close) →
    state_last hook_turn (held_if came code) bytes ≡ Some
    (last_code code (lines_last hook_line came number bytes close))
last_leads came code number bytes opened done = let no : None ≡ Some Done = done in absurd (cc)
last_leads came code number bytes full done = let no : Some TooLong ≡ Some Done = done in absurd (cc)
last_leads came code number [] ended done = not_done done
last_leads came code number (byte ∷ bytes) ended done =
    let line = trim (byte ∷ bytes) in
    tests_lead (nat_le (length line) longest_line) (is_skipped line) came code
    (read_if (is_hook_line line) line) number
    (λ next. next) (λ next. last (bad_at (number + 1) NoEnd)) (λ came code over. not_done over) done

behind_leads : (endless : Bool) (came : Bool) (code : List ℕ) (number : ℕ) (bytes : List ℕ) (close : Close) →
    IsDone code (if endless then last (bad_at number LineTooLong) else lines_last hook_line came number bytes close) →
    state_last hook_turn (held_if came code) bytes
    ≡ Some (last_code code
    (if endless then last (bad_at number LineTooLong) else lines_last hook_line came number bytes close))
behind_leads true came code number bytes close done = not_done done
behind_leads false came code number bytes close done = last_leads came code number bytes close done

leads_from : (c : Cut) (came : Bool) (code : List ℕ) (number : ℕ) (close : Close) →
    IsDone code (lines_from hook_line came number c close) →
    state_from hook_turn (held_if came code) c ≡ Some (last_code code (lines_from hook_line came number c close))
leads_from (whole line more) came code number close done =
    let text = trim line in
    tests_lead (nat_le (length text) longest_line) (is_skipped text) came code
    (read_if (is_hook_line text) text) number
    (λ next. state_from hook_turn next more) (λ next. lines_from hook_line next (number + 1) more close)
    (λ came code over. leads_from more came code (number + 1) close over) done
leads_from (behind bytes) came code number close done =
    behind_leads (nat_le endless_line (length bytes)) came code number bytes close done

pub hook_folds : HookFolds
hook_folds limit bytes close = record {
  folds = is_fold limit bytes close;
  leads = λ done.
      leads_from (cut (take limit bytes)) false [] 1 (if nat_le limit (length bytes) then full else close)
      (ap (λ g. g.status) (sym (is_fold limit bytes close)) ∙ done);
}

-- ---- right lines print nothing

-- the lines go on, or are done
abbrev pub IsRight : Option Status → Type 0
IsRight None = Unit {0}
IsRight (Some Done) = Unit {0}
IsRight (Some other) = ⊥

fold_silent : (held : List ℕ) (found : Lines (List ℕ)) → IsRight (fold_lines hook_machine held found).status →
    (fold_lines hook_machine held found).text ≡ []
fold_silent held (right code more) is = fold_silent code more is
fold_silent held (last at_end) is = refl
fold_silent held (last unended) is = refl
fold_silent held (last (bad_at number rule)) is = absurd is
fold_silent held (last at_limit) is = absurd is

pub hook_silent : (limit : ℕ) (bytes : List ℕ) (close : Close) →
    IsRight (given hook_turn limit None bytes close).status →
    (given hook_turn limit None bytes close).text ≡ []
hook_silent limit bytes close is =
    let fold = is_fold limit bytes close in
    ap (λ g. g.text) fold
    ∙ fold_silent [] (lines hook_line limit false bytes close) (subst (λ g. IsRight g.status) fold is)
