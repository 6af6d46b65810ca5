-- What is due stays due.
use Rattle.std.proofs.Common.{◌≡◌, ℕ, ◌+◌, ◌-◌, ◌<◌, ◌≤◌, nat_le, Bool, true, false, if◌then◌else◌, List, [], ◌++◌}
use Rattle.std.proofs.Common.{length, take, refl, sym, ap, subst, ◌∙◌, inl, inr, arith, append_assoc, append-nil}
use Rattle.std.proofs.Common.{length-append}
use Rattle.std.proofs.lemmas.Bool.Decides.{leb_tells, nat_tests}
use Rattle.std.proofs.Math.Seq.{take-append-add}
use Rattle.std.proofs.lemmas.List.{take-append-le, take_all}
use Rattle.hk_lines.specs.Cut.{Cut, behind, whole, cut, begun, joined, trim, is_skipped}
use Rattle.hk_lines.specs.Given.{Close, opened, full, Given, bad, Turn, goes, ends, wrong, after_turn, given_line}
use Rattle.hk_lines.specs.Given.{given_last, given_from, close_of, given, so_far, IsFront, StaysDue}
use Rattle.hk_lines.specs.Numbers.{longest_line, endless_line}
use Rattle.hk_lines.specs.declared.rule.Rule.TheVariants.{LineTooLong}
use Rattle.hk_lines.proofs.CutLemmas.{cut_joined, trim_length}

-- nothing is a front, and a text is a front of itself
pub front_none : (text : List ℕ) → IsFront [] text
front_none text = (text, refl)

pub front_same : (front text : List ℕ) → text ≡ front → IsFront front text
front_same front text e = ([], e ∙ sym (append-nil front))

-- a text before both
pub front_after : (text front all : List ℕ) → IsFront front all → IsFront (text ++ front) (text ++ all)
front_after text front all is = (is.0, ap (λ t. text ++ t) is.1 ∙ sym (append_assoc text front is.0))

module _ {S : Type 0} (turn : S → List ℕ → Turn S) where
  -- behind a line's turn
  turn_front : (answer : Turn S) (number : ℕ) (early late : S → Given) →
      ((state : S) → IsFront (early state).text (late state).text) →
      IsFront (after_turn turn answer number early).text (after_turn turn answer number late).text
  turn_front (goes state text) number early late h = front_after text (early state).text (late state).text (h state)
  turn_front (ends text status) number early late h = front_same text text refl
  turn_front (wrong rule) number early late h = front_same _ _ refl

  -- the same under the two tests of a line
  tests_front : (short skipped : Bool) (answer : Turn S) (state : S) (number : ℕ) (early late : S → Given) →
      ((state : S) → IsFront (early state).text (late state).text) →
      IsFront
      (if short then (if skipped then early state else after_turn turn answer number early)
      else bad number LineTooLong).text
      (if short then (if skipped then late state else after_turn turn answer number late)
      else bad number LineTooLong).text
  tests_front true true answer state number early late h = h state
  tests_front true false answer state number early late h = turn_front answer number early late h
  tests_front false skipped answer state number early late h = front_same _ _ refl

  line_front : (state : S) (number : ℕ) (line : List ℕ) (early late : S → Given) →
      ((state : S) → IsFront (early state).text (late state).text) →
      IsFront (given_line turn state number line early).text (given_line turn state number line late).text
  line_front state number line early late h =
      tests_front (nat_le (length line) longest_line) (is_skipped line) (turn state line) state number early late h

  -- a line that begins with so many bytes is too long, however it goes on
  pub endless : (state : S) (number : ℕ) (bytes : List ℕ) (more : Cut) (close : Close) → endless_line ≤ length bytes →
      given_from turn state number (begun bytes more) close ≡ bad number LineTooLong
  endless state number bytes (behind rest) close long =
      let all : endless_line ≤ length (bytes ++ rest) = omega (arith, length-append bytes rest) in
      let test : nat_le endless_line (length (bytes ++ rest)) ≡ true = grind (arith, nat_tests) in
      rw test refl
  endless state number bytes (whole line more) close long =
      let trimmed : length (bytes ++ line) ≤ length (trim (bytes ++ line)) + 1 = trim_length (bytes ++ line) in
      let all : endless_line ≤ length (bytes ++ line) = omega (arith, length-append bytes line) in
      let test : nat_le (length (trim (bytes ++ line))) longest_line ≡ false = grind (arith, nat_tests) in
      rw test refl

  -- what is due of an unfinished line: nothing, or that it is too long
  last_front : (test : Bool) (state : S) (number : ℕ) (bytes : List ℕ) (more : Cut) (close : Close) →
      nat_le endless_line (length bytes) ≡ test →
      IsFront
      (if test then bad number LineTooLong else given_last turn state number bytes opened).text
      (given_from turn state number (begun bytes more) close).text
  last_front true state number bytes more close h =
      let long : endless_line ≤ length bytes = grind (arith, nat_tests) in
      front_same _ _ (ap (λ g. g.text) (endless state number bytes more close long))
  last_front false state number bytes more close h = front_none _

  -- what is due of lines is a front of what they give with any behind them
  pub from_front : (c next : Cut) (state : S) (number : ℕ) (close : Close) →
      IsFront (given_from turn state number c opened).text (given_from turn state number (joined c next) close).text
  from_front (whole line more) next state number close =
      line_front state number (trim line) (λ state. given_from turn state (number + 1) more opened)
      (λ state. given_from turn state (number + 1) (joined more next) close)
      (λ state. from_front more next state (number + 1) close)
  from_front (behind bytes) next state number close =
      last_front (nat_le endless_line (length bytes)) state number bytes next close refl

  -- at the limit nothing behind it is looked at
  pub given_full : (limit : ℕ) (start : S) (bytes : List ℕ) (close : Close) → limit ≤ length bytes →
      given turn limit start bytes close ≡ given_from turn start 1 (cut (take limit bytes)) full
  given_full limit start bytes close reached =
      let test : nat_le limit (length bytes) ≡ true = grind (arith, nat_tests) in
      ap (λ t. given_from turn start 1 (cut (take limit bytes)) (if t then full else close)) test

  -- below the limit all is looked at
  pub given_short : (limit : ℕ) (start : S) (bytes : List ℕ) (close : Close) → length bytes < limit →
      given turn limit start bytes close ≡ given_from turn start 1 (cut bytes) close
  given_short limit start bytes close below =
      let test : nat_le limit (length bytes) ≡ false = grind (arith, nat_tests) in
      let all : take limit bytes ≡ bytes = take_all limit bytes (omega arith) in
      ap (λ t. given_from turn start 1 (cut (take limit bytes)) (if t then full else close)) test
      ∙ ap (λ b. given_from turn start 1 (cut b) close) all

  due_full : (limit : ℕ) (start : S) (front back : List ℕ) (close : Close) → limit ≤ length front →
      IsFront (so_far turn limit start front) (given turn limit start (front ++ back) close).text
  due_full limit start front back close reached =
      let longer : limit ≤ length (front ++ back) = omega (arith, length-append front back) in
      let same : take limit (front ++ back) ≡ take limit front = take-append-le limit front back reached in
      front_same _ _ (ap (λ g. g.text)
      (given_full limit start (front ++ back) close longer
      ∙ ap (λ b. given_from turn start 1 (cut b) full) same
      ∙ sym (given_full limit start front opened reached)))

  due_short : (limit : ℕ) (start : S) (front back : List ℕ) (close : Close) → length front < limit →
      IsFront (so_far turn limit start front) (given turn limit start (front ++ back) close).text
  due_short limit start front back close below =
      let rest : List ℕ = take (limit - length front) back in
      let sum : limit ≡ length front + (limit - length front) = omega arith in
      let taken : take limit (front ++ back) ≡ front ++ rest =
      ap (λ n. take n (front ++ back)) sum ∙ take-append-add front back (limit - length front) in
      let cuts : cut (take limit (front ++ back)) ≡ joined (cut front) (cut rest) =
      ap cut taken ∙ cut_joined front rest in
      let early : given_from turn start 1 (cut front) opened ≡ given turn limit start front opened =
      sym (given_short limit start front opened below) in
      let late : given_from turn start 1 (joined (cut front) (cut rest)) (close_of turn limit (front ++ back) close)
      ≡ given turn limit start (front ++ back) close
      = ap (λ c. given_from turn start 1 c (close_of turn limit (front ++ back) close)) (sym cuts) in
      subst (λ g. IsFront g.text (given turn limit start (front ++ back) close).text) early
      (subst (λ g. IsFront (given_from turn start 1 (cut front) opened).text g.text) late
      (from_front (cut front) (cut rest) start 1 (close_of turn limit (front ++ back) close)))

  pub stays_due_law : StaysDue turn
  stays_due_law limit start front back close =
      elim (leb_tells limit (length front)) [
        | inl reached ↦ due_full limit start front back close reached.1
        | inr below ↦ due_short limit start front back close below.1
      ]
