-- What has ended stays as it is, whatever comes behind it.
use Rattle.std.proofs.Common.{◌≡◌, ℕ, ◌+◌, ◌≤◌, nat_le, Bool, true, false, if◌then◌else◌, List, length, Option, Some}
use Rattle.std.proofs.Common.{None, refl, sym, ap, ◌∙◌, arith}
use Rattle.std.proofs.lemmas.Bool.Decides.{nat_tests}
use Rattle.hk_lines.specs.Cut.{Cut, behind, whole, begun, joined, trim, is_skipped}
use Rattle.hk_lines.specs.Given.{Close, opened, Given, after, bad, Turn, goes, ends, wrong, after_turn, given_line}
use Rattle.hk_lines.specs.Given.{given_last, given_from}
use Rattle.hk_lines.specs.Numbers.{longest_line, endless_line}
use Rattle.hk_lines.specs.declared.rule.Rule.TheVariants.{LineTooLong}
use Rattle.hk_lines.specs.declared.status.Status.{Status}
use Rattle.hk_lines.proofs.Due.{endless}

-- where the earlier has a status, the later is the same
pub record Stays (early late : Given) : Type 0 where
  pub same : (status : Status) → early.status ≡ Some status → late ≡ early

stays_at : (given : Given) → Stays given given
stays_at given = record { same = λ status is. refl }

module _ {S : Type 0} (turn : S → List ℕ → Turn S) where
  turn_stays : (answer : Turn S) (number : ℕ) (early late : S → Given) →
      ((state : S) → Stays (early state) (late state)) →
      Stays (after_turn turn answer number early) (after_turn turn answer number late)
  turn_stays (goes state text) number early late h = record {
    same = λ status is. ap (after text) ((h state).same status is);
  }
  turn_stays (ends text status) number early late h = stays_at _
  turn_stays (wrong rule) number early late h = stays_at _

  tests_stay : (short skipped : Bool) (answer : Turn S) (state : S) (number : ℕ) (early late : S → Given) →
      ((state : S) → Stays (early state) (late state)) →
      Stays
      (if short then (if skipped then early state else after_turn turn answer number early) else bad number LineTooLong)
      (if short then (if skipped then late state else after_turn turn answer number late) else bad number LineTooLong)
  tests_stay true true answer state number early late h = h state
  tests_stay true false answer state number early late h = turn_stays answer number early late h
  tests_stay false skipped answer state number early late h = stays_at _

  line_stays : (state : S) (number : ℕ) (line : List ℕ) (early late : S → Given) →
      ((state : S) → Stays (early state) (late state)) →
      Stays (given_line turn state number line early) (given_line turn state number line late)
  line_stays state number line early late h =
      tests_stay (nat_le (length line) longest_line) (is_skipped line) (turn state line) state number early late h

  last_stays : (test : Bool) (state : S) (number : ℕ) (bytes : List ℕ) (more : Cut) (close : Close) →
      nat_le endless_line (length bytes) ≡ test →
      Stays
      (if test then bad number LineTooLong else given_last turn state number bytes opened)
      (given_from turn state number (begun bytes more) close)
  last_stays true state number bytes more close h =
      let long : endless_line ≤ length bytes = grind (arith, nat_tests) in
      record { same = λ status is. endless turn state number bytes more close long }
  last_stays false state number bytes more close h = record { same = λ status is. cc }

  -- lines that have ended, and any behind them
  pub from_stays : (c next : Cut) (state : S) (number : ℕ) (close : Close) →
      Stays (given_from turn state number c opened) (given_from turn state number (joined c next) close)
  from_stays (whole line more) next state number close =
      line_stays state number (trim line) (λ state. given_from turn state (number + 1) more opened)
      (λ state. given_from turn state (number + 1) (joined more next) close)
      (λ state. from_stays more next state (number + 1) close)
  from_stays (behind bytes) next state number close =
      last_stays (nat_le endless_line (length bytes)) state number bytes next close refl

-- where the later hasn't ended, the earlier hadn't
pub not_yet : (early late : Given) → Stays early late → late.status ≡ None → early.status ≡ None
not_yet early late stays none = of early.status refl where
  of : (found : Option Status) → early.status ≡ found → found ≡ None
  of None is = refl
  of (Some status) is =
      let same : late ≡ early = stays.same status is in
      let both : late.status ≡ Some status = ap (λ g. g.status) same ∙ is in
      absurd (cc)
