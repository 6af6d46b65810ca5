-- The settlements of an opened ledger, one after the other.
use Rattle.std.proofs.Common.{◌≡◌, ◌∙◌, ℕ, ◌+◌, ◌≤◌, ◌<◌, Bool, true, false, List, [], ◌∷◌, ◌++◌, arith, refl, sym, ap}
use Rattle.std.proofs.Common.{subst, append_assoc, append-nil, Option, Some, None}
use Rattle.std.specs.declared.cmp.Ordering.{Ordering}
use Rattle.std.specs.declared.cmp.Ordering.TheVariants.{Less, Equal, Greater}
use Rattle.std.specs.Ordering.{nat_cmp, MatchOrdering}
use Rattle.std.specs.Cmp.{ranks}
use Rattle.std.specs.FinMap.{get, entries}
use Rattle.hk_lines.specs.declared.output_line.OutputLine.{OutputLine}
use Rattle.hk_state.specs.declared.key.Key.TheVariants as key
use Rattle.hk_state.specs.Ledger.{LedgerValue}
use Rattle.hk_draft.specs.Lists.{Each}
use Rattle.hk_draft.specs.Reads.{reads_emitted}
use Rattle.hk_events.specs.Engine.{Engine}
use Rattle.hk_events.specs.Events.{Event}
use Rattle.hk_events.specs.Good.{IsGood}
use Rattle.hk_events.specs.Laws.{DueAt, LeastDue}
use Rattle.hk_events.specs.Lawful.{IsLawful}
use Rattle.hk_events.specs.Settled.{Opened, and_then, due, first_settled, is_due, numbers, settle_next, settled}
use Rattle.hk_events.specs.Settled.{settled_all}
use Rattle.hk_events.proofs.Due.{Ascends, ascending, has, has_none, has_number}
use Rattle.hk_events.proofs.Settling.{due_law, finds_due, finds_none}
use Rattle.hk_settle.specs.Due.{IsNext, NoneFrom}
use Rattle.hk_settle.proofs.Ready.{due_there}
use Rattle.hk_ledger.specs.declared.report.Report.{Report}
use Rattle.hk_ledger.specs.Reports.{SettledSo, event_of}

-- numbers above one aren't in front of it
each_above : (number n : ℕ) (ms : List ℕ) → n < number + 1 → Each (λ m. number < m) ms → Each (λ m. n < m) ms
each_above number n [] low up = tt
each_above number n (m ∷ ms) low up = (let one = up.0 in omega (arith, one, low), each_above number n ms low up.1)

-- the next number that is due, where none is due below the first one asked for
module _ (ledger : LedgerValue) (from number : ℕ) (below : (n : ℕ) → n < from → DueAt ledger n → ⊥)
    (next : IsNext ledger from number) where
  none_before : (n : ℕ) → n < number → DueAt ledger n → ⊥
  none_before n low due = either (nat_cmp n from) (ranks n from)
    where
      either : (o : Ordering) → MatchOrdering o (n < from) (n ≡ from) (from < n) → ⊥
      either Less r = below n r due
      either Equal r = next.least n (omega (arith, r)) low due
      either Greater r = next.least n (omega (arith, r)) low due

  pub least_due : LeastDue ledger number
  least_due = finds_due ledger number next.due none_before

no_due : (ledger : LedgerValue) (from : ℕ) → ((n : ℕ) → n < from → DueAt ledger n → ⊥) → NoneFrom ledger from →
    due ledger ≡ []
no_due ledger from below none =
    finds_none ledger (λ n there. either n there (nat_cmp n from) (ranks n from))
  where
    either : (n : ℕ) → DueAt ledger n → (o : Ordering) → MatchOrdering o (n < from) (n ≡ from) (from < n) → ⊥
    either n there Less r = below n r there
    either n there Equal r = none n (omega (arith, r)) there
    either n there Greater r = none n (omega (arith, r)) there

none_low : (ledger : LedgerValue) (n : ℕ) → n < 0 → DueAt ledger n → ⊥
none_low ledger n low due = absurd (omega (arith, low))

-- the next settlement
pub next_settles : (e : Engine) (ledger : LedgerValue) (number : ℕ) → IsNext ledger 0 number →
    settle_next e ledger ≡ Some (settled e ledger number)
next_settles e ledger number next =
    ap (first_settled e ledger) (least_due ledger 0 number (none_low ledger) next).is

pub none_settles : (e : Engine) (ledger : LedgerValue) → NoneFrom ledger 0 → settle_next e ledger ≡ None
none_settles e ledger none = ap (first_settled e ledger) (no_due ledger 0 (none_low ledger) none)

-- after some settlements, in front of this number: those that are left come to what all came to at the start
pub record Underway (e : Engine) (start now : LedgerValue) (earlier all : List OutputLine) (from : ℕ) : Type 0 where
  pub below : (n : ℕ) → n < from → DueAt now n → ⊥
  pub ledger : (settled_all e start (due start)).ledger ≡ (settled_all e now (due now)).ledger
  pub lines : earlier ++ (settled_all e start (due start)).lines ≡ all ++ (settled_all e now (due now)).lines

pub underway_first : (e : Engine) (start : LedgerValue) (earlier : List OutputLine) →
    Underway e start start earlier earlier 0
underway_first e start earlier = record { below = none_low start; ledger = refl; lines = refl }

-- one more
module _ (e : Engine) (lawful : IsLawful e) (start now : LedgerValue) (earlier all : List OutputLine) (from number : ℕ)
    (good : IsGood e.reads_emitted now) (so : Underway e start now earlier all from)
    (next : IsNext now from number) where
  abbrev event : Event
  event = settled e now number

  abbrev least : LeastDue now number
  least = least_due now from number so.below next

  falls : due event.ledger ≡ least.later
  falls = due_law e now number least.later lawful good least.is

  rest : settled_all e now (due now) ≡ and_then event (settled_all e event.ledger (due event.ledger))
  rest =
      ap (settled_all e now) least.is
      ∙ ap (λ ns. and_then event (settled_all e event.ledger ns)) (sym falls)

  above : Each (λ m. number < m) least.later
  above = (subst Ascends least.is (ascending (is_due now.header.seq) now.entries)).0

  none_left : (n : ℕ) → n < number + 1 → DueAt event.ledger n → ⊥
  none_left n low there =
      let none : has n least.later ≡ false = has_none n least.later (each_above number n least.later low above) in
      let some : has n least.later ≡ true =
      ap (has n) (sym falls) ∙ has_number (is_due event.ledger.header.seq) n event.ledger.entries ∙ there in
      let bad : true ≡ false = sym some ∙ none in cc

  settled_more : (whole : List OutputLine) → whole ≡ all ++ event.lines →
      Underway e start event.ledger earlier whole (number + 1)
  settled_more whole is = record {
    below = none_left;
    ledger = so.ledger ∙ ap (λ (o : Opened). o.ledger) rest;
    lines =
        so.lines ∙ ap (λ (o : Opened). all ++ o.lines) rest
        ∙ sym (append_assoc all event.lines (settled_all e event.ledger (due event.ledger)).lines)
        ∙ ap (λ l. l ++ (settled_all e event.ledger (due event.ledger)).lines) (sym is);
  }

  pub underway_more : (after : LedgerValue) (report : Report) (whole : List OutputLine) →
      event_of after report ≡ event → whole ≡ all ++ report.lines →
      Underway e start after earlier whole (number + 1)
  underway_more after report whole is shown =
      subst (λ l. Underway e start l earlier whole (number + 1)) (sym (ap (λ (v : Event). v.ledger) is))
      (settled_more whole (shown ∙ ap (λ (v : Event). all ++ v.lines) is))

-- none is left
pub underway_end : (e : Engine) (start now : LedgerValue) (earlier all : List OutputLine) (from : ℕ) →
    Underway e start now earlier all from → NoneFrom now from → SettledSo e start now earlier all
underway_end e start now earlier all from so none =
    let left = ap (settled_all e now) (no_due now from so.below none) in
    record {
      ledger = sym (so.ledger ∙ ap (λ (o : Opened). o.ledger) left);
      lines = sym (so.lines ∙ ap (λ (o : Opened). all ++ o.lines) left ∙ append-nil all);
    }

-- the number of an emission that is due is below the next one
pub due_below : (ledger : LedgerValue) (number : ℕ) → IsGood reads_emitted ledger → DueAt ledger number →
    number < ledger.next
due_below ledger number good due = let there = due_there ledger number due in (good number _ there.at).0
