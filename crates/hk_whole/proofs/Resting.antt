-- What the lines from a ledger on say of its emissions.
use Rattle.std.proofs.Common.{◌≡◌, ◌∙◌, ℕ, ◌+◌, ◌<◌, ◌≤◌, true, false, List, [], ◌∷◌, ◌++◌, append_assoc}
use Rattle.std.proofs.Common.{sym, ap, subst, arith, Option, Some}
use Rattle.std.specs.declared.cmp.Ordering.{Ordering}
use Rattle.std.specs.declared.cmp.Ordering.TheVariants.{Less, Equal, Greater}
use Rattle.std.specs.Ordering.{nat_cmp, MatchOrdering}
use Rattle.std.specs.Cmp.{ranks}
use Rattle.std.specs.FinMap.{get}
use Rattle.hk_lines.specs.declared.output_line.OutputLine.{OutputLine}
use Rattle.hk_lines.specs.declared.output_line.OutputLine.TheVariants as printed
use Rattle.hk_lines.specs.declared.result_name.ResultName.{ResultName}
use Rattle.hk_state.specs.declared.key.Key.TheVariants as key
use Rattle.hk_state.specs.Ledger.{LedgerValue}
use Rattle.hk_events.specs.Engine.{Engine}
use Rattle.hk_events.specs.Good.{IsGood}
use Rattle.hk_events.specs.Lawful.{IsLawful}
use Rattle.hk_events.specs.Lists.{counted}
use Rattle.hk_events.specs.Settled.{due, is_due, passes, settled, settled_all}
use Rattle.hk_events.specs.Whole.{is_emit, is_settled}
use Rattle.hk_events.proofs.Due.{has, has_head, has_number}
use Rattle.hk_events.proofs.Settling.{settled_law, due_law}
use Rattle.hk_events.proofs.Words.{counted-append}
use Rattle.hk_final.specs.Counted.{is_queued, waiting}
use Rattle.hk_whole.specs.Accounts.{AreAsEmitted}
use Rattle.hk_whole.proofs.Inner.{IsFresh}
use Rattle.hk_whole.proofs.Passing.{IsTold, Passes}
use Rattle.hk_whole.proofs.Settlements.{settled_passes}

-- the lines from a ledger on, under a `ledger` line
pub record Rests (under : Option ℕ) (ledger : LedgerValue) (rest : List OutputLine) : Type 0 where
  pub once : (n : ℕ) → counted (is_emit n) rest ≤ 1
  pub low : (n : ℕ) → n < ledger.next → counted (is_emit n) rest ≡ 0
  -- what waits or is emitted is settled or told at the end
  pub closed : (n : ℕ) →
      counted (is_settled n) rest + counted (is_queued n) rest
      ≡ waiting (get ledger.entries (key.Emitted n)) + counted (is_emit n) rest
  pub as_emitted : (emits : List OutputLine) → IsTold emits ledger.entries → AreAsEmitted emits under rest
  pub called : IsFresh rest

-- an event in front
module _ (under : Option ℕ) (before after : LedgerValue) (lines rest : List OutputLine)
    (pass : Passes under before after lines) (rests : Rests under after rest) where
  once_by : (n : ℕ) (o : Ordering) → MatchOrdering o (n < after.next) (n ≡ after.next) (after.next < n) →
      counted (is_emit n) lines + counted (is_emit n) rest ≤ 1
  once_by n Less r = let one = pass.once n in let none = rests.low n r in omega (arith, one, none)
  once_by n Equal r =
      let none = pass.high n (omega (arith, r)) in let one = rests.once n in omega (arith, one, none)
  once_by n Greater r =
      let none = pass.high n (omega (arith, r)) in let one = rests.once n in omega (arith, one, none)

  pub rests_on : Rests under before (lines ++ rest)
  rests_on = record {
    once = λ n.
        let all = counted-append (is_emit n) lines rest in
        let one = once_by n (nat_cmp n after.next) (ranks n after.next) in
        omega (arith, all, one);
    low = λ n h.
        let all = counted-append (is_emit n) lines rest in
        let rises = pass.rises in
        let here = pass.low n h in
        let later = rests.low n (omega (arith, h, rises)) in
        omega (arith, all, here, later);
    closed = λ n.
        let emits = counted-append (is_emit n) lines rest in
        let settles = counted-append (is_settled n) lines rest in
        let queues = counted-append (is_queued n) lines rest in
        let flows = pass.flows n in
        let none = pass.unqueued n in
        let closed = rests.closed n in
        omega (arith, emits, settles, queues, flows, none, closed);
    as_emitted = λ emits told. pass.as_emitted emits rest told rests.as_emitted;
    called = pass.called rest rests.called;
  }

-- the settlements of an opened ledger in front
module _ (e : Engine) (lawful : IsLawful e) (rest : List OutputLine) (under : Option ℕ) where
  pub all_rest : (ns : List ℕ) (ledger : LedgerValue) → IsGood e.reads_emitted ledger → due ledger ≡ ns →
      under ≡ Some ledger.header.seq → Rests under (settled_all e ledger ns).ledger rest →
      Rests under ledger ((settled_all e ledger ns).lines ++ rest)
  all_rest [] ledger good is open_at rests = rests
  all_rest (n ∷ ns) ledger good is open_at rests =
      let event = settled e ledger n in
      let later = settled_all e event.ledger ns in
      let there : passes (is_due ledger.header.seq) (get ledger.entries (key.Emitted n)) ≡ true =
      sym (has_number (is_due ledger.header.seq) n ledger.entries) ∙ ap (has n) is ∙ has_head n ns in
      let pass = settled_passes e lawful ledger good n under open_at there in
      subst (Rests under ledger) (sym (append_assoc event.lines later.lines rest))
      (rests_on under ledger event.ledger event.lines (later.lines ++ rest) pass
      (all_rest ns event.ledger (settled_law e ledger n lawful good).good (due_law e ledger n ns lawful good is)
      (open_at ∙ ap (λ h. Some h.seq) (sym pass.header)) rests))

-- a `ledger` line in front
pub under_ledger : (under : Option ℕ) (seq : ℕ) (before after : LedgerValue) (rest : List OutputLine) →
    after.next ≡ before.next → after.entries ≡ before.entries → Rests (Some seq) after rest →
    Rests under before (printed.Ledger seq ∷ rest)
under_ledger under seq before after rest next same rests = record {
  once = λ n. let once = rests.once n in omega (arith, once);
  low = λ n h. let low = rests.low n (omega (arith, next, h)) in omega (arith, low);
  closed = λ n.
      let closed = rests.closed n in
      let waits = ap (λ m. waiting (get m (key.Emitted n))) same in
      omega (arith, closed, waits);
  as_emitted = λ emits told. rests.as_emitted emits (subst (IsTold emits) (sym same) told);
  called = λ may. rests.called false;
}

-- the line of a transaction in front
pub behind_tx : (under : Option ℕ) (ledger : LedgerValue) (number : ℕ) (name : ResultName) (fee : ℕ)
    (rest : List OutputLine) → Rests under ledger rest → Rests under ledger (printed.Tx number name fee ∷ rest)
behind_tx under ledger number name fee rest rests = record {
  once = λ n. let once = rests.once n in omega (arith, once);
  low = λ n h. let low = rests.low n h in omega (arith, low);
  closed = λ n. let closed = rests.closed n in omega (arith, closed);
  as_emitted = rests.as_emitted;
  called = λ may. rests.called false;
}
