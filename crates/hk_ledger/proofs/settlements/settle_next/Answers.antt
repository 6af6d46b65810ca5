use Rattle.std.proofs.Common.{◌∙◌, Some, arith, ap, refl, subst, sym}
use Rattle.std.specs.FinMap.{get}
use Rattle.hk_state.specs.declared.key.Key.TheVariants as key
use Rattle.hk_draft.specs.Reads.{reads_emitted}
use Rattle.hk_engine.specs.Engine.{engine_of}
use Rattle.hk_events.specs.Events.{Event}
use Rattle.hk_events.specs.Good.{IsGood}
use Rattle.hk_events.specs.Laws.{Holds}
use Rattle.hk_events.specs.Settled.{sender_at}
use Rattle.hk_settle.specs.Due.{IsNext, NoneFrom}
use Rattle.hk_ledger.proofs.Opening.{next_settles, none_settles}
use Rattle.hk_ledger.proofs.Settled.{settled_holds}
use Rattle.hk_ledger.proofs.settlements.settle_next.Goals as goal

pub next_due-requires-clause-queue : goal.next_due-requires-clause-queue
next_due-requires-clause-queue g c =
    subst (IsGood reads_emitted) (sym c.ledger.ensures.ledger) c.ledger.ensures.whole.queue

pub returns-in-None-clause-ok : goal.returns-in-None-clause-ok
returns-in-None-clause-ok g c = (
  none_settles (engine_of g.T.Transactor.rules) c.args.world.now.ledger
      (subst (λ l. NoneFrom l 0) c.ledger.ensures.ledger c.in-None.ensures.due),
  refl,
)

pub returns-in_err-report-in-Some-clause-free : goal.returns-in_err-report-in-Some-clause-free
returns-in_err-report-in-Some-clause-free g c = λ none.
    let next = subst (λ l. IsNext l 0 c.in-Some.number) c.ledger.ensures.ledger c.in-Some.ensures.due in
    absurd (none c.in-Some.number (omega arith) next.due)

pub returns-in_ok-report-in-Some-clause-free : goal.returns-in_ok-report-in-Some-clause-free
returns-in_ok-report-in-Some-clause-free g c = λ none.
    let next = subst (λ l. IsNext l 0 c.in-Some.number) c.ledger.ensures.ledger c.in-Some.ensures.due in
    absurd (none c.in-Some.number (omega arith) next.due)

pub returns-in_ok-report-in-Some-clause-ok : goal.returns-in_ok-report-in-Some-clause-ok
returns-in_ok-report-in-Some-clause-ok g c =
    let next = subst (λ l. IsNext l 0 c.in-Some.number) c.ledger.ensures.ledger c.in-Some.ensures.due in
    next_settles (engine_of g.T.Transactor.rules) c.args.world.now.ledger c.in-Some.number next
    ∙ ap Some (sym c.in_ok-report-in-Some.ensures.ok)

pub returns-in_ok-report-in-Some-clause-holds : goal.returns-in_ok-report-in-Some-clause-holds
returns-in_ok-report-in-Some-clause-holds g c =
    let laws = g.met.T.Transactor in
    let rules = g.T.Transactor.rules in
    let lawful = c.engines_lawful.ensures.law rules laws.keeps_sum laws.keeps_others laws.keeps_accounts in
    let world = c.args.world.now in
    let number = c.in-Some.number in
    record {
      number = number;
      next = subst (λ l. IsNext l 0 number) c.ledger.ensures.ledger c.in-Some.ensures.due;
      holds =
          subst
          (λ (v : Event).
          Holds reads_emitted world.ledger v (λ q. ⊥)
          (sender_at reads_emitted (get world.ledger.entries (key.Emitted number))))
          (sym c.in_ok-report-in-Some.ensures.ok)
          (settled_holds rules lawful world.ledger world.opening c.ledger.ensures.whole number);
    }
