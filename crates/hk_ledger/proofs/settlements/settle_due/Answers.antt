use Rattle.std.proofs.Common.{◌≡◌, ◌∙◌, ap, arith, refl, subst, sym}
use Rattle.hk_draft.specs.Reads.{reads_emitted}
use Rattle.hk_engine.specs.Engine.{engine_of}
use Rattle.hk_events.specs.Good.{IsGood}
use Rattle.hk_settle.specs.Due.{IsNext, NoneFrom}
use Rattle.hk_ledger.proofs.Opening.{due_below, underway_end, underway_first, underway_more}
use Rattle.hk_ledger.proofs.settlements.settle_due.Goals as goal

pub loop-number-init : goal.loop-number-init
loop-number-init g c =
    (underway_first (engine_of g.T.Transactor.rules) c.args.world.now.ledger c.args.lines, refl)

pub next_due-requires-clause-queue : goal.next_due-requires-clause-queue
next_due-requires-clause-queue g c =
    subst (IsGood reads_emitted) (sym c.ledger.ensures.ledger) c.ledger.ensures.whole.queue

pub overflow_add-from : goal.overflow_add-from
overflow_add-from g c =
    let world = c.loop-number.world in
    let next =
    subst (λ l. IsNext l c.loop-number.from c.in-Some.number) c.ledger.ensures.ledger c.in-Some.ensures.due in
    let low = due_below world.ledger c.in-Some.number c.ledger.ensures.whole.queue next.due in
    let most = c.ledger.ensures.whole.next in omega (arith, low, most)

pub loop-number-preserved : goal.loop-number-preserved
loop-number-preserved g c =
    let laws = g.met.T.Transactor in
    let rules = g.T.Transactor.rules in
    let lawful = c.engines_lawful.ensures.law rules laws.keeps_sum laws.keeps_others laws.keeps_accounts in
    let start = c.args.world.now in
    let now = c.loop-number.world in
    let next =
    subst (λ l. IsNext l c.loop-number.from c.in-Some.number) c.ledger.ensures.ledger c.in-Some.ensures.due in (
      underway_more (engine_of rules) lawful start.ledger now.ledger c.args.lines c.loop-number.lines
          c.loop-number.from c.in-Some.number c.ledger.ensures.whole.queue c.loop-number.invariant.0 next
          c.settle_number.new.world.ledger c.in_ok-report.report c.in_ok-lines.lines c.in_ok-report.ensures.ok
          c.in_ok-lines.ensures.joined,
      c.settle_number.ensures.opening ∙ c.loop-number.invariant.1,
    )

pub returns-clause-ok : goal.returns-clause-ok
returns-clause-ok g c =
    underway_end (engine_of g.T.Transactor.rules) c.args.world.now.ledger c.loop-number.world.ledger c.args.lines
    c.loop-number.lines c.loop-number.from c.loop-number.invariant.0
    (subst (λ l. NoneFrom l c.loop-number.from) c.ledger.ensures.ledger c.in_default.ensures.due)
