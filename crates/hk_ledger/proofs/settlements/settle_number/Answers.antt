use Rattle.std.proofs.Common.{◌≡◌, ◌∙◌, IfOk, subst, sym, ap, arith}
use Rattle.std.proofs.lemmas.Result.{IfOk-weaker}
use Rattle.hk_chain.specs.Programs.{AreOf}
use Rattle.hk_engine.specs.Engine.{engine_of}
use Rattle.hk_events.specs.Laws.{DueAt}
use Rattle.hk_events.specs.Settled.{settled}
use Rattle.hk_settle.specs.Meets.{left_by}
use Rattle.hk_ledger.specs.Reports.{event_of}
use Rattle.hk_ledger.specs.World.{IsWhole}
use Rattle.hk_ledger.proofs.Entered.{either_way}
use Rattle.hk_ledger.proofs.Settled.{steady, settled_whole, settled_burnt, settled_programs}
use Rattle.hk_ledger.proofs.settlements.settle_number.Goals as goal

pub settle-requires-clause-steady : goal.settle-requires-clause-steady
settle-requires-clause-steady g c = steady c.world.inside.ledger c.world.inside.opening c.world.invariant.0

pub settle-requires-clause-due : goal.settle-requires-clause-due
settle-requires-clause-due g c = subst (λ w. DueAt w.ledger c.args.number) (sym c.world.view_is) c.requires.due

pub settle-requires-clause-stored : goal.settle-requires-clause-stored
settle-requires-clause-stored g c =
    c.stores_bounds.ensures.complete c.world.inside.ledger.entries c.world.invariant.0.hooks

pub enter_settled-requires-clause-numbers : goal.enter_settled-requires-clause-numbers
enter_settled-requires-clause-numbers g c =
    let laws = g.met.T.Transactor in
    let ledger = c.world.inside.ledger in
    let rules = g.T.Transactor.rules in
    let lawful = c.engines_lawful.ensures.law rules laws.keeps_sum laws.keeps_others laws.keeps_accounts in
    let whole =
    settled_whole rules lawful ledger c.world.inside.opening c.world.invariant.0 c.args.number
    (c.engines_careful.ensures.law rules) (c.engines_measured.ensures.law rules) in
    let next = ap (λ e. e.ledger.next) c.in_ok-settled.ensures.left in
    let most = whole.next in omega (arith, next, most)

pub enter_settled-requires-clause-burnt : goal.enter_settled-requires-clause-burnt
enter_settled-requires-clause-burnt g c =
    let laws = g.met.T.Transactor in
    let ledger = c.world.inside.ledger in
    let rules = g.T.Transactor.rules in
    let lawful = c.engines_lawful.ensures.law rules laws.keeps_sum laws.keeps_others laws.keeps_accounts in
    let most = settled_burnt rules lawful ledger c.world.inside.opening c.world.invariant.0 c.args.number in
    let fee = ap (λ e. e.fee) c.in_ok-settled.ensures.left in omega (arith, fee, most)

pub invariant_of-world-2 : goal.invariant_of-world-2
invariant_of-world-2 g c =
    let laws = g.met.T.Transactor in
    let ledger = c.world.inside.ledger in
    let opening = c.world.inside.opening in
    let kept = c.settle.new.programs in
    let answer = c.in_ok-settled.settled in
    let rules = g.T.Transactor.rules in
    let lawful = c.engines_lawful.ensures.law rules laws.keeps_sum laws.keeps_others laws.keeps_accounts in
    let same = c.in_ok-settled.ensures.left in
    let event = left_by ledger answer in
    let after : IsWhole event.ledger opening =
    subst (λ e. IsWhole e.ledger opening) (sym same)
    (settled_whole rules lawful ledger opening c.world.invariant.0 c.args.number
    (c.engines_careful.ensures.law rules) (c.engines_measured.ensures.law rules)) in
    let programs : AreOf event.ledger.entries kept =
    subst (λ e. AreOf e.ledger.entries kept) (sym same)
    (settled_programs rules lawful ledger opening c.world.invariant.0 c.args.number kept c.settle.ensures.held) in
    either_way c.enter_settled.result ledger c.enter_settled.new.ledger event
    (λ l. IsWhole l opening × AreOf l.entries kept)
    c.enter_settled.ensures.ok c.enter_settled.ensures.err (after, programs)
    (c.world.invariant.0, c.settle.ensures.held)

pub returns-clause-ok : goal.returns-clause-ok
returns-clause-ok g c =
    let ledger = c.world.inside.ledger in
    let rules = g.T.Transactor.rules in
    let e = engine_of rules in
    subst (λ before.
    IfOk c.enter_settled.result (λ report.
    event_of c.enter_settled.new.ledger report ≡ settled e before.ledger c.args.number))
    c.world.view_is
    (IfOk-weaker c.enter_settled.result
    (λ report. event_of c.enter_settled.new.ledger report ≡ left_by ledger c.in_ok-settled.settled)
    (λ report. event_of c.enter_settled.new.ledger report ≡ settled e ledger c.args.number)
    (λ report is. is ∙ c.in_ok-settled.ensures.left) c.enter_settled.ensures.ok)
