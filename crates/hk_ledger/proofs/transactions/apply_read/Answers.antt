use Rattle.std.proofs.Common.{◌≡◌, ◌∙◌, IfOk, subst, sym, ap, arith}
use Rattle.std.proofs.lemmas.Result.{IfOk-weaker}
use Rattle.hk_chain.specs.Programs.{AreOf}
use Rattle.hk_engine.specs.Engine.{engine_of}
use Rattle.hk_events.specs.Events.{applied, applied_by}
use Rattle.hk_ledger.specs.Reports.{event_of, performed_of}
use Rattle.hk_ledger.specs.World.{IsWhole}
use Rattle.hk_ledger.proofs.Applied.{ready, performs, applied_whole, applied_burnt, applied_programs}
use Rattle.hk_ledger.proofs.Entered.{either_way}
use Rattle.hk_ledger.proofs.transactions.apply_read.Goals as goal

pub perform-requires-clause-ready : goal.perform-requires-clause-ready
perform-requires-clause-ready g c =
    ready c.world.inside.ledger c.world.inside.opening c.args.setting c.world.invariant.0
    (c.requires.header ∙ sym (ap (λ w. w.ledger.header) c.world.view_is)) c.requires.read

pub perform-requires-clause-stored : goal.perform-requires-clause-stored
perform-requires-clause-stored g c =
    c.stores_bounds.ensures.complete c.world.inside.ledger.entries c.world.invariant.0.hooks

pub enter-requires-clause-numbers : goal.enter-requires-clause-numbers
enter-requires-clause-numbers g c =
    let laws = g.met.T.Transactor in
    let ledger = c.world.inside.ledger in
    let t = c.args.setting.transaction in
    let answer = c.in_ok-performed.performed in
    let rules = g.T.Transactor.rules in
    let lawful = c.engines_lawful.ensures.law rules laws.keeps_sum laws.keeps_others laws.keeps_accounts in
    let same = performs rules ledger c.args.verdict t c.requires.read answer c.in_ok-performed.ensures.performed in
    let whole =
    applied_whole rules lawful ledger c.world.inside.opening c.world.invariant.0 c.args.verdict t.blob
    (c.engines_careful.ensures.law rules) (c.engines_measured.ensures.law rules) in
    let next = ap (λ e. e.ledger.next) same in
    let most = whole.next in omega (arith, next, most)

pub enter-requires-clause-burnt : goal.enter-requires-clause-burnt
enter-requires-clause-burnt g c =
    let laws = g.met.T.Transactor in
    let ledger = c.world.inside.ledger in
    let t = c.args.setting.transaction in
    let answer = c.in_ok-performed.performed in
    let rules = g.T.Transactor.rules in
    let lawful = c.engines_lawful.ensures.law rules laws.keeps_sum laws.keeps_others laws.keeps_accounts in
    let same = performs rules ledger c.args.verdict t c.requires.read answer c.in_ok-performed.ensures.performed in
    let most =
    applied_burnt rules lawful ledger c.world.inside.opening c.world.invariant.0 c.args.verdict t.blob in
    let fee = ap (λ e. e.fee) same in omega (arith, fee, most)

pub invariant_of-world-2 : goal.invariant_of-world-2
invariant_of-world-2 g c =
    let laws = g.met.T.Transactor in
    let ledger = c.world.inside.ledger in
    let opening = c.world.inside.opening in
    let kept = c.perform.new.programs in
    let t = c.args.setting.transaction in
    let answer = c.in_ok-performed.performed in
    let rules = g.T.Transactor.rules in
    let lawful = c.engines_lawful.ensures.law rules laws.keeps_sum laws.keeps_others laws.keeps_accounts in
    let same = performs rules ledger c.args.verdict t c.requires.read answer c.in_ok-performed.ensures.performed in
    let event = applied_by ledger (performed_of ledger.entries answer) in
    let after : IsWhole event.ledger opening =
    subst (λ e. IsWhole e.ledger opening) (sym same)
    (applied_whole rules lawful ledger opening c.world.invariant.0 c.args.verdict t.blob
    (c.engines_careful.ensures.law rules) (c.engines_measured.ensures.law rules)) in
    let programs : AreOf event.ledger.entries kept =
    subst (λ e. AreOf e.ledger.entries kept) (sym same)
    (applied_programs rules lawful ledger opening c.world.invariant.0 c.args.verdict t.blob kept
    c.perform.ensures.held) in
    either_way c.enter.result ledger c.enter.new.ledger event (λ l. IsWhole l opening × AreOf l.entries kept)
    c.enter.ensures.ok c.enter.ensures.err (after, programs) (c.world.invariant.0, c.perform.ensures.held)

pub returns-clause-ok : goal.returns-clause-ok
returns-clause-ok g c =
    let ledger = c.world.inside.ledger in
    let t = c.args.setting.transaction in
    let answer = c.in_ok-performed.performed in
    let rules = g.T.Transactor.rules in
    let same = performs rules ledger c.args.verdict t c.requires.read answer c.in_ok-performed.ensures.performed in
    subst (λ before.
    IfOk c.enter.result (λ report.
    event_of c.enter.new.ledger report ≡ applied (engine_of rules) before.ledger c.args.verdict t.blob))
    c.world.view_is
    (IfOk-weaker c.enter.result
    (λ report. event_of c.enter.new.ledger report ≡ applied_by ledger (performed_of ledger.entries answer))
    (λ report. event_of c.enter.new.ledger report ≡ applied (engine_of rules) ledger c.args.verdict t.blob)
    (λ report is. is ∙ same) c.enter.ensures.ok)
