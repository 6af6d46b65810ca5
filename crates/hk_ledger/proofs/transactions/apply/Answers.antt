use Rattle.std.proofs.Common.{◌≡◌, ◌∙◌, subst, sym, ap, refl}
use Rattle.std.proofs.lemmas.Result.{IfOk-weaker}
use Rattle.hk_lines.specs.declared.result_name.ResultName.TheVariants as name
use Rattle.hk_reading.specs.declared.reading.Reading.TheVariants as readings
use Rattle.hk_reading.specs.Readings.{Reads}
use Rattle.hk_engine.specs.Engine.{engine_of}
use Rattle.hk_events.specs.Events.{applied}
use Rattle.hk_ledger.specs.Reports.{event_of, HoldsFor}
use Rattle.hk_ledger.proofs.Applied.{applied_holds, refused_event}
use Rattle.hk_ledger.proofs.transactions.apply.Goals as goal

pub returns-in-TooLong-clause-holds : goal.returns-in-TooLong-clause-holds
returns-in-TooLong-clause-holds g c =
    let laws = g.met.T.Transactor in
    let rules = g.T.Transactor.rules in
    let lawful = c.engines_lawful.ensures.law rules laws.keeps_sum laws.keeps_others laws.keeps_accounts in
    let before = c.args.world.now in
    let blob = c.args.blob.now in
    subst (HoldsFor blob before.ledger)
    (sym (refused_event rules before.ledger c.args.verdict blob c.refused.result name.TooLong readings.TooLong
    c.refused.ensures.report (sym c.in-TooLong.is ∙ c.in_ok-read.ensures.reading) refl))
    (applied_holds rules lawful before.ledger before.opening c.ledger.ensures.whole c.args.verdict blob)

pub returns-in-Unparsed-clause-holds : goal.returns-in-Unparsed-clause-holds
returns-in-Unparsed-clause-holds g c =
    let laws = g.met.T.Transactor in
    let rules = g.T.Transactor.rules in
    let lawful = c.engines_lawful.ensures.law rules laws.keeps_sum laws.keeps_others laws.keeps_accounts in
    let before = c.args.world.now in
    let blob = c.args.blob.now in
    subst (HoldsFor blob before.ledger)
    (sym (refused_event rules before.ledger c.args.verdict blob c.refused-in-Unparsed.result name.Unparsed
    readings.Unparsed c.refused-in-Unparsed.ensures.report
    (sym c.in-Unparsed.is ∙ c.in_ok-read.ensures.reading) refl))
    (applied_holds rules lawful before.ledger before.opening c.ledger.ensures.whole c.args.verdict blob)

pub returns-in-Malformed-clause-holds : goal.returns-in-Malformed-clause-holds
returns-in-Malformed-clause-holds g c =
    let laws = g.met.T.Transactor in
    let rules = g.T.Transactor.rules in
    let lawful = c.engines_lawful.ensures.law rules laws.keeps_sum laws.keeps_others laws.keeps_accounts in
    let before = c.args.world.now in
    let blob = c.args.blob.now in
    subst (HoldsFor blob before.ledger)
    (sym (refused_event rules before.ledger c.args.verdict blob c.refused-in-Malformed.result name.Malformed
    readings.Malformed c.refused-in-Malformed.ensures.report
    (sym c.in-Malformed.is ∙ c.in_ok-read.ensures.reading) refl))
    (applied_holds rules lawful before.ledger before.opening c.ledger.ensures.whole c.args.verdict blob)

pub returns-in-Transaction-clause-holds : goal.returns-in-Transaction-clause-holds
returns-in-Transaction-clause-holds g c =
    let laws = g.met.T.Transactor in
    let rules = g.T.Transactor.rules in
    let lawful = c.engines_lawful.ensures.law rules laws.keeps_sum laws.keeps_others laws.keeps_accounts in
    let before = c.args.world.now in
    let blob = c.args.blob.now in
    let t = c.in-Transaction.transaction in
    let now = c.apply_read.new.world in
    let same = (subst (Reads blob) c.in-Transaction.is c.in_ok-read.ensures.relation).1.is.blob in
    IfOk-weaker c.apply_read.result
    (λ report. event_of now.ledger report ≡ applied (engine_of rules) before.ledger c.args.verdict t.blob)
    (λ report. HoldsFor blob before.ledger (event_of now.ledger report))
    (λ report is.
    subst (HoldsFor blob before.ledger)
    (sym (is ∙ ap (applied (engine_of rules) before.ledger c.args.verdict) same))
    (applied_holds rules lawful before.ledger before.opening c.ledger.ensures.whole c.args.verdict blob))
    c.apply_read.ensures.ok
