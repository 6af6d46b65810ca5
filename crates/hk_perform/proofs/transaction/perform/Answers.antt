use Rattle.std.proofs.Common.{◌∙◌, [], arith, subst, sym, IfOk}
use Rattle.hk_chain.specs.Meets.{EndMeans}
use Rattle.hk_chain.specs.declared.ending.ChainEnd.TheVariants as found
use Rattle.hk_draft.specs.Drafted.{draft_of}
use Rattle.hk_engine.specs.Engine.{engine_of}
use Rattle.hk_events.specs.Chains.{chains, sides}
use Rattle.hk_events.specs.Performed.{refused}
use Rattle.hk_events.specs.Results.{paid}
use Rattle.hk_items.specs.Endings.{Means}
use Rattle.hk_state.specs.Native.{native}
use Rattle.hk_perform.specs.Acts.{acts}
use Rattle.hk_perform.specs.Meets.{IsPerformed, chain_by, found_by, origin_of}
use Rattle.hk_perform.proofs.Covering.{on_covered, on_sender, paid_covered, paid_sender, ready_covered, ready_sound}
use Rattle.hk_perform.proofs.Covering.{sides_covered, sides_sender}
use Rattle.hk_perform.proofs.Ending.{failed_so, for_this, refused_is, rejected_so, succeeded_answer, succeeded_so}
use Rattle.hk_perform.proofs.Paying.{can_pay}
use Rattle.hk_perform.proofs.transaction.perform.Goals as goal

pub refusal-requires : goal.refusal-requires
refusal-requires g c =
    let t = c.args.setting.now.transaction in
    let r = c.requires.ready.read in
    let small =
    c.stores_bounds.ensures.needed c.args.ledger.now.entries r.fields r.emitted t c.requires.stored r.object r.is
    r.short in
    record { fits = omega (arith, small) }

pub returns-in-Some-clause-performed : goal.returns-in-Some-clause-performed
returns-in-Some-clause-performed g c =
    let ledger = c.args.ledger.now in
    subst (λ p. IfOk c.refused.result (IsPerformed ledger.entries p))
    (sym (refused_is g.T.Transactor.rules ledger c.args.origin c.args.setting.now c.requires.ready.header c.in-Some.name
    (sym (c.refusal.ensures.rows g.T.Transactor.rules) ∙ c.in-Some.is)))
    (for_this ledger (λ any. refused (found_by any c.args.origin).entries c.in-Some.name) c.refused.result
    c.refused.ensures.refused)

pub charge-requires : goal.charge-requires
charge-requires g c = record {
  pays =
      can_pay g.T.Transactor.rules c.args.ledger.now c.args.origin c.args.setting.now.transaction
      c.requires.ready.read.sequence
      (sym (c.refusal.ensures.rows g.T.Transactor.rules) ∙ c.in_default.is);
}

pub run_sides-requires-clause-sound : goal.run_sides-requires-clause-sound
run_sides-requires-clause-sound g c =
    ready_sound c.args.ledger.now c.args.setting.now c.requires.ready c.requires.stored
    (c.stores_bounds.ensures.fees c.args.ledger.now.entries c.requires.stored)

pub run_sides-requires-clause-covered : goal.run_sides-requires-clause-covered
run_sides-requires-clause-covered g c =
    let ledger = c.args.ledger.now in
    let t = c.args.setting.now.transaction in
    let base = paid (found_by ledger c.args.origin).entries (origin_of c.args.origin) t in
    let pays =
    can_pay g.T.Transactor.rules ledger c.args.origin t c.requires.ready.read.sequence
    (sym (c.refusal.ensures.rows g.T.Transactor.rules) ∙ c.in_default.is) in
    on_covered ledger.entries base c.in_ok-overlay.overlay [] c.in_ok-overlay.ensures.charged
    (paid_covered ledger c.args.origin t (ready_covered ledger c.args.setting.now c.requires.ready) pays)

pub failed-requires : goal.failed-requires
failed-requires g c = record {
  pays =
      can_pay g.T.Transactor.rules c.args.ledger.now c.args.origin c.args.setting.now.transaction
      c.requires.ready.read.sequence
      (sym (c.refusal.ensures.rows g.T.Transactor.rules) ∙ c.in_default.is);
}

pub act-requires-clause-covered : goal.act-requires-clause-covered
act-requires-clause-covered g c =
    let ledger = c.args.ledger.now in
    let setting = c.args.setting.now in
    let t = setting.transaction in
    let base = paid (found_by ledger c.args.origin).entries (origin_of c.args.origin) t in
    let d = draft_of ledger.entries c.in_ok-overlay.overlay [] in
    let pays =
    can_pay g.T.Transactor.rules ledger c.args.origin t c.requires.ready.read.sequence
    (sym (c.refusal.ensures.rows g.T.Transactor.rules) ∙ c.in_default.is) in
    sides_covered c.chains_fit.ensures.law (c.engines_measured.ensures.law native) ledger setting (sides t) d
    c.in-Kept.overlay c.in-Kept.emissions c.in-Kept.records
    (on_covered ledger.entries base c.in_ok-overlay.overlay [] c.in_ok-overlay.ensures.charged
    (paid_covered ledger c.args.origin t (ready_covered ledger setting c.requires.ready) pays))
    (subst (EndMeans ledger.entries (chains (chain_by ledger setting) (sides t) d)) c.in-Kept.is
    c.in_ok-records.ensures.chains)

pub act-requires-clause-sender : goal.act-requires-clause-sender
act-requires-clause-sender g c =
    let ledger = c.args.ledger.now in
    let setting = c.args.setting.now in
    let t = setting.transaction in
    let base = paid (found_by ledger c.args.origin).entries (origin_of c.args.origin) t in
    let d = draft_of ledger.entries c.in_ok-overlay.overlay [] in
    let pays =
    can_pay g.T.Transactor.rules ledger c.args.origin t c.requires.ready.read.sequence
    (sym (c.refusal.ensures.rows g.T.Transactor.rules) ∙ c.in_default.is) in
    sides_sender c.chains_fit.ensures.law (c.engines_measured.ensures.law native) ledger setting (sides t) d
    c.in-Kept.overlay c.in-Kept.emissions c.in-Kept.records t.account
    (on_sender ledger.entries base c.in_ok-overlay.overlay [] t.account c.in_ok-overlay.ensures.charged
    (paid_sender ledger c.args.origin t pays))
    (subst (EndMeans ledger.entries (chains (chain_by ledger setting) (sides t) d)) c.in-Kept.is
    c.in_ok-records.ensures.chains)

pub failed-requires-in-Failed : goal.failed-requires-in-Failed
failed-requires-in-Failed g c = record {
  pays =
      can_pay g.T.Transactor.rules c.args.ledger.now c.args.origin c.args.setting.now.transaction
      c.requires.ready.read.sequence
      (sym (c.refusal.ensures.rows g.T.Transactor.rules) ∙ c.in_default.is);
}

pub returns-in-Rejected-clause-performed : goal.returns-in-Rejected-clause-performed
returns-in-Rejected-clause-performed g c =
    let ledger = c.args.ledger.now in
    let setting = c.args.setting.now in
    let chain = chains (chain_by ledger setting) (sides setting.transaction) in
    subst (λ p. IfOk c.failed.result (IsPerformed ledger.entries p))
    (sym (rejected_so g.T.Transactor.rules ledger c.args.origin setting c.requires.ready.header
    (sym (c.refusal.ensures.rows g.T.Transactor.rules) ∙ c.in_default.is) c.in-Rejected.records
    (subst (λ d. EndMeans ledger.entries (chain d) (found.Rejected c.in-Rejected.records))
    c.in_ok-overlay.ensures.charged
    (subst (EndMeans ledger.entries (chain (draft_of ledger.entries c.in_ok-overlay.overlay []))) c.in-Rejected.is
    c.in_ok-records.ensures.chains))))
    c.failed.ensures.failed

pub returns-in-Failed-clause-performed : goal.returns-in-Failed-clause-performed
returns-in-Failed-clause-performed g c =
    let ledger = c.args.ledger.now in
    let setting = c.args.setting.now in
    let e = engine_of g.T.Transactor.rules in
    let chain = chains (chain_by ledger setting) (sides setting.transaction) in
    let w = c.in-Kept.overlay in
    let es = c.in-Kept.emissions in
    subst (λ p. IfOk c.failed-in-Failed.result (IsPerformed ledger.entries p))
    (sym (failed_so g.T.Transactor.rules ledger c.args.origin setting c.requires.ready.header
    (sym (c.refusal.ensures.rows g.T.Transactor.rules) ∙ c.in_default.is) w es c.in-Kept.records
    (subst (λ d. EndMeans ledger.entries (chain d) (found.Kept w es c.in-Kept.records)) c.in_ok-overlay.ensures.charged
    (subst (EndMeans ledger.entries (chain (draft_of ledger.entries c.in_ok-overlay.overlay []))) c.in-Kept.is
    c.in_ok-records.ensures.chains))
    c.in-Failed.name
    (subst
    (λ done. Means ledger.entries es done (acts e ledger.header setting.transaction (draft_of ledger.entries w es)))
    c.in-Failed.is (c.in_ok-name-in-Kept.ensures.acts es))))
    c.failed-in-Failed.ensures.failed

pub returns-in-Kept-2-clause-performed : goal.returns-in-Kept-2-clause-performed
returns-in-Kept-2-clause-performed g c =
    let ledger = c.args.ledger.now in
    let setting = c.args.setting.now in
    let e = engine_of g.T.Transactor.rules in
    let chain = chains (chain_by ledger setting) (sides setting.transaction) in
    let w = c.in-Kept.overlay in
    let es = c.in-Kept.emissions in
    succeeded_answer ledger.entries setting.transaction c.in-Kept-2.overlay es c.in-Kept.records _
    (succeeded_so g.T.Transactor.rules ledger c.args.origin setting c.requires.ready.header
    (sym (c.refusal.ensures.rows g.T.Transactor.rules) ∙ c.in_default.is) w es c.in-Kept.records
    (subst (λ d. EndMeans ledger.entries (chain d) (found.Kept w es c.in-Kept.records)) c.in_ok-overlay.ensures.charged
    (subst (EndMeans ledger.entries (chain (draft_of ledger.entries c.in_ok-overlay.overlay []))) c.in-Kept.is
    c.in_ok-records.ensures.chains))
    c.in-Kept-2.overlay
    (subst
    (λ done. Means ledger.entries es done (acts e ledger.header setting.transaction (draft_of ledger.entries w es)))
    c.in-Kept-2.is (c.in_ok-name-in-Kept.ensures.acts es)))
