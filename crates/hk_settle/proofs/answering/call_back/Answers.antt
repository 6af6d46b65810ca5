use Rattle.std.proofs.Common.{◌≡◌, ◌∙◌, sym}
use Rattle.std.proofs.lemmas.Result.{IfOk-weaker}
use Rattle.hk_chain.specs.declared.ending.ChainEnd.TheVariants as found
use Rattle.hk_draft.specs.Drafted.{draft_of}
use Rattle.hk_draft.specs.Ends.{kept}
use Rattle.hk_draft.specs.Draft.{Draft}
use Rattle.hk_events.specs.Settled.{answered}
use Rattle.hk_state.specs.Native.{native}
use Rattle.hk_settle.specs.Meets.{answered_by, answered_of}
use Rattle.hk_settle.proofs.Called.{kept_answer, means_so, room_kept}
use Rattle.std.specs.Prelude.{length}
use Rattle.hk_settle.proofs.answering.call_back.Goals as goal

pub kept-requires-clause-numbers : goal.kept-requires-clause-numbers
kept-requires-clause-numbers c =
    let ledger = c.args.ledger.now in
    let w = c.args.waiting.now in
    let end = c.in-Kept in
    room_kept ledger w c.args.account.now c.args.word (draft_of ledger.entries c.args.overlay c.args.emissions)
    end.overlay end.emissions end.records
    (means_so ledger w c.args.account.now c.args.word c.args.overlay c.in_ok-after.after c.relist.new.self
    c.args.emissions c.in_ok-earlier.earlier c.as_slice.result.now c.argument.result c.in_ok-records.field-0
    (found.Kept end.overlay end.emissions end.records) c.in_ok-after.ensures.same c.relist.ensures.relisted
    c.in_ok-earlier.ensures.same c.as_slice.ensures.items c.argument.ensures.argument end.is
    c.in_ok-records.ensures.callback)
    (c.engines_measured.ensures.law native) c.requires.room

pub returns-in-Kept-clause-answers : goal.returns-in-Kept-clause-answers
returns-in-Kept-clause-answers c =
    let ledger = c.args.ledger.now in
    let w = c.args.waiting.now in
    let end = c.in-Kept in
    let a = draft_of ledger.entries c.args.overlay c.args.emissions in
    let means =
    means_so ledger w c.args.account.now c.args.word c.args.overlay c.in_ok-after.after c.relist.new.self
    c.args.emissions c.in_ok-earlier.earlier c.as_slice.result.now c.argument.result c.in_ok-records.field-0
    (found.Kept end.overlay end.emissions end.records) c.in_ok-after.ensures.same c.relist.ensures.relisted
    c.in_ok-earlier.ensures.same c.as_slice.ensures.items c.argument.ensures.argument end.is
    c.in_ok-records.ensures.callback in
    IfOk-weaker c.kept.result
    (λ x. (s : Draft) → length s.emissions ≡ c.len-count.result → answered_of ledger.entries x
    ≡ answered ledger.next s (kept (draft_of ledger.entries end.overlay end.emissions) end.records))
    (λ x. answered_of ledger.entries x ≡ answered_by ledger w c.args.account.now c.args.word a)
    (λ x is.
    is a (sym c.len-count.ensures.length)
    ∙ sym (kept_answer ledger w c.args.account.now c.args.word a end.overlay end.emissions end.records means))
    c.kept.ensures.answered
