use Rattle.std.proofs.Common.{[], subst, sym}
use Rattle.hk_draft.specs.Drafted.{draft_of}
use Rattle.hk_chain.specs.Meets.{EndMeans}
use Rattle.hk_perform.specs.Meets.{chain_by}
use Rattle.hk_perform.proofs.Covering.{chain_covered}
use Rattle.hk_state.specs.Native.{native}
use Rattle.hk_perform.proofs.sides.run_sides.Goals as goal

pub run_other-requires-clause-covered : goal.run_other-requires-clause-covered
run_other-requires-clause-covered c =
    let ledger = c.args.ledger.now in
    let setting = c.args.setting.now in
    let account = setting.transaction.account in
    let d = draft_of ledger.entries c.args.overlay c.new-emissions.result in
    chain_covered c.chains_fit.ensures.law (c.engines_measured.ensures.law native) ledger setting account d
    c.in-Kept.overlay c.in-Kept.emissions c.in-Kept.records
    c.requires.covered
    (subst (EndMeans ledger.entries (chain_by ledger setting account d)) c.in-Kept.is c.in_ok-records.ensures.chain)
