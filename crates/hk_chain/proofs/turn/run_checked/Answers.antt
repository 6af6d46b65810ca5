use Rattle.std.proofs.Common.{◌∙◌, subst}
use Rattle.wa_exec.specs.Runs.{named}
use Rattle.wa_machine.specs.Runs.{IsRun}
use Rattle.hk_state.specs.Writes.{with_writes}
use Rattle.hk_chain.specs.Calls.{hook_meaning}
use Rattle.hk_chain.specs.Meets.{passing}
use Rattle.hk_chain.proofs.Running.{fits_so, plays_so}
use Rattle.hk_chain.proofs.turn.run_checked.Goals as goal

pub returns-clause-played : goal.returns-clause-played
returns-clause-played c = λ code holds.
    plays_so c.code_run_is.ensures.law c.args.setting.now c.args.ledger.now.next c.args.ledger.now.entries
    c.args.place.now (passing c.args.ledger.now.entries c.args.work) code c.args.turn.now.which
    c.args.turn.now.argument c.args.checked.now holds
    (record { outcome = c.in_ok-ended.ended.outcome; count = c.in_ok-ended.ended.count; host = c.run_export.new.host })
    (subst (λ h. IsRun hook_meaning c.args.checked.now.wasm (named c.args.turn.now.which) c.args.turn.now.argument h
    c.in_ok-ended.ended.outcome c.in_ok-ended.ended.count c.run_export.new.host)
    (c.new-host.ensures.api ∙ c.in_ok-api.ensures.begun) c.in_ok-ended.ensures.ends)
    c.args.bound c.calls_lead.ensures.law
    (record {
      overlay = c.finish-overlay.result.0;
      emissions = c.finish-overlay.result.1;
      chain = c.finish-overlay.result.2;
    })
    c.finish-overlay.ensures.draft c.finish-overlay.ensures.chain

pub returns-clause-fits : goal.returns-clause-fits
returns-clause-fits c =
    fits_so c.code_run_is.ensures.law c.args.setting.now c.args.ledger.now.next c.args.ledger.now.entries
    c.args.place.now (passing c.args.ledger.now.entries c.args.work) c.requires.ready.code c.args.turn.now.which
    c.args.turn.now.argument c.args.checked.now c.requires.ready.holds
    (record { outcome = c.in_ok-ended.ended.outcome; count = c.in_ok-ended.ended.count; host = c.run_export.new.host })
    (subst (λ h. IsRun hook_meaning c.args.checked.now.wasm (named c.args.turn.now.which) c.args.turn.now.argument h
    c.in_ok-ended.ended.outcome c.in_ok-ended.ended.count c.run_export.new.host)
    (c.new-host.ensures.api ∙ c.in_ok-api.ensures.begun) c.in_ok-ended.ensures.ends)
    c.calls_lead.ensures.law (with_writes c.args.ledger.now.entries c.args.work.overlay)
    (record {
      overlay = c.finish-overlay.result.0;
      emissions = c.finish-overlay.result.1;
      chain = c.finish-overlay.result.2;
    })
    c.requires.fits c.finish-overlay.ensures.reserves
