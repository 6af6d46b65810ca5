use Rattle.std.proofs.Common.{IfOk, ◌≡◌, ◌∙◌, sym, subst}
use Rattle.std.proofs.lemmas.Result.{IfOk-weaker}
use Rattle.wa_machine.specs.Runs.{IsRun}
use Rattle.wa_ops.specs.HookRules.{is_hook}
use Rattle.hk_bound.specs.declared.fault.Export.TheVariants.{Hook}
use Rattle.hk_api.specs.Fits.{IsFit}
use Rattle.hk_api.specs.HostState.{HostState}
use Rattle.hk_chain.specs.Calls.{hook_meaning}
use Rattle.hk_alone.proofs.Beginning.{unwritten, begins}
use Rattle.hk_alone.proofs.alone.run_on.Goals as goal

pub new-requires-4 : goal.new-requires-4
new-requires-4 c = record {
  fits =
      subst (IsFit c.args.setting.now c.args.ledger.now.entries)
      (sym (unwritten c.args.ledger.now.entries c.new-overlay.result c.new-overlay.ensures.empty)) c.requires.fits;
}

pub returns : goal.returns
returns c = record {
  run =
      IfOk-weaker c.run.result _ _ (λ ended ends.
      subst (λ h.
      (after : HostState) × IsRun hook_meaning c.args.checked.now.wasm is_hook 0 h ended.outcome ended.count after)
      (c.new-host.ensures.api ∙ c.in_ok-api.ensures.begun
      ∙ begins c.args.setting.now c.args.place.now c.args.ledger.now c.new-overlay.result c.new-3.result c.new.result
      c.new-2.result c.new-overlay.ensures.empty c.new-3.ensures.empty c.new.ensures.empty c.new-2.ensures.empty)
      (_, ends Hook 0 c.in_ok-instance.ensures.made)) c.run.ensures.ends;
}
