use Rattle.std.proofs.Common.{IfOk, ◌≡◌, ◌∙◌, ap, subst}
use Rattle.std.proofs.lemmas.Result.{IfOk-weaker}
use Rattle.wa_machine.specs.Runs.{IsRun}
use Rattle.wa_ops.specs.HookRules.{is_hook}
use Rattle.hk_chain.specs.Calls.{hook_meaning}
use Rattle.hk_alone.specs.Context.{first_host, place, setting}
use Rattle.hk_alone.proofs.Fitting.{all_fits}
use Rattle.hk_alone.proofs.alone.run_alone.Goals as goal

pub run_on-requires : goal.run_on-requires
run_on-requires c = record {
  fits =
      all_fits c.reads_one_way.ensures.so c.args.code.now c.args.checked.now c.place-place.ensures.small
      c.in_ok-setting.setting c.in_ok-ledger.ledger c.in_ok-setting.ensures.setting c.in_ok-ledger.ensures.ledger;
}

pub returns : goal.returns
returns c = record {
  run =
      IfOk-weaker c.run_on.result _ _ (λ ended run. (
        run.0,
        subst (λ h. IsRun hook_meaning c.args.checked.now.wasm is_hook 0 h ended.outcome ended.count run.0)
            (ap (λ s. first_host s c.place-place.result c.in_ok-ledger.ledger) c.in_ok-setting.ensures.setting
            ∙ ap (λ p. first_host setting p c.in_ok-ledger.ledger) c.place-place.ensures.place
            ∙ ap (first_host setting (place c.args.checked.now)) c.in_ok-ledger.ensures.ledger)
            run.1,
      )) c.run_on.ensures.run;
}
