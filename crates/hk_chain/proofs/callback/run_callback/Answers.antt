use Rattle.std.proofs.Common.{◌+◌, ◌-◌, ap, arith, refl, subst}
use Rattle.std.proofs.lemmas.Result.{IfOk-weaker}
use Rattle.hk_draft.specs.Drafted.{draft_of}
use Rattle.hk_chain.specs.declared.ending.ChainEnd.TheVariants as found
use Rattle.hk_chain.specs.Callback.{callback_at, callback_from, callback_of}
use Rattle.hk_chain.specs.Meets.{EndMeans, IsPlay, PlayedFits, passing}
use Rattle.hk_chain.proofs.CallingBack.{ends_here, next_idle, over}
use Rattle.hk_chain.proofs.Keeping.{stay_further}
use Rattle.hk_chain.proofs.callback.run_callback.Goals as goal

pub loop-position-init : goal.loop-position-init
unfolding callback_of
loop-position-init c = record {
  held = c.requires.held;
  stays = λ at held there. there;
  fits = c.requires.fits;
  leads =
      ap (λ chain. callback_from c.args.account.now
      (callback_at c.args.setting.now c.args.ledger.now.next c.args.ledger.now.entries c.args.account.now
      c.args.hash.now c.args.argument) 10 0
      (record { draft = draft_of c.args.ledger.now.entries c.args.overlay c.args.emissions; chain = chain }))
      c.no_chain.ensures.chain;
}

pub returns-in-Ran-clause-stays : goal.returns-in-Ran-clause-stays
returns-in-Ran-clause-stays c = stay_further _ _ _ c.loop-position.invariant.stays c.call_back.ensures.stays

pub returns-in-Ran-clause-callback : goal.returns-in-Ran-clause-callback
returns-in-Ran-clause-callback c =
    let m = c.args.ledger.now.entries in
    let play =
    callback_at c.args.setting.now c.args.ledger.now.next m c.args.account.now c.args.hash.now c.args.argument in
    let s = passing m c.loop-position.work in
    IfOk-weaker c.called_end.result _ _ (λ end means.
    ends_here m c.args.account.now play c.loop-position.position (10 - c.loop-position.position)
    (10 - (c.loop-position.position + 1)) (omega (arith, c.loop-position-test.true)) s _
    c.loop-position.invariant.leads c.in-Ran.next c.in-Ran.run' end
    (subst (IsPlay m s (play c.loop-position.position s)) c.in-Ran.is c.in_ok-next.ensures.played)
    (λ later. means m later)) c.called_end.ensures.called

pub loop-position-preserved : goal.loop-position-preserved
loop-position-preserved c =
    let m = c.args.ledger.now.entries in
    let play =
    callback_at c.args.setting.now c.args.ledger.now.next m c.args.account.now c.args.hash.now c.args.argument in
    let s = passing m c.loop-position.work in
    record {
      held = c.call_back.ensures.held;
      stays = stay_further _ _ _ c.loop-position.invariant.stays c.call_back.ensures.stays;
      fits = subst (PlayedFits c.args.setting.now m) c.in-Idle.is c.in_ok-next.ensures.fits;
      leads =
          next_idle m c.args.account.now play c.loop-position.position (10 - c.loop-position.position)
          (10 - (c.loop-position.position + 1)) (omega (arith, c.loop-position-test.true)) s _
          c.loop-position.invariant.leads c.in-Idle.next
          (subst (IsPlay m s (play c.loop-position.position s)) c.in-Idle.is c.in_ok-next.ensures.played);
    }

pub returns-clause-callback : goal.returns-clause-callback
returns-clause-callback c =
    let m = c.args.ledger.now.entries in
    let play =
    callback_at c.args.setting.now c.args.ledger.now.next m c.args.account.now c.args.hash.now c.args.argument in
    subst (λ e. EndMeans m e (found.Kept c.loop-position.work.overlay c.loop-position.work.emissions c.new.result))
    (over c.args.account.now play c.loop-position.position (10 - c.loop-position.position)
    (passing m c.loop-position.work) _ (omega (arith, c.loop-position-test.false)) c.loop-position.invariant.leads)
    (refl, c.new.ensures.empty)
