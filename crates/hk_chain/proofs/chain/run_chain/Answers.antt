use Rattle.std.proofs.Common.{◌∙◌, ◌+◌, ◌-◌, ◌++◌, ◌∷◌, [], ap, ap₂, arith, not, refl, rules, subst, sym}
use Rattle.hk_draft.specs.Drafted.{draft_of}
use Rattle.hk_chain.specs.declared.ending.ChainEnd.TheVariants as found
use Rattle.hk_chain.specs.Chain.{chain_from, chain_of, play_at}
use Rattle.hk_chain.specs.Meets.{EndMeans, IsPlay, PlayedFits, WorkFits, passing}
use Rattle.hk_chain.proofs.Chaining.{next_idle, next_ran, no_more, over, stops}
use Rattle.hk_chain.proofs.Keeping.{stay_further}
use Rattle.hk_chain.proofs.chain.run_chain.Goals as goal
use Rattle.hk_chain.proofs.chain.run_chain.Goals.{in-Idle, in-Ran+in_ok-push-in-Ran+else-not-accepted}

pub loop-position-init : goal.loop-position-init
unfolding chain_of
loop-position-init c = record {
  held = c.requires.held;
  stays = λ at held there. there;
  next = c.next_install-installed.ensures.next;
  fits = c.requires.fits;
  leads =
      ap₂ (λ chain lines. chain_from c.args.account.now
      (play_at c.args.setting.now c.args.ledger.now.next c.args.ledger.now.entries c.args.account.now) 10 0
      (record { draft = draft_of c.args.ledger.now.entries c.args.overlay c.args.emissions; chain = chain }) lines)
      c.no_chain.ensures.chain c.new-records.ensures.empty;
}

pub returns-then-not-accepted-clause-chain : goal.returns-then-not-accepted-clause-chain
returns-then-not-accepted-clause-chain c =
    let m = c.args.ledger.now.entries in
    let play = play_at c.args.setting.now c.args.ledger.now.next m c.args.account.now in
    let s = passing m c.loop-position.work in
    subst (λ e. EndMeans m e (found.Rejected c.push.new.self))
    (stops m c.args.account.now play c.loop-position.position (10 - c.loop-position.position)
    (10 - (c.loop-position.position + 1)) (omega (arith, c.loop-position-test.true)) s c.loop-position.records _
    c.loop-position.invariant.leads c.in-Ran.next c.in-Ran.run'
    (subst (IsPlay m s (play c.loop-position.position s)) c.in-Ran.is c.in_ok-next.ensures.played) (search rules))
    (c.in_ok-push-in-Ran.ensures.ok ∙ ap (λ line. c.loop-position.records ++ line ∷ []) c.hook_line.ensures.line)

pub loop-position-preserved : goal.loop-position-preserved
loop-position-preserved c =
    let m = c.args.ledger.now.entries in
    let play = play_at c.args.setting.now c.args.ledger.now.next m c.args.account.now in
    let s = passing m c.loop-position.work in
    elim c.match-branch-2.branch [
      | in-Idle w ↦ record {
        held = c.play.ensures.held;
        stays = stay_further _ _ _ c.loop-position.invariant.stays c.play.ensures.stays;
        next = c.play.ensures.next;
        fits =
            subst (λ work. WorkFits c.args.setting.now m work) (sym w.work-is)
            (subst (PlayedFits c.args.setting.now m) w.in-Idle.is c.in_ok-next.ensures.fits);
        leads =
            ap₂ (λ work lines. chain_from c.args.account.now play (10 - (c.loop-position.position + 1))
            (c.loop-position.position + 1) (passing m work) lines) w.work-is w.records-is
            ∙ next_idle m c.args.account.now play c.loop-position.position (10 - c.loop-position.position)
            (10 - (c.loop-position.position + 1)) (omega (arith, c.loop-position-test.true)) s
            c.loop-position.records _ c.loop-position.invariant.leads w.in-Idle.next
            (subst (IsPlay m s (play c.loop-position.position s)) w.in-Idle.is c.in_ok-next.ensures.played);
      }
      | in-Ran+in_ok-push-in-Ran+else-not-accepted w ↦ record {
        held = c.play.ensures.held;
        stays = stay_further _ _ _ c.loop-position.invariant.stays c.play.ensures.stays;
        next = c.play.ensures.next;
        fits =
            subst (λ work. WorkFits c.args.setting.now m work) (sym w.work-is)
            (subst (PlayedFits c.args.setting.now m) w.in-Ran.is c.in_ok-next.ensures.fits);
        leads =
            ap₂ (λ work lines. chain_from c.args.account.now play (10 - (c.loop-position.position + 1))
            (c.loop-position.position + 1) (passing m work) lines) w.work-is
            (w.records-is ∙ w.in_ok-push-in-Ran.ensures.ok
            ∙ ap (λ line. c.loop-position.records ++ line ∷ []) w.hook_line.ensures.line)
            ∙ next_ran m c.args.account.now play c.loop-position.position (10 - c.loop-position.position)
            (10 - (c.loop-position.position + 1)) (omega (arith, c.loop-position-test.true)) s
            c.loop-position.records _ c.loop-position.invariant.leads w.in-Ran.next w.in-Ran.run'
            (subst (IsPlay m s (play c.loop-position.position s)) w.in-Ran.is c.in_ok-next.ensures.played)
            (search rules);
      }
    ]

pub returns-then-is_none-clause-chain : goal.returns-then-is_none-clause-chain
returns-then-is_none-clause-chain c =
    let m = c.args.ledger.now.entries in
    subst (EndMeans m (chain_of c.args.setting.now c.args.ledger.now.next m c.args.account.now
    (draft_of m c.args.overlay c.args.emissions))) (sym c.kept-end.ensures.kept)
    (subst
    (λ e. EndMeans m e (found.Kept c.loop-position.work.overlay c.loop-position.work.emissions c.loop-position.records))
    (no_more c.args.setting.now c.args.ledger.now.next m c.args.account.now (10 - c.loop-position.position)
    c.loop-position.position _ (passing m c.loop-position.work) c.loop-position.records _
    c.loop-position.invariant.next (c.is_none.ensures ∙ ap not c.if-is_none.true) c.loop-position.invariant.leads)
    (refl, refl))

pub returns-clause-chain : goal.returns-clause-chain
returns-clause-chain c =
    let m = c.args.ledger.now.entries in
    let play = play_at c.args.setting.now c.args.ledger.now.next m c.args.account.now in
    subst (EndMeans m (chain_of c.args.setting.now c.args.ledger.now.next m c.args.account.now
    (draft_of m c.args.overlay c.args.emissions))) (sym c.kept.ensures.kept)
    (subst
    (λ e. EndMeans m e (found.Kept c.loop-position.work.overlay c.loop-position.work.emissions c.loop-position.records))
    (over c.args.account.now play c.loop-position.position (10 - c.loop-position.position)
    (passing m c.loop-position.work) c.loop-position.records _ (omega (arith, c.loop-position-test.false))
    c.loop-position.invariant.leads) (refl, refl))
