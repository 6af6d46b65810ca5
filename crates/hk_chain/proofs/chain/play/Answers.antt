use Rattle.std.proofs.Common.{◌∙◌, Some, ap, rules, subst, sym}
use Rattle.std.proofs.lemmas.Result.{IfOk-weaker}
use Rattle.hk_chain.specs.Meets.{IsPlay, passing}
use Rattle.hk_chain.proofs.Running.{play_is}
use Rattle.hk_chain.proofs.chain.play.Goals as goal

pub returns-else-is_skipped-clause-played : goal.returns-else-is_skipped-clause-played
returns-else-is_skipped-clause-played c =
    IfOk-weaker c.run_turn.result _ _ (λ answer p.
    subst (λ q. IsPlay c.args.ledger.now.entries (passing c.args.ledger.now.entries c.args.work) q answer)
    (sym (play_is c.args.setting.now c.args.ledger.now.next c.args.ledger.now.entries c.args.account.now
    c.args.position (passing c.args.ledger.now.entries c.args.work) c.in-Some-Install.hash c.in-Some-Install.on
    c.in-Some-Install.namespace c.in-Some-Install.field-0-3 c.in-Some-Install.field-0-4
    (sym c.in-Some-Install.ensures.entry ∙ ap Some c.in-Some-Install.field-0-is) (search rules) (search rules))) p)
    c.run_turn.ensures.played
