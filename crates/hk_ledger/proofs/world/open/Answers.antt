use Rattle.std.proofs.Common.{◌≡◌, ◌∙◌, ◌+◌, ap, arith}
use Rattle.std.proofs.lemmas.Result.{on_ok_weaker}
use Rattle.hk_state.specs.Holdings.{with_holding}
use Rattle.hk_state.specs.Writes.{with_writes, with_new}
use Rattle.hk_ledger.proofs.world.open.Goals as goal

pub returns-clause-ok : goal.returns-clause-ok
returns-clause-ok c =
    let m = c.args.ledger.now.entries in
    let entries = c.in_ok-put_holding.ensures.made m
    ∙ ap (λ n. with_holding n c.args.id.now c.args.holding.balance c.args.holding.sequence)
    (ap (with_writes m) c.new-overlay.ensures.empty ∙ with_new m) in
    let next : c.args.ledger.now.next + 0 ≡ c.args.ledger.now.next = omega arith in
    let burnt : c.args.ledger.now.burnt + 0 ≡ c.args.ledger.now.burnt = omega arith in
    on_ok_weaker c.commit.result
    (λ done. done ∙ (λ i. record c.args.ledger.now { entries = entries i; next = next i; burnt = burnt i }))
    c.commit.ensures.ok
