use Rattle.std.proofs.Common.{◌∙◌, ◌-◌, [], ap, sym, Some}
use Rattle.hk_state.specs.declared.entry.Entry.TheVariants as entry
use Rattle.hk_state.specs.declared.key.Key.TheVariants as key
use Rattle.hk_state.specs.Writes.{written}
use Rattle.hk_draft.specs.Drafted.{draft_of}
use Rattle.hk_perform.proofs.Paying.{charged}
use Rattle.hk_perform.proofs.charging.charge.Goals as goal

pub returns : goal.returns
returns c =
    let m = c.args.ledger.now.entries in
    let t = c.args.transaction.now in
    let w = c.in_ok-overlay.overlay in
    let left = c.in-Some.holding.balance - t.fee in
    record {
      charged =
          ap (λ x. draft_of m x []) c.in_ok-put_holding.ensures.ok
          ∙ ap (λ next. draft_of m (written w (key.Account t.account) (Some (entry.Account left next))) [])
          c.next_sequence.ensures.next
          ∙ charged c.args.ledger.now c.args.origin t w c.in-Some.holding
          (c.in_ok-overlay.ensures.began c.args.ledger.now)
          (sym c.in-Some.is ∙ c.holding.ensures.holding);
    }
