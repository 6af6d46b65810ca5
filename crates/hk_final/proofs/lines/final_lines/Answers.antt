use Rattle.std.proofs.Common.{◌≡◌, ◌∙◌, ◌∷◌, ◌++◌, [], sym, ap, subst, append_assoc}
use Rattle.hk_lines.specs.declared.output_line.OutputLine.TheVariants as printed
use Rattle.hk_final.specs.Entered.{entry_line}
use Rattle.hk_final.specs.Final.{in_order, final_lines}
use Rattle.hk_final.specs.Totals.{EndsInTotal}
use Rattle.hk_final.proofs.Entered.{all_kinds}
use Rattle.hk_final.proofs.Totals.{ends_in_total}
use Rattle.hk_final.proofs.lines.final_lines.Goals as goal

pub returns : goal.returns
returns c =
    let ledger = c.args.ledger.now in
    let all = in_order (entry_line ledger.entries) ledger.entries in
    let total = printed.FinalTotal c.args.sum c.burnt.result in
    let same : c.push-2.new.self ≡ final_lines ledger =
    c.in_ok-push-2.ensures.ok
    ∙ ap (λ ls. ls ++ printed.Done ∷ [])
    (c.in_ok-push.ensures.ok ∙ ap (λ ls. ls ++ total ∷ []) c.in_ok-lines.ensures.lines)
    ∙ append_assoc all (total ∷ []) (printed.Done ∷ [])
    ∙ (λ i. all ++ printed.FinalTotal (c.requires.balances i) (c.burnt.ensures.burnt i) ∷ printed.Done ∷ [])
    ∙ all_kinds ledger in
    record { lines = same; total = subst (EndsInTotal ledger.burnt) (sym same) (ends_in_total ledger) }
