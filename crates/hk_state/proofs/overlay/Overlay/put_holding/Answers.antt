use Rattle.std.proofs.Common.{◌∙◌, ap, Some}
use Rattle.std.proofs.lemmas.Result.{on_ok_weaker}
use Rattle.hk_state.specs.declared.key.Key.TheVariants as key
use Rattle.hk_state.specs.declared.entry.Entry.TheVariants as entry
use Rattle.hk_state.specs.Writes.{with_writes, with_written}
use Rattle.hk_state.proofs.overlay.Overlay.put_holding.Goals as goal

pub returns-clause-made : goal.returns-clause-made
returns-clause-made c =
    on_ok_weaker c.put.result (λ same m.
    ap (with_writes m) same
    ∙ with_written m c.args.self.now (key.Account c.args.id.now)
    (Some (entry.Account c.args.holding.balance c.args.holding.sequence))) c.put.ensures.ok
