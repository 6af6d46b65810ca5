use Rattle.std.proofs.Common.{◌≡◌, true, false, [], None, Some, sym, ap, refl, ◌∙◌}
use Rattle.std.proofs.lemmas.Result.{on_ok_weaker}
use Rattle.hk_state.specs.declared.entry.Entry.TheVariants as entry
use Rattle.hk_draft.specs.Draft.{change_to}
use Rattle.hk_api.proofs.Written.{change_kept, state_written, still_fit}
use Rattle.hk_api.proofs.api.Api.write.Goals as goal

pub returns-then-is_empty-clause-ok : goal.returns-then-is_empty-clause-ok
returns-then-is_empty-clause-ok c =
    on_ok_weaker c.remove.result (λ is.
    state_written c.self.inside.ledger.now.entries c.self.inside.overlay c.remove.new.self c.self.inside.emissions
    c.args.key.now c.args.bytes c.as_key-at.result None c.as_key-at.ensures.key
    (sym (ap change_to (c.is_empty.ensures.empty.0 c.if-is_empty.true)))
    _ c.args.self.now c.self.view_is refl is) c.remove.ensures.ok

pub returns-else-is_empty-clause-ok : goal.returns-else-is_empty-clause-ok
returns-else-is_empty-clause-ok c =
    let some : c.args.bytes ≡ [] → ⊥ =
    λ e. let differ : true ≡ false = sym (c.is_empty.ensures.empty.1 e) ∙ c.if-is_empty.false in cc in
    on_ok_weaker c.put.result
    (λ is. state_written c.self.inside.ledger.now.entries c.self.inside.overlay c.put.new.self c.self.inside.emissions
    c.args.key.now c.args.bytes c.as_key-at.result (Some (entry.State c.args.bytes)) c.as_key-at.ensures.key
    (change_kept c.args.bytes some)
    _ c.args.self.now c.self.view_is refl is) c.put.ensures.ok

pub invariant_of-self : goal.invariant_of-self
invariant_of-self c =
    still_fit c.self.inside.ledger.now.entries c.self.inside.overlay c.remove.new.self c.self.inside.emissions
    c.args.key.now c.args.bytes c.as_key-at.result None c.as_key-at.ensures.key
    (sym (ap change_to (c.is_empty.ensures.empty.0 c.if-is_empty.true)))
    c.remove.result c.self.inside.setting.now c.args.self.now (ap (λ h. h.draft) c.self.view_is)
    c.remove.ensures.ok c.remove.ensures.err c.self.invariant c.requires.reserves

pub invariant_of-self-else-is_empty : goal.invariant_of-self-else-is_empty
invariant_of-self-else-is_empty c =
    let some : c.args.bytes ≡ [] → ⊥ =
    λ e. let differ : true ≡ false = sym (c.is_empty.ensures.empty.1 e) ∙ c.if-is_empty.false in cc in
    still_fit c.self.inside.ledger.now.entries c.self.inside.overlay c.put.new.self c.self.inside.emissions
    c.args.key.now c.args.bytes c.as_key-at.result (Some (entry.State c.args.bytes)) c.as_key-at.ensures.key
    (change_kept c.args.bytes some)
    c.put.result c.self.inside.setting.now c.args.self.now (ap (λ h. h.draft) c.self.view_is)
    c.put.ensures.ok c.put.ensures.err c.self.invariant c.requires.reserves
