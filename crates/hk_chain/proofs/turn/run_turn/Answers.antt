use Rattle.std.proofs.Common.{◌∙◌, Some, ap, subst, sym}
use Rattle.std.proofs.lemmas.Result.{IfOk-weaker}
use Rattle.hk_state.specs.declared.entry.Entry.TheVariants as entry
use Rattle.hk_bound.specs.Checks.{Holds}
use Rattle.hk_api_parts.specs.declared.place.Place.{Place}
use Rattle.hk_chain.specs.Meets.{IsPlay, passing}
use Rattle.hk_chain.specs.Programs.{IsReady}
use Rattle.hk_chain.proofs.Keeping.{holds_at, is_ready}
use Rattle.hk_chain.proofs.Running.{turn_is}
use Rattle.hk_chain.proofs.turn.run_turn.Goals as goal

pub fill-requires : goal.fill-requires
fill-requires c = record {
  known =
      (c.requires.stored c.args.turn.now.hash c.in-Some-Definition.code c.in-Some-Definition.version
      c.in-Some-Definition.bound_hook c.in-Some-Definition.bound_cbak
      (sym c.in-Some-Definition.ensures.entry ∙ ap Some c.in-Some-Definition.field-0-is)).known;
}

pub run_checked-requires-clause-ready : goal.run_checked-requires-clause-ready
run_checked-requires-clause-ready c =
    let there = sym c.in-Some-Definition.ensures.entry ∙ ap Some c.in-Some-Definition.field-0-is in
    subst (λ v. IsReady v c.args.turn.now.which c.in-Some.bound c.of-checked.result.now)
    (sym (ap (λ (p : Place). p.version) c.place_of-place.ensures.place))
    (is_ready c.args.ledger.now.entries c.fill.new.self c.args.turn.now.hash c.in-Some-Definition.code
    c.in-Some-Definition.version c.in-Some-Definition.bound_hook c.in-Some-Definition.bound_cbak
    c.of-checked.result.now c.args.turn.now.which c.in-Some.bound c.requires.stored
    (c.fill.ensures.held c.args.ledger.now.entries
    (record {
      bound_hook = c.in-Some-Definition.bound_hook;
      bound_cbak = c.in-Some-Definition.bound_cbak;
      there =
          there
          ∙ ap (λ k.
          Some (entry.Definition k c.in-Some-Definition.version c.in-Some-Definition.bound_hook
          c.in-Some-Definition.bound_cbak)) (sym c.as_slice.ensures.items);
    }) c.requires.held)
    there c.of-checked.ensures.found (sym c.stored_bound.ensures.bound ∙ c.in-Some.is))

pub returns-in_ok-fill-in-Some-clause-played : goal.returns-in_ok-fill-in-Some-clause-played
returns-in_ok-fill-in-Some-clause-played c =
    let there = sym c.in-Some-Definition.ensures.entry ∙ ap Some c.in-Some-Definition.field-0-is in
    let are = c.fill.ensures.held c.args.ledger.now.entries
    (record {
      bound_hook = c.in-Some-Definition.bound_hook;
      bound_cbak = c.in-Some-Definition.bound_cbak;
      there =
          there
          ∙ ap (λ k.
          Some (entry.Definition k c.in-Some-Definition.version c.in-Some-Definition.bound_hook
          c.in-Some-Definition.bound_cbak)) (sym c.as_slice.ensures.items);
    }) c.requires.held in
    let holds : Holds c.in-Some-Definition.version c.in-Some-Definition.code c.of-checked.result.now =
    holds_at c.args.ledger.now.entries c.fill.new.self c.args.turn.now.hash c.in-Some-Definition.code
    c.in-Some-Definition.version c.of-checked.result.now are
    (record {
      bound_hook = c.in-Some-Definition.bound_hook;
      bound_cbak = c.in-Some-Definition.bound_cbak;
      there = there;
    })
    c.of-checked.ensures.found in
    IfOk-weaker c.run_checked.result _ _ (λ answer p.
    subst (λ q. IsPlay c.args.ledger.now.entries (passing c.args.ledger.now.entries c.args.work) q answer)
    (sym (turn_is c.args.setting.now c.args.ledger.now.next c.args.ledger.now.entries c.args.turn.now
    (passing c.args.ledger.now.entries c.args.work) c.in-Some-Definition.code c.in-Some-Definition.version
    c.in-Some-Definition.bound_hook c.in-Some-Definition.bound_cbak c.in-Some.bound c.place_of-place.result there
    (sym c.stored_bound.ensures.bound ∙ c.in-Some.is) c.place_of-place.ensures.place))
    (p c.in-Some-Definition.code (subst (λ v. Holds v c.in-Some-Definition.code c.of-checked.result.now)
    (sym (ap (λ (x : Place). x.version) c.place_of-place.ensures.place)) holds)))
    c.run_checked.ensures.played
