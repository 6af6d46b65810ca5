use Rattle.std.proofs.Common.{◌∙◌, sym, subst}
use Rattle.hk_state.specs.contracts.key.KeyPartialEq.TheImpl.{eq-value}
use Rattle.hk_state.specs.Room.{Adds, is_put}
use Rattle.hk_state.proofs.Kept.{alike}
use Rattle.hk_state.proofs.Listing.{all_end, less_end, found_end}
use Rattle.hk_state.proofs.Making.{adds_none, all_left, one_readied, is_written, not_written, never, absent_before}
use Rattle.hk_state.proofs.Told.{err_given}
use Rattle.hk_state.proofs.commit.make_room.Goals as goal

pub loop-key-init : goal.loop-key-init
loop-key-init c =
    let all = c.into_iter-key-iterator.ensures.into_iter_gives ∙ c.iter-key-items.ensures.rest in (
      subst (Adds c.args.entries.now (is_put c.args.writes.now.entries) c.args.entries.now) (sym c.requires.none)
          (adds_none c.args.entries.now (is_put c.args.writes.now.entries)),
      all_left c.args.entries.now c.args.writes.now.entries c.into_iter-key-iterator.result all,
      all_end eq-value.it alike c.into_iter-key-iterator.result c.args.writes.now.entries all,
    )

pub loop-key-preserved-in-Continue-1 : goal.loop-key-preserved-in-Continue-1
loop-key-preserved-in-Continue-1 c = (
  c.make_place.ensures.adds c.args.entries.now (is_put c.args.writes.now.entries) (is_written c.args.writes.now.entries
      c.in-Some.key.now c.in-Some.change.now
      (found_end eq-value.it alike c.loop-key.key-iterator c.next.new.self c.args.writes.now.entries c.in-Some.key.now
      c.in-Some.change.now c.in-Some.ensures.steps c.iter-key-items.ensures.unique c.loop-key.invariant.2)
      (sym c.is_some.ensures ∙ c.if-is_some.true)) c.loop-key.invariant.0,
  one_readied c.loop-key.entries c.make_place.new.entries c.args.writes.now.entries c.loop-key.key-iterator
      c.next.new.self c.in-Some.key.now c.in-Some.change.now c.in-Some.ensures.steps
      (λ put. c.in_ok-make_place.ensures.there) c.make_place.ensures.stays c.loop-key.invariant.1,
  less_end eq-value.it alike c.loop-key.key-iterator c.next.new.self c.args.writes.now.entries
      (c.in-Some.key.now, c.in-Some.change.now) c.in-Some.ensures.steps c.loop-key.invariant.2,
)

pub loop-key-preserved : goal.loop-key-preserved
loop-key-preserved c = (
  c.loop-key.invariant.0,
  one_readied c.loop-key.entries c.loop-key.entries c.args.writes.now.entries c.loop-key.key-iterator c.next.new.self
      c.in-Some.key.now c.in-Some.change.now c.in-Some.ensures.steps
      (never (is_put c.args.writes.now.entries c.in-Some.key.now) (not_written c.args.writes.now.entries
      c.in-Some.key.now c.in-Some.change.now
      (found_end eq-value.it alike c.loop-key.key-iterator c.next.new.self c.args.writes.now.entries c.in-Some.key.now
      c.in-Some.change.now c.in-Some.ensures.steps c.iter-key-items.ensures.unique c.loop-key.invariant.2)
      (sym c.is_some.ensures ∙ c.if-is_some.false))) (λ q is. is) c.loop-key.invariant.1,
  less_end eq-value.it alike c.loop-key.key-iterator c.next.new.self c.args.writes.now.entries
      (c.in-Some.key.now, c.in-Some.change.now) c.in-Some.ensures.steps c.loop-key.invariant.2,
)

pub returns-in_err-make_place-clause-adds : goal.returns-in_err-make_place-clause-adds
returns-in_err-make_place-clause-adds c =
    c.make_place.ensures.adds c.args.entries.now (is_put c.args.writes.now.entries) (is_written
    c.args.writes.now.entries c.in-Some.key.now c.in-Some.change.now
    (found_end eq-value.it alike c.loop-key.key-iterator c.next.new.self c.args.writes.now.entries c.in-Some.key.now
    c.in-Some.change.now c.in-Some.ensures.steps c.iter-key-items.ensures.unique c.loop-key.invariant.2)
    (sym c.is_some.ensures ∙ c.if-is_some.true)) c.loop-key.invariant.0

pub returns-in_err-make_place-clause-cause : goal.returns-in_err-make_place-clause-cause
returns-in_err-make_place-clause-cause c =
    err_given c.from_residual.result (record {
      key = c.in-Some.key.now;
      put = (is_written c.args.writes.now.entries c.in-Some.key.now c.in-Some.change.now
          (found_end eq-value.it alike c.loop-key.key-iterator c.next.new.self c.args.writes.now.entries
          c.in-Some.key.now c.in-Some.change.now c.in-Some.ensures.steps c.iter-key-items.ensures.unique
          c.loop-key.invariant.2)
          (sym c.is_some.ensures ∙ c.if-is_some.true));
      absent =
          absent_before c.args.entries.now c.loop-key.entries (is_put c.args.writes.now.entries) c.loop-key.added.items
          c.in-Some.key.now c.loop-key.invariant.0 c.in_err-make_place.ensures.cause;
    })
