use Rattle.std.proofs.Common.{◌≡◌, ◌∙◌, ◌+◌, ◌-◌, sym, ap, subst, drop, arith}
use Rattle.std.specs.List.{IsDistinct}
use Rattle.std.specs.Map.{keys_of}
use Rattle.hk_state.specs.contracts.key.KeyPartialEq.TheImpl.{eq-value}
use Rattle.hk_state.specs.Writes.{note}
use Rattle.hk_state.proofs.Kept.{alike}
use Rattle.hk_state.proofs.Listing.{noted_moved, noted_there, found_key}
use Rattle.hk_state.proofs.Told.{given_some}
use Rattle.hk_state.proofs.overlay.bring_last.Goals as goal

pub returns-in-Some-clause-listed : goal.returns-in-Some-clause-listed
returns-in-Some-clause-listed c =
    let within = c.requires.within in
    let below = c.if-at-from.true in
    let size = c.len.ensures.len in
    given_some _ _ _ c.in-Some.field-0-2.now c.in-Some.ensures.value
    (ap (λ ks. drop (c.args.from - 1) ks) (ap keys_of c.move_index.ensures.entries)
    ∙ noted_moved eq-value.it alike c.args.writes.now.entries c.args.key.now c.in-Some.field-0-1.now
    c.in-Some.field-0-2.now c.in-Some.at (c.args.from - 1) (c.len.result - 1)
    c.in-Some.ensures.entry (found_key eq-value.it alike c.args.key.now c.in-Some.field-0-1.now
    c.args.writes.now.entries (sym c.in-Some.ensures.key))
    (omega (arith, below)) (omega (arith, within, below, size)) (omega (arith, within, below, size))
    (subst (λ es. IsDistinct eq-value.it (keys_of es)) c.move_index.ensures.entries c.move_index.ensures.unique)
    ∙ ap (λ n. note c.args.key.now (drop n (keys_of c.args.writes.now.entries)))
    (let more : c.args.from - 1 + 1 ≡ c.args.from = omega (arith, below) in more))

pub returns-in_default-clause-listed : goal.returns-in_default-clause-listed
returns-in_default-clause-listed c =
    given_some _ _ _ c.in-Some.field-0-2.now c.in-Some.ensures.value
    (noted_there c.args.key.now c.in-Some.field-0-1.now c.in-Some.field-0-2.now c.args.writes.now.entries c.args.from
    c.in-Some.at
    c.in-Some.ensures.entry (found_key eq-value.it alike c.args.key.now c.in-Some.field-0-1.now
    c.args.writes.now.entries (sym c.in-Some.ensures.key)) c.if-at-from.false)
