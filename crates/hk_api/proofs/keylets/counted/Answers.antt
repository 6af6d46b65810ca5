use Rattle.std.proofs.Common.{◌≡◌, ◌∙◌, ◌+◌, ◌-◌, ◌^◌, min, sym, ap, arith, length, suc}
use Rattle.std.specs.Option.{option_map}
use Rattle.std.specs.FinMap.{entries}
use Rattle.std.specs.Map.Iter.{deref_pair}
use Rattle.hk_state.specs.Reserves.{is_own}
use Rattle.hk_state.specs.Writes.{with_writes}
use Rattle.hk_state.proofs.Walks.{run, on_from, on_from-next}
use Rattle.hk_api.proofs.Walking.{run_one, run_none, owned_from, counted_end}
use Rattle.hk_api.proofs.keylets.counted.Goals as goal

pub loop-next-init : goal.loop-next-init
loop-next-init c =
    let m = with_writes c.args.ledger.now.entries c.args.overlay.now in (
      ap (λ es. min (c.args.before + length es) (2 ^ 32 - 1))
          (sym (owned_from m c.args.first.now (option_map deref_pair c.least_from-next.result)
          c.least_from-next.ensures.least)),
      omega (arith, c.well_formed),
    )

pub loop-next-smaller : goal.loop-next-smaller
loop-next-smaller c =
    let m = with_writes c.args.ledger.now.entries c.args.overlay.now in
    let fewer : length (on_from (entries m) (option_map deref_pair c.loop-next.next))
    ≡ suc (length (on_from (entries m) (option_map deref_pair c.least_after-next.result))) =
    ap length (on_from-next m deref_pair c.loop-next.next (c.in-Some.key, c.in-Some.field-0-1)
    (option_map deref_pair c.least_after-next.result) c.in-Some.is c.least_after-next.ensures.least) in
    omega (arith, fewer)

pub loop-next-preserved : goal.loop-next-preserved
loop-next-preserved c =
    let m = with_writes c.args.ledger.now.entries c.args.overlay.now in
    let start = c.args.first.now in
    let rest = on_from (entries m) (option_map deref_pair c.least_after-next.result) in
    let step : length (run (is_own start) (on_from (entries m) (option_map deref_pair c.loop-next.next)))
    ≡ suc (length (run (is_own start) rest)) =
    ap (λ es. length (run (is_own start) es)) (on_from-next m deref_pair c.loop-next.next
    (c.in-Some.key, c.in-Some.field-0-1) (option_map deref_pair c.least_after-next.result) c.in-Some.is
    c.least_after-next.ensures.least)
    ∙ ap length (run_one (is_own start) _ _ rest (sym c.if-not-is_own.ensures.own)) in
    let count = c.saturating_add-count.ensures in
    let before = c.loop-next.invariant.0 in
    (omega (arith, step, count, before), omega (arith, count))

pub returns-then-not-is_own : goal.returns-then-not-is_own
returns-then-not-is_own c =
    let m = with_writes c.args.ledger.now.entries c.args.overlay.now in
    let start = c.args.first.now in
    counted_end c.loop-next.count _ (run (is_own start) (on_from (entries m) (option_map deref_pair c.loop-next.next)))
    c.loop-next.invariant.1
    (ap (λ n. run (is_own start) (on_from (entries m) (option_map deref_pair n))) c.in-Some.is
    ∙ run_none (is_own start) c.in-Some.key.now _ _ (sym c.if-not-is_own.ensures.own))
    c.loop-next.invariant.0

pub returns-in_default : goal.returns-in_default
returns-in_default c =
    let m = with_writes c.args.ledger.now.entries c.args.overlay.now in
    counted_end c.loop-next.count _
    (run (is_own c.args.first.now) (on_from (entries m) (option_map deref_pair c.loop-next.next)))
    c.loop-next.invariant.1
    (ap (λ n. run (is_own c.args.first.now) (on_from (entries m) (option_map deref_pair n))) c.in_default.is)
    c.loop-next.invariant.0
