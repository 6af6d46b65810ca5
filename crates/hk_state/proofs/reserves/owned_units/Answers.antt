use Rattle.std.proofs.Common.{◌≡◌, ◌∙◌, sym, ap, arith, length, suc}
use Rattle.std.specs.Option.{option_map}
use Rattle.std.specs.FinMap.{entries}
use Rattle.std.specs.Map.Iter.{deref_pair}
use Rattle.hk_state.specs.Reserves.{is_own, own_units}
use Rattle.hk_state.specs.Sums.{sum, total}
use Rattle.hk_state.specs.Writes.{with_writes}
use Rattle.hk_state.proofs.Owned.{entry_units, all_units, one_unit}
use Rattle.hk_state.proofs.Walks.{run, on_from, head_from, on_from-next}
use Rattle.hk_state.proofs.reserves.owned_units.Goals as goal

pub loop-next-init : goal.loop-next-init
loop-next-init c =
    let m = with_writes c.args.ledger.now.entries c.args.overlay.now in
    let start = c.args.first.now in
    let all : total entry_units
    (run (is_own start) (on_from (entries m) (option_map deref_pair c.least_from-next.result)))
    ≡ sum (own_units start) m =
    ap (λ es. total entry_units (run (is_own start) es))
    (sym (head_from m start (option_map deref_pair c.least_from-next.result) c.least_from-next.ensures.least))
    ∙ all_units m start in
    omega (arith, all)

pub loop-next-smaller : goal.loop-next-smaller
loop-next-smaller c =
    let m = with_writes c.args.ledger.now.entries c.args.overlay.now in
    let fewer : length (on_from (entries m) (option_map deref_pair c.loop-next.next))
    ≡ suc (length (on_from (entries m) (option_map deref_pair c.least_after-next.result))) =
    ap length (on_from-next m deref_pair c.loop-next.next (c.in-Some.key, c.in-Some.entry)
    (option_map deref_pair c.least_after-next.result) c.in-Some.is c.least_after-next.ensures.least) in
    omega (arith, fewer)

pub loop-next-preserved : goal.loop-next-preserved
loop-next-preserved c =
    let m = with_writes c.args.ledger.now.entries c.args.overlay.now in
    let start = c.args.first.now in
    let step =
    ap (λ es. total entry_units (run (is_own start) es)) (on_from-next m deref_pair c.loop-next.next
    (c.in-Some.key, c.in-Some.entry) (option_map deref_pair c.least_after-next.result) c.in-Some.is
    c.least_after-next.ensures.least)
    ∙ one_unit (is_own start) c.in-Some.key.now c.in-Some.entry.now
    (on_from (entries m) (option_map deref_pair c.least_after-next.result)) (sym c.if-not-is_own.ensures.own) in
    let units = c.units_in-units.ensures.units in
    let before = c.loop-next.invariant in
    omega (arith, step, units, before)
