use Rattle.std.proofs.Common.{◌≡◌, ◌∙◌, sym, ap, arith, length, suc}
use Rattle.std.specs.Option.{option_map}
use Rattle.std.specs.FinMap.{entries}
use Rattle.std.specs.Map.Iter.{deref_pair}
use Rattle.hk_state.specs.Reserves.{is_own}
use Rattle.hk_state.proofs.Walks.{run, on_from, head_from, on_from-next}
use Rattle.hk_final.specs.Final.{number_of}
use Rattle.hk_final.proofs.Numbers.{all_own, one_more}
use Rattle.hk_final.proofs.counts.number_of.Goals as goal

pub loop-next-init : goal.loop-next-init
loop-next-init c =
    let m = c.args.ledger.now.entries in
    let start = c.args.first.now in
    let found = option_map deref_pair c.least_from-next.result in
    let all : length (run (is_own start) (on_from (entries m) found)) ≡ number_of start m =
    ap (λ es. length (run (is_own start) es)) (sym (head_from m start found c.least_from-next.ensures.least))
    ∙ all_own m start in
    omega (arith, all)

pub loop-next-smaller : goal.loop-next-smaller
loop-next-smaller c =
    let m = c.args.ledger.now.entries in
    let later = option_map deref_pair c.least_after-next.result in
    let fewer : length (on_from (entries m) (option_map deref_pair c.loop-next.next))
    ≡ suc (length (on_from (entries m) later)) =
    ap length (on_from-next m deref_pair c.loop-next.next (c.in-Some.key, c.in-Some._entry) later
    c.in-Some.is c.least_after-next.ensures.least) in
    omega (arith, fewer)

pub loop-next-preserved : goal.loop-next-preserved
loop-next-preserved c =
    let m = c.args.ledger.now.entries in
    let own = is_own c.args.first.now in
    let later = option_map deref_pair c.least_after-next.result in
    let next = on_from-next m deref_pair c.loop-next.next (c.in-Some.key, c.in-Some._entry) later
    c.in-Some.is c.least_after-next.ensures.least in
    let more = one_more own c.in-Some.key.now c.in-Some._entry.now (on_from (entries m) later)
    (sym c.if-not-is_own.ensures.own) in
    let step = ap (λ es. length (run own es)) next ∙ more in
    let before = c.loop-next.invariant in
    omega (arith, step, before)
