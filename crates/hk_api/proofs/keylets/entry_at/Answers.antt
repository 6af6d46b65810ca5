use Rattle.std.proofs.Common.{◌≡◌, ◌∙◌, sym, ap, arith, length, suc, cond, Some}
use Rattle.std.specs.List.{find}
use Rattle.std.specs.Option.{option_map}
use Rattle.std.specs.FinMap.{entries}
use Rattle.std.specs.Map.Iter.{deref_pair}
use Rattle.hk_state.specs.Writes.{with_writes}
use Rattle.hk_state.proofs.Walks.{run, on_from, on_from-next}
use Rattle.hk_api.specs.Keylets.{is_of, has_index}
use Rattle.hk_api.proofs.Walking.{run_one, found_from}
use Rattle.hk_api.proofs.keylets.entry_at.Goals as goal

pub loop-next-init : goal.loop-next-init
loop-next-init c =
    found_from (with_writes c.args.ledger.now.entries c.args.overlay.now) c.args.first.now
    (option_map deref_pair c.least_from-next.result) c.least_from-next.ensures.least c.args.index.now

pub loop-next-smaller : goal.loop-next-smaller
loop-next-smaller c =
    let m = with_writes c.args.ledger.now.entries c.args.overlay.now in
    let fewer : length (on_from (entries m) (option_map deref_pair c.loop-next.next))
    ≡ suc (length (on_from (entries m) (option_map deref_pair c.least_after-next.result))) =
    ap length (on_from-next m deref_pair c.loop-next.next (c.in-Some.key, c.in-Some.entry)
    (option_map deref_pair c.least_after-next.result) c.in-Some.is c.least_after-next.ensures.least) in
    omega (arith, fewer)

pub loop-next-preserved : goal.loop-next-preserved
loop-next-preserved c =
    let m = with_writes c.args.ledger.now.entries c.args.overlay.now in
    let start = c.args.first.now in
    let index = c.args.index.now in
    let key = c.in-Some.key.now in
    let entry = c.in-Some.entry.now in
    let rest = on_from (entries m) (option_map deref_pair c.least_after-next.result) in
    sym (ap (λ es. find (λ e. has_index index e.0) (run (is_of start) es)) (on_from-next m deref_pair c.loop-next.next
    (c.in-Some.key, c.in-Some.entry) (option_map deref_pair c.least_after-next.result) c.in-Some.is
    c.least_after-next.ensures.least)
    ∙ ap (find (λ e. has_index index e.0)) (run_one (is_of start) key entry rest (sym c.if-not-is_of.ensures))
    ∙ ap (λ b. cond b (Some (key, entry)) (find (λ e. has_index index e.0) (run (is_of start) rest)))
    (sym c.if-has_index.ensures))
    ∙ c.loop-next.invariant
