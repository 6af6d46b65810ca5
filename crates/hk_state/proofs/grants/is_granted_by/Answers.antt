use Rattle.std.proofs.Common.{◌≡◌, ◌∙◌, ◌||◌, sym, ap, arith, length, suc}
use Rattle.std.specs.List.{list_any}
use Rattle.std.specs.Option.{option_map}
use Rattle.std.specs.FinMap.{entries}
use Rattle.std.specs.Map.Iter.{deref_pair}
use Rattle.hk_state.specs.Grants.{has_grant}
use Rattle.hk_state.specs.Reserves.{first_install, is_own}
use Rattle.hk_state.proofs.Owned.{some_own, one_own}
use Rattle.hk_state.proofs.Walks.{run, on_from, head_from, on_from-next}
use Rattle.hk_state.proofs.grants.is_granted_by.Goals as goal

pub loop-next-init : goal.loop-next-init
loop-next-init c =
    let m = c.args.ledger.now.entries in
    let start = first_install c.args.owner.now in
    let grants = has_grant c.args.hash.now c.args.actor.now c.args.namespace.now in
    ap (λ es. list_any (λ e. grants e.1) (run (is_own start) es))
    (sym (head_from m start (option_map deref_pair c.least_from-next.result) c.least_from-next.ensures.least))
    ∙ some_own m start grants

pub loop-next-smaller : goal.loop-next-smaller
loop-next-smaller c =
    let m = c.args.ledger.now.entries in
    let fewer : length (on_from (entries m) (option_map deref_pair c.loop-next.next))
    ≡ suc (length (on_from (entries m) (option_map deref_pair c.least_after-next.result))) =
    ap length (on_from-next m deref_pair c.loop-next.next (c.in-Some.key, c.in-Some.entry)
    (option_map deref_pair c.least_after-next.result) c.in-Some.is c.least_after-next.ensures.least) in
    omega (arith, fewer)

pub loop-next-preserved : goal.loop-next-preserved
loop-next-preserved c =
    let m = c.args.ledger.now.entries in
    let start = first_install c.args.owner.now in
    let grants = has_grant c.args.hash.now c.args.actor.now c.args.namespace.now in
    let rest = on_from (entries m) (option_map deref_pair c.least_after-next.result) in
    sym (ap (λ es. list_any (λ e. grants e.1) (run (is_own start) es)) (on_from-next m deref_pair c.loop-next.next
    (c.in-Some.key, c.in-Some.entry) (option_map deref_pair c.least_after-next.result) c.in-Some.is
    c.least_after-next.ensures.least)
    ∙ one_own (is_own start) grants c.in-Some.key.now c.in-Some.entry.now rest (sym c.if-not-is_own.ensures.own)
    ∙ ap (λ b. b || list_any (λ e. grants e.1) (run (is_own start) rest)) (sym c.if-has_grant.ensures.has))
    ∙ c.loop-next.invariant
