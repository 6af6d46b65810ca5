use Rattle.std.proofs.Common.{◌≡◌, ◌∙◌, ◌++◌, sym, ap, arith, length, suc, append_assoc}
use Rattle.std.proofs.lemmas.List.{append-nil}
use Rattle.std.specs.Option.{option_map}
use Rattle.std.specs.FinMap.{entries}
use Rattle.std.specs.Map.Iter.{deref_pair}
use Rattle.hk_state.proofs.Walks.{on_from, on_from-next, head_first}
use Rattle.hk_final.specs.Entered.{entry_line}
use Rattle.hk_final.proofs.Entered.{lines_of}
use Rattle.hk_final.proofs.lines.entry_lines.Goals as goal

pub loop-next-init : goal.loop-next-init
loop-next-init c =
    let m = c.args.ledger.now.entries in
    let all = head_first m (option_map deref_pair c.first-next.result) c.first-next.ensures.least in
    (λ i. c.new-lines.ensures.empty i ++ lines_of (entry_line m) (sym all i))

pub loop-next-smaller : goal.loop-next-smaller
loop-next-smaller c =
    let m = c.args.ledger.now.entries in
    let later = option_map deref_pair c.least_after-next.result in
    let fewer : length (on_from (entries m) (option_map deref_pair c.loop-next.next))
    ≡ suc (length (on_from (entries m) later)) =
    ap length (on_from-next m deref_pair c.loop-next.next (c.in-Some.key, c.in-Some.entry) later
    c.in-Some.is c.least_after-next.ensures.least) in
    omega (arith, fewer)

pub loop-next-preserved : goal.loop-next-preserved
loop-next-preserved c =
    let m = c.args.ledger.now.entries in
    let later = option_map deref_pair c.least_after-next.result in
    let rest = lines_of (entry_line m) (on_from (entries m) later) in
    let step = on_from-next m deref_pair c.loop-next.next (c.in-Some.key, c.in-Some.entry) later
    c.in-Some.is c.least_after-next.ensures.least in
    ap (λ lines. lines ++ rest) c.in_ok-push_line.ensures.ok
    ∙ append_assoc c.loop-next.lines (entry_line m c.in-Some.key.now c.in-Some.entry.now) rest
    ∙ ap (λ es. c.loop-next.lines ++ lines_of (entry_line m) es) (sym step)
    ∙ c.loop-next.invariant

pub returns : goal.returns
returns c =
    let m = c.args.ledger.now.entries in
    record {
      lines = sym (append-nil c.loop-next.lines)
          ∙ ap (λ next. c.loop-next.lines ++ lines_of (entry_line m) (on_from (entries m) (option_map deref_pair next)))
          (sym c.in_default.is)
          ∙ c.loop-next.invariant;
    }
