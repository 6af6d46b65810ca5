use Rattle.std.proofs.Common.{◌≡◌, ◌++◌, length}
use Rattle.std.specs.Option.{option_map}
use Rattle.std.specs.FinMap.{entries}
use Rattle.std.specs.Map.Iter.{deref_pair}
use Rattle.hk_state.proofs.Walks.{on_from}
use Rattle.hk_final.specs.Entered.{entry_line}
use Rattle.hk_final.specs.Final.{in_order}
use Rattle.hk_final.proofs.Entered.{lines_of}
use Rattle.hk_final.proofs.lines.entry_lines.Given as goal

-- the lines so far, and those of the entries from the next one on
abbrev pub invariant-loop-next : goal.invariant-loop-next
invariant-loop-next l =
    let m = l.ledger.entries in
    l.lines ++ lines_of (entry_line m) (on_from (entries m) (option_map deref_pair l.next)) ≡ in_order (entry_line m) m

abbrev pub decreases-loop-next : goal.decreases-loop-next
decreases-loop-next l = length (on_from (entries l.ledger.entries) (option_map deref_pair l.next))
