use Rattle.std.proofs.Common.{◌≡◌, List, drop}
use Rattle.hk_emit.specs.declared.emission.Emission.{Emission}
use Rattle.hk_draft.specs.Drafted.{draft_of}
use Rattle.hk_events.specs.Items.{items_end}
use Rattle.hk_items.specs.Endings.{plain}
use Rattle.hk_items.proofs.performing.perform_all.Given as goal

-- the items that are left come to what all come to
abbrev pub invariant-loop-item : goal.invariant-loop-item
invariant-loop-item l =
    (l.position ≡ l.item-index)
    × ((es : List Emission) → items_end plain l.account l.position (drop l.item-index l.items)
    (draft_of l.ledger.entries l.after es) ≡ items_end plain l.account 0 l.items
    (draft_of l.ledger.entries l.fn.overlay es))
