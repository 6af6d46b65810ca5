use Rattle.xo_showing.proofs.Placing.{collected_items, collected_placed, no_fault}
use Rattle.xo_showing.proofs.value.spans_in.Goals as goal

pub unreachable-requires : goal.unreachable-requires
unreachable-requires c =
    no_fault c.one_reading.ensures.law c.args.room c.args.place c.args.bytes.now c.in-Err.fault c.requires.outer
    c.requires.whole (c.in-Err.ensures.fault c.in_default.not-NoMemory)

pub returns-in-Ok-clause-items : goal.returns-in-Ok-clause-items
returns-in-Ok-clause-items c =
    collected_items c.args.room c.args.place c.args.bytes.now c.in-Ok.spans.items c.requires.outer c.in-Ok.ensures.ok

pub returns-in-Ok-clause-placed : goal.returns-in-Ok-clause-placed
returns-in-Ok-clause-placed c =
    collected_placed c.args.room c.args.place c.args.bytes.now c.in-Ok.spans.items c.requires.outer c.in-Ok.ensures.ok
