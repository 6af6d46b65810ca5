use Rattle.std.proofs.Common.{◌∙◌, Some, sym, ap}
use Rattle.hk_settle.specs.Waits.{read_as}
use Rattle.hk_settle.proofs.Ready.{never_none, waits_so}
use Rattle.hk_settle.proofs.waiting.find_waiting.Goals as goal

pub unreachable-requires-in_default-2 : goal.unreachable-requires-in_default-2
unreachable-requires-in_default-2 c =
    let w = c.in-Some-Emitted in
    never_none c.args.ledger.now c.args.number w.blob w.hash w.first w.last w.callback c.requires.queue
    (sym w.ensures.entry ∙ ap Some w.field-0-is)
    (sym c.in_default-2.is ∙ c.in_ok-transaction.ensures.found ∙ ap read_as c.as_slice.ensures.items)

pub returns : goal.returns
returns c =
    let w = c.in-Some-Emitted in
    record {
      waits =
          waits_so c.args.ledger.now c.args.number w.blob w.hash w.first w.last w.callback c.requires.queue
          (sym w.ensures.entry ∙ ap Some w.field-0-is) c.in-Some.transaction c.header.result
          (sym c.in-Some.is ∙ c.in_ok-transaction.ensures.found ∙ ap read_as c.as_slice.ensures.items)
          c.header.ensures.header;
    }
