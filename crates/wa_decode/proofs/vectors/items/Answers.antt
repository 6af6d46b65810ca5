use Rattle.std.proofs.lemmas.Result.{err_from_is_err_and}
use Rattle.wa_decode.specs.Reading.{items_at}
use Rattle.wa_decode.proofs.Loops.{item_read, no_item, all_items}
use Rattle.wa_decode.proofs.vectors.items.Goals as goal

pub returns-in_err-item : goal.returns-in_err-item
returns-in_err-item g c =
    let p = err_from_is_err_and c.from_residual.result c.from_residual.ensures.1 in
    rw (p.1, p.2) (no_item g.R.Spelled.at c.in_err-item.field-0.0 c.loop.items c.args.count c.loop.counter
    c.loop.rest.now (items_at g.R.Spelled.at c.args.count c.args.bytes.now) c.loop-test.true c.in_err-item.ensures
    c.loop.invariant)

pub loop-preserved : goal.loop-preserved
loop-preserved g c =
    rw c.in_ok-push.ensures.pushed (item_read g.R.Spelled.at c.loop.items c.args.count c.loop.counter c.loop.rest.now
    c.in_ok-item.item c.in_ok-item.after.now (items_at g.R.Spelled.at c.args.count c.args.bytes.now) c.loop-test.true
    c.in_ok-item.ensures c.loop.invariant)

pub returns : goal.returns
returns g c =
    all_items g.R.Spelled.at c.loop.items c.args.count c.loop.counter c.loop.rest.now
    (items_at g.R.Spelled.at c.args.count c.args.bytes.now) c.loop-test.false c.loop.invariant
