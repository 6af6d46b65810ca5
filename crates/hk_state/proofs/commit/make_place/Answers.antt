use Rattle.std.proofs.Common.{◌≡◌, None, sym, subst}
use Rattle.std.specs.FinMap as map
use Rattle.std.proofs.lemmas.Result.{on_ok_weaker}
use Rattle.hk_state.specs.declared.entry.Entry.TheVariants as entry
use Rattle.hk_state.specs.Room.{Adds}
use Rattle.hk_state.proofs.Making.{adds_more}
use Rattle.hk_state.proofs.Told.{is_none, others, stays, put_there}
use Rattle.hk_state.proofs.commit.make_place.Goals as goal

absent : (c : goal.After-put) → map.get c.args.entries.now c.args.key.now ≡ None
absent c = is_none (map.get c.args.entries.now c.args.key.now) (sym c.if-has.ensures.has)

pub returns-clause-adds : goal.returns-clause-adds
returns-clause-adds c base puts put adds =
    subst (Adds base puts c.put.new.self) (sym c.in_ok-push.ensures.items)
    (adds_more base c.args.entries.now c.put.new.self puts c.args.added.now.items c.args.key.now put (absent c)
    (others c.put.result c.args.entries.now c.put.new.self c.args.key.now (entry.Other c.new.result) c.put.ensures.ok
    c.put.ensures.err) adds)

pub returns-clause-there : goal.returns-clause-there
returns-clause-there c =
    on_ok_weaker c.put.result (put_there c.args.entries.now c.put.new.self c.args.key.now (entry.Other c.new.result))
    c.put.ensures.ok

pub returns-clause-stays : goal.returns-clause-stays
returns-clause-stays c =
    stays c.put.result c.args.entries.now c.put.new.self c.args.key.now (entry.Other c.new.result) c.put.ensures.ok
    c.put.ensures.err (absent c)
