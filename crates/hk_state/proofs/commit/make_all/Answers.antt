use Rattle.std.proofs.Common.{◌∙◌, ap, subst, drop}
use Rattle.indexmap.specs.IndexMap.{keys}
use Rattle.hk_state.specs.Writes.{with_writes, AddsKey}
use Rattle.hk_state.proofs.Making.{readied, as_writes, as_cause}
use Rattle.hk_state.proofs.commit.make_all.Goals as goal

pub returns-in-Ok-clause-ok : goal.returns-in-Ok-clause-ok
returns-in-Ok-clause-ok c =
    c.make_each.ensures.made
    ∙ readied c.args.entries.now c.make_room.new.entries c.make_room.new.added.items c.overlay.inside.writes.entries
    c.make_room.ensures.adds
    ∙ as_writes c.args.entries.now c.overlay.inside.writes.entries
    (drop c.overlay.inside.from (keys c.overlay.inside.writes))
    ∙ ap (with_writes c.args.entries.now) c.overlay.view_is

pub returns-in-Err-clause-cause : goal.returns-in-Err-clause-cause
returns-in-Err-clause-cause c =
    subst (AddsKey c.args.entries.now) c.overlay.view_is
    (as_cause c.args.entries.now c.overlay.inside.writes.entries
    (drop c.overlay.inside.from (keys c.overlay.inside.writes)) c.in-Err.ensures.cause)
