use Rattle.std.proofs.Common.{◌∙◌, sym, ap}
use Rattle.std.specs.FinMap as map
use Rattle.hk_state.proofs.Kept.{at, ordered, get_kept, put_kept}
use Rattle.hk_state.proofs.entries.Entries.put.Goals as goal

pub returns-in-Ok-clause-ok : goal.returns-in-Ok-clause-ok
returns-in-Ok-clause-ok c =
    put_kept at ordered c.self.inside.kept.entries c.insert.new.self.entries c.args.key c.args.entry
    c.in-Ok.ensures.updates.0
    ∙ ap (λ m. map.insert m c.args.key c.args.entry) c.self.view_is

pub returns-clause-absent : goal.returns-clause-absent
returns-clause-absent c =
    ap (λ m. map.get m c.args.key) (sym c.self.view_is)
    ∙ get_kept at ordered c.self.inside.kept.entries c.args.key
    ∙ c.in-Err.ensures.absent
