use Rattle.std.proofs.Common.{◌∙◌, ap}
use Rattle.std.specs.FinMap as map
use Rattle.hk_state.proofs.Kept.{at, ordered, put_kept}
use Rattle.hk_chain.proofs.programs.Programs.keep.Goals as goal

pub returns-in-Ok-clause-ok : goal.returns-in-Ok-clause-ok
returns-in-Ok-clause-ok c =
    put_kept at ordered c.self.inside.kept.entries c.insert.new.self.entries c.args.key c.args.checked
    c.in-Ok.ensures.updates.0 ∙ ap (λ m. map.insert m c.args.key c.args.checked) c.self.view_is
