use Rattle.std.proofs.Common.{take, drop, ◌-◌, ℕ, List, ap, ◌∙◌}
use Rattle.wa_run.specs.Room.{Words}
use Rattle.wa_run.proofs.Reversed.{last_put}
use Rattle.wa_run.proofs.words.Words.last.Goals as goal

pub returns : goal.returns
returns c = record {
  words =
      ap (λ (xs : List ℕ).
      take (c.self.inside.height - (c.self.inside.height - c.args.count))
      (drop (c.self.inside.height - c.args.count) xs)) c.deref.ensures.value
      ∙ last_put c.self.inside.words.items c.args.self.now.items c.args.count c.self.inside.height
      (ap (λ (w : Words). w.items) c.self.view_is) c.requires.some c.self.invariant;
}
