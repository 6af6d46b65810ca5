use Rattle.std.proofs.Common.{suc, ap, refl, rules, ◌∙◌}
use Rattle.std.proofs.lemmas.Int.{to_z-of_z}
use Rattle.std.specs.Int.{cast_signed, w64}
use Rattle.wa_run.proofs.Leaving.{returned_follows}
use Rattle.wa_run.proofs.Branching.{return_needs, return_returns}
use Rattle.wa_run.proofs.running.Running.leave.Goals as goal

pub top-requires : goal.top-requires
top-requires g c = record { some = return_needs _ c.args.self.now c.requires.meets }

pub returns : goal.returns
returns g c = record {
  turns = λ entry world d ops ends i h e s.
      returned_follows ops ends _ d (record d { count = suc d.count }) c.args.self.now.store.words.items _
      c.args.self.now (return_returns c.args.self.now world d ops ends i h s) refl
      (λ word below p.
      to_z-of_z w64 c.cast_signed.result (search rules)
      ∙ c.cast_signed.ensures
      ∙ ap (cast_signed w64) (c.top.ensures.top word below p));
}
