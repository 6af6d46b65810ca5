use Rattle.std.proofs.Common.{◌+◌, suc, ap, refl, rules, ◌∙◌}
use Rattle.std.proofs.lemmas.Int.{to_z-of_z}
use Rattle.std.specs.Int.{cast_signed, w64}
use Rattle.wa_run.proofs.Leaving.{needs_label, needs_result, end_goes, end_returns_step, returned_follows}
use Rattle.wa_run.proofs.running.Running.end.Goals as goal

pub close-label-requires : goal.close-label-requires
close-label-requires g c = record { some = needs_label _ c.requires.turns.0 c.args.self.now c.requires.turns.2 }

pub top-requires : goal.top-requires
top-requires g c = record {
  some =
      needs_result _ c.requires.turns.0 c.close-label.result c.close-label.new.self.items c.args.self.now
      c.requires.turns.1 c.close-label.ensures.items c.in-Body.is c.requires.turns.2;
}

pub returns-in-Body-clause-turns : goal.returns-in-Body-clause-turns
returns-in-Body-clause-turns g c =
    λ instruction n entry world d ops ends i h e s.
    returned_follows ops ends _ d (record d { count = suc d.count }) c.args.self.now.store.words.items _
    (record c.args.self.now { labels = c.close-label.new.self })
    (end_returns_step instruction c.close-label.result c.close-label.new.self.items c.args.self.now n
    c.close-label.ensures.items c.in-Body.is world d ops ends i h s) refl
    (λ word below p.
    to_z-of_z w64 c.cast_signed.result (search rules)
    ∙ c.cast_signed.ensures
    ∙ ap (cast_signed w64) (c.top.ensures.top word below p))

pub returns-clause-turns : goal.returns-clause-turns
returns-clause-turns g c =
    λ instruction n entry.
    end_goes instruction entry c.close-label.result c.args.self.now
    (record c.args.self.now { at = c.close-label.result.last + 1; labels = c.close-label.new.self }) n
    c.close-label.ensures.items c.in_default.not-Body refl refl refl
