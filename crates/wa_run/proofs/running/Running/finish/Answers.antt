use Rattle.std.proofs.Common.{to_z, of_z, ◌+◌, refl, rules, ap, ◌∷◌, ◌∙◌}
use Rattle.std.proofs.lemmas.Int.{to_z-of_z}
use Rattle.std.specs.Int.{w64}
use Rattle.wa_run.proofs.Calling.{ending_needs, ending_some, ending_below, last_narrow, other_narrow, ending_goes}
use Rattle.wa_run.proofs.Calling.{ending_stops}
use Rattle.wa_run.proofs.running.Running.finish.Goals as goal

pub pop-requires : goal.pop-requires
pop-requires g c = record {
  some = ending_some _ (ending_needs _ c.args.accepts c.args.function c.args.self.now c.requires.meets);
}

pub pop_narrow-size-requires : goal.pop_narrow-size-requires
pop_narrow-size-requires g c =
    record {
      narrow =
          last_narrow _ (ending_below _ _ c.pop.result
          (ending_needs _ c.args.accepts c.args.function c.args.self.now c.requires.meets) c.pop.ensures.items);
    }

pub pop_narrow-from-requires : goal.pop_narrow-from-requires
pop_narrow-from-requires g c = record {
  narrow =
      other_narrow _ _ c.pop_narrow-size.result (ending_below _ _ c.pop.result
      (ending_needs _ c.args.accepts c.args.function c.args.self.now c.requires.meets) c.pop.ensures.items)
      c.pop_narrow-size.ensures.items;
}

pub returns-in-Some-clause-turns : goal.returns-in-Some-clause-turns
returns-in-Some-clause-turns g c =
    ending_stops c.args.accepts c.args.function c.pop.result c.pop_narrow-size.result c.pop_narrow-from.result
    c.pop_narrow-from.new.self.items c.told.result
    (record {
      code = to_z w64 (of_z w64 c.cast_signed-code.result);
      from = c.pop_narrow-from.result;
      size = c.pop_narrow-size.result;
    }) c.args.self.now
    (record c.args.self.now { store = record c.args.self.now.store { words = c.pop_narrow-from.new.self } })
    (c.pop.ensures.items
    ∙ ap (λ words. c.pop.result ∷ words)
    (c.pop_narrow-size.ensures.items ∙ ap (λ words. c.pop_narrow-size.result ∷ words) c.pop_narrow-from.ensures.items))
    c.in-Some.ensures.bytes.0 refl (to_z-of_z w64 c.cast_signed-code.result (search rules) ∙ c.cast_signed-code.ensures)
    refl refl c.told.ensures.accepts c.told.ensures.rolls_back

pub returns-in-None-clause-turns : goal.returns-in-None-clause-turns
returns-in-None-clause-turns g c =
    ending_goes c.args.accepts c.args.function c.pop.result c.pop_narrow-size.result c.pop_narrow-from.result
    c.pop_narrow-from.new.self.items c.args.self.now
    (record c.args.self.now {
      at = c.args.self.now.at + 1;
      store = record c.args.self.now.store { words = c.push.new.self };
    })
    (c.pop.ensures.items
    ∙ ap (λ words. c.pop.result ∷ words)
    (c.pop_narrow-size.ensures.items ∙ ap (λ words. c.pop_narrow-size.result ∷ words) c.pop_narrow-from.ensures.items))
    c.in-None.ensures.bytes c.push.ensures.items (record { locals = refl; globals = refl; memory = refl }) refl refl
    refl
