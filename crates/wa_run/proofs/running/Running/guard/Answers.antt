use Rattle.std.proofs.Common.{◌+◌, refl, ap, sym, ◌∷◌, ◌∙◌}
use Rattle.wa_run.proofs.Calling.{guard_needs, last_narrow, other_narrow, guard_goes, guard_stops}
use Rattle.wa_run.proofs.running.Running.guard.Goals as goal

pub pop_narrow-limit-requires : goal.pop_narrow-limit-requires
pop_narrow-limit-requires g c = record {
  narrow = last_narrow _ (guard_needs _ c.args.function c.args.self.now c.requires.meets);
}

pub pop_narrow-id-requires : goal.pop_narrow-id-requires
pop_narrow-id-requires g c = record {
  narrow =
      other_narrow _ _ c.pop_narrow-limit.result (guard_needs _ c.args.function c.args.self.now c.requires.meets)
      c.pop_narrow-limit.ensures.items;
}

pub returns-then-passes-clause-turns : goal.returns-then-passes-clause-turns
returns-then-passes-clause-turns g c =
    guard_goes c.args.function c.pop_narrow-limit.result c.pop_narrow-id.result c.pop_narrow-id.new.self.items
    c.args.self.now
    (record c.args.self.now {
      at = c.args.self.now.at + 1;
      store = record c.args.self.now.store { words = c.push.new.self };
      guards = c.pass-passes.new.self;
    })
    (record {
      words =
          c.pop_narrow-limit.ensures.items
          ∙ ap (λ words. c.pop_narrow-limit.result ∷ words) c.pop_narrow-id.ensures.items;
      keeps = record { locals = refl; globals = refl; memory = refl };
      labels = refl;
      guards = c.pass-passes.ensures.counts c.if-passes.true;
    })
    (sym c.pass-passes.ensures.passes ∙ c.if-passes.true) c.push.ensures.items refl

pub returns-else-passes-clause-turns : goal.returns-else-passes-clause-turns
returns-else-passes-clause-turns g c =
    guard_stops c.args.function c.pop_narrow-limit.result c.pop_narrow-id.result c.pop_narrow-id.new.self.items
    c.args.self.now
    (record c.args.self.now {
      store = record c.args.self.now.store { words = c.pop_narrow-id.new.self };
      guards = c.pass-passes.new.self;
    })
    (c.pop_narrow-limit.ensures.items ∙ ap (λ words. c.pop_narrow-limit.result ∷ words) c.pop_narrow-id.ensures.items)
    (sym c.pass-passes.ensures.passes ∙ c.if-passes.false)
