use Rattle.std.proofs.Common.{◌≡◌, ◌+◌, ℕ, Some, None, subst, arith, refl}
use Rattle.wa_run.specs.Running.{IsArm}
use Rattle.wa_run.specs.declared.label.Label.{Label}
use Rattle.wa_run.specs.declared.label.Place.TheVariants as place
use Rattle.wa_run.proofs.Choosing.{if_needs, if_taken, if_other, if_skipped}
use Rattle.wa_run.proofs.running.Running.choose.Goals as goal

pub pop-condition-requires : goal.pop-condition-requires
pop-condition-requires g c = record { some = if_needs _ c.args.carried c.args.self.now c.requires.meets }

pub returns-then-condition-ne0-clause-chooses : goal.returns-then-condition-ne0-clause-chooses
returns-then-condition-ne0-clause-chooses g c =
    if_taken c.args.carried c.args.entry c.args.other c.pop-condition.result
    (record { place = place.Inner; last = c.last_of.result; height = c.len.result; carries = c.carries.result })
    c.args.self.now (record c.args.self.now {
      at = c.args.self.now.at + 1;
      labels = c.open.new.self;
      store = record c.args.self.now.store { words = c.pop-condition.new.self };
    })
    (record {
      place = refl;
      carries = c.carries.ensures.carries;
      height = c.len.ensures.length;
      none = c.last_of.ensures.none;
      some = c.last_of.ensures.some;
      words = c.pop-condition.ensures.items;
      keeps = record { locals = refl; globals = refl; memory = refl };
      guards = refl;
    }) (λ z. c.if-condition-ne0.true z) refl c.open.ensures.items

pub returns-in-Some-clause-chooses : goal.returns-in-Some-clause-chooses
returns-in-Some-clause-chooses g c =
    let opened : Label = record {
      place = place.Inner;
      last = c.last_of.result;
      height = c.len.result;
      carries = c.carries.result;
    } in
    λ world d ops ends i h e arm s.
    if_other c.args.carried c.args.entry c.in-Some.field-0 c.pop-condition.result opened
    c.args.self.now (record c.args.self.now {
      at = c.args.entry + 1;
      labels = c.open-in-Some.new.self;
      store = record c.args.self.now.store { words = c.pop-condition.new.self };
    })
    (record {
      place = refl;
      carries = c.carries.ensures.carries;
      height = c.len.ensures.length;
      none = subst (λ o. o ≡ None → c.last_of.result ≡ c.args.entry) c.in-Some.is c.last_of.ensures.none;
      some = subst (λ o. (last : ℕ) → o ≡ Some last → c.last_of.result ≡ last) c.in-Some.is c.last_of.ensures.some;
      words = c.pop-condition.ensures.items;
      keeps = record { locals = refl; globals = refl; memory = refl };
      guards = refl;
    }) (omega arith) refl c.open-in-Some.ensures.items world d ops ends i h e
    (subst (λ o. IsArm ops ends c.args.entry o) c.in-Some.is arm) s

pub returns-in-None-clause-chooses : goal.returns-in-None-clause-chooses
returns-in-None-clause-chooses g c =
    λ world d ops ends i h e arm s.
    if_skipped c.args.carried c.args.entry c.pop-condition.result
    c.args.self.now (record c.args.self.now {
      at = c.args.entry + 1;
      store = record c.args.self.now.store { words = c.pop-condition.new.self };
    })
    c.pop-condition.ensures.items (record { locals = refl; globals = refl; memory = refl }) refl (omega arith) refl refl
    world d ops ends i h e
    (subst (λ o. IsArm ops ends c.args.entry o) c.in-None.is arm) s
