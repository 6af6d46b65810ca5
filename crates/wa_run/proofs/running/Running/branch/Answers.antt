use Rattle.std.proofs.Common.{◌+◌, ◌-◌, ap, arith, drop, length, length-drop, refl, rules, sym, ◌∙◌}
use Rattle.std.proofs.lemmas.Int.{to_z-of_z}
use Rattle.std.specs.Int.{cast_signed, w64}
use Rattle.wa_run.proofs.Leaving.{carried_few, branch_needs_label, branch_needs_result, branch_needs_cut}
use Rattle.wa_run.proofs.Leaving.{branch_needs_carry, branch_inner_follows, branch_loop_follows, branch_returns}
use Rattle.wa_run.proofs.Leaving.{closed_by, returned_follows}
use Rattle.wa_run.proofs.running.Running.branch.Goals as goal

pub unwind-requires : goal.unwind-requires
unwind-requires g c = record {
  some = omega (arith, branch_needs_label _ c.args.label c.args.self.now c.requires.branches);
}

pub innermost-named-requires : goal.innermost-named-requires
innermost-named-requires g c = record {
  some =
      omega (
        arith,
        ap length c.unwind.ensures.items,
        length-drop c.args.label c.args.self.now.labels.items,
        branch_needs_label _ c.args.label c.args.self.now c.requires.branches,
      );
}

pub close-requires : goal.close-requires
close-requires g c = record {
  some =
      omega (
        arith,
        ap length c.unwind.ensures.items,
        length-drop c.args.label c.args.self.now.labels.items,
        branch_needs_label _ c.args.label c.args.self.now c.requires.branches,
      );
}

pub top-requires : goal.top-requires
top-requires g c = record {
  some =
      branch_needs_result _ c.args.label c.innermost-named.result (drop 1 c.unwind.new.self.items) c.args.self.now
      (sym c.unwind.ensures.items ∙ c.innermost-named.ensures.items) c.in-Body.is c.requires.branches;
}

pub carry-requires-clause-height : goal.carry-requires-clause-height
carry-requires-clause-height g c =
    branch_needs_carry _ c.args.label c.innermost-named.result (drop 1 c.unwind.new.self.items) c.args.self.now
    (sym c.unwind.ensures.items ∙ c.innermost-named.ensures.items) c.in-Inner.is c.requires.branches

pub cut-requires : goal.cut-requires
cut-requires g c = record {
  height =
      branch_needs_cut _ c.args.label c.innermost-named.result (drop 1 c.unwind.new.self.items) c.args.self.now
      (sym c.unwind.ensures.items ∙ c.innermost-named.ensures.items) c.requires.branches;
}

pub returns-in-Body-clause-branches : goal.returns-in-Body-clause-branches
returns-in-Body-clause-branches g c =
    λ count d ops ends region around operands b s.
    returned_follows ops ends _ d (record d { count = count }) c.args.self.now.store.words.items _
    (record c.args.self.now { labels = c.unwind.new.self })
    (branch_returns c.args.label c.innermost-named.result (drop 1 c.unwind.new.self.items) c.args.self.now
    (sym c.unwind.ensures.items ∙ c.innermost-named.ensures.items) c.in-Body.is count d ops ends region around operands
    b s) refl
    (λ word below p.
    to_z-of_z w64 c.cast_signed.result (search rules)
    ∙ c.cast_signed.ensures
    ∙ ap (cast_signed w64) (c.top.ensures.top word below p))

pub returns-in-Inner-clause-branches : goal.returns-in-Inner-clause-branches
returns-in-Inner-clause-branches g c =
    branch_inner_follows c.args.label c.innermost-named.result c.close.new.self.items c.args.self.now
    (record c.args.self.now {
      at = c.innermost-named.result.last + 1;
      labels = c.close.new.self;
      store = record c.args.self.now.store { words = c.carry.new.self };
    })
    (sym c.unwind.ensures.items ∙ closed_by _ _ _ _ _ c.innermost-named.ensures.items c.close.ensures.items)
    c.in-Inner.is refl refl (record { locals = refl; globals = refl; memory = refl }) c.carry.ensures.items refl

pub returns-in-Loop-clause-branches : goal.returns-in-Loop-clause-branches
returns-in-Loop-clause-branches g c =
    branch_loop_follows c.args.label c.in-Loop.start c.innermost-named.result (drop 1 c.unwind.new.self.items)
    c.args.self.now
    (record c.args.self.now {
      at = c.in-Loop.start;
      labels = c.unwind.new.self;
      store = record c.args.self.now.store { words = c.cut.new.self };
    })
    (sym c.unwind.ensures.items ∙ c.innermost-named.ensures.items) c.in-Loop.is refl c.innermost-named.ensures.items
    (record { locals = refl; globals = refl; memory = refl }) c.cut.ensures.items refl

pub returns-in-Body-clause-grows : goal.returns-in-Body-clause-grows
returns-in-Body-clause-grows g c = record {
  words = omega arith;
  words_room = omega arith;
  labels = omega (arith, ap length c.unwind.ensures.items, length-drop c.args.label c.args.self.now.labels.items);
  labels_room = c.unwind.ensures.room;
  guards = omega arith;
  guards_room = omega arith;
}

pub returns-in-Inner-clause-grows : goal.returns-in-Inner-clause-grows
returns-in-Inner-clause-grows g c = record {
  words =
      carried_few c.innermost-named.result.carries c.args.self.now.store.words.items c.carry.new.self.items
      (length c.args.self.now.store.words.items - c.innermost-named.result.height) c.carry.ensures.items;
  words_room = c.carry.ensures.room;
  labels =
      omega (
        arith,
        ap length c.unwind.ensures.items,
        ap length c.close.ensures.items,
        length-drop c.args.label c.args.self.now.labels.items,
      );
  labels_room = omega (arith, c.unwind.ensures.room, c.close.ensures.room);
  guards = omega arith;
  guards_room = omega arith;
}
