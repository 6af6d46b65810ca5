use Rattle.std.proofs.Common.{◌≡◌, ◌∙◌, sym, subst, length, vec_len, rules}
use Rattle.std.proofs.lemmas.List.{nil_from_length}
use Rattle.hk_state.specs.Room.{Adds}
use Rattle.hk_state.proofs.Making.{adds_less, adds_nothing}
use Rattle.hk_state.proofs.commit.take_back.Goals as goal

pub loop-key-preserved : goal.loop-key-preserved
loop-key-preserved c base puts adds =
    subst (λ m. Adds base puts m c.pop.new.self.items) (sym c.cut.ensures.removed)
    (adds_less base c.loop-key.entries puts c.pop.new.self.items c.in-Some.key
    (subst (Adds base puts c.loop-key.entries) c.in-Some.ensures.items (c.loop-key.invariant base puts adds)))

pub returns : goal.returns
returns c =
    let long : vec_len c.loop-key.added ≡ length c.loop-key.added.items = search rules in
    let none = nil_from_length c.loop-key.added.items (sym long ∙ c.in_default.ensures.cases.0) in
    record {
      taken =
          λ base puts adds.
          adds_nothing base c.loop-key.entries puts
          (subst (Adds base puts c.loop-key.entries) none (c.loop-key.invariant base puts adds));
    }
