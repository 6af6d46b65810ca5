use Rattle.std.proofs.Common.{◌∙◌}
use Rattle.hk_state.specs.contracts.key.KeyPartialEq.TheImpl.{eq-value}
use Rattle.hk_state.proofs.Kept.{alike, find_kept}
use Rattle.hk_state.proofs.Making.{ready_one, ready_rest, one_made}
use Rattle.hk_state.proofs.commit.make_each.Goals as goal

pub make_one-requires : goal.make_one-requires
make_one-requires c = record {
  there =
      ready_one c.loop-key.entries c.pop.new.self.entries c.loop-key.writes.entries c.in-Some.key c.in-Some.change
      c.in-Some.ensures.entries
      (find_kept eq-value.it alike c.pop.new.self.entries c.in-Some.key ∙ c.in-Some.ensures.updates.1)
      c.loop-key.invariant.1;
}

pub loop-key-preserved : goal.loop-key-preserved
loop-key-preserved c = (
  one_made c.loop-key.entries c.make_one.new.entries c.pop.new.self.entries c.loop-key.writes.entries c.in-Some.key
      c.in-Some.change c.in-Some.ensures.entries c.make_one.ensures.made
      ∙ c.loop-key.invariant.0,
  ready_rest c.loop-key.entries c.make_one.new.entries c.pop.new.self.entries c.loop-key.writes.entries c.in-Some.key
      c.in-Some.change c.in-Some.ensures.entries
      (find_kept eq-value.it alike c.pop.new.self.entries c.in-Some.key ∙ c.in-Some.ensures.updates.1)
      c.make_one.ensures.made c.loop-key.invariant.1,
)
