use Rattle.std.proofs.Common.{ap, sym, subst}
use Rattle.wa_machine.specs.Starts.{meaning_of}
use Rattle.wa_run.specs.Starts.{Ready, EndsSo}
use Rattle.wa_run.proofs.Starting.{paired, within_law, can_end, ends_as}
use Rattle.wa_run.proofs.instance.Instance.run.Goals as goal

pub run-requires-clause-paired : goal.run-requires-clause-paired
run-requires-clause-paired g c =
    paired c.requires.can.0 c.args.ops.now c.args.ends.now c.args.calls.now c.args.self c.requires.can.1

pub run-requires-clause-can : goal.run-requires-clause-can
run-requires-clause-can g c =
    can_end (meaning_of g.H.Host.answer g.H.Host.memory_after g.H.Host.state_after) c.requires.can.0 c.args.ops.now
    c.args.ends.now c.args.calls.now c.args.self c.self.inside.running c.args.host.now c.within_the_bound.ensures.law
    c.requires.can.1
    (record {
      fresh = c.self.invariant.0;
      locals = ap (λ (r : Ready). r.locals) c.self.view_is;
      globals = ap (λ (r : Ready). r.globals) c.self.view_is;
      memory = ap (λ (r : Ready). r.memory) c.self.view_is;
      words_room = ap (λ (r : Ready). r.words_room) c.self.view_is;
      labels_room = ap (λ (r : Ready). r.labels_room) c.self.view_is;
      guards_room = ap (λ (r : Ready). r.guards_room) c.self.view_is;
    })

pub returns-in_err-stopped-clause-within : goal.returns-in_err-stopped-clause-within
returns-in_err-stopped-clause-within g c =
    λ f r.
    within_law (meaning_of g.H.Host.answer g.H.Host.memory_after g.H.Host.state_after) f c.args.ops.now c.args.ends.now
    c.args.calls.now c.args.self c.args.host.now c.within_the_bound.ensures.law r

pub returns-clause-within : goal.returns-clause-within
returns-clause-within g c =
    λ f r.
    within_law (meaning_of g.H.Host.answer g.H.Host.memory_after g.H.Host.state_after) f c.args.ops.now c.args.ends.now
    c.args.calls.now c.args.self c.args.host.now c.within_the_bound.ensures.law r

pub returns-clause-ends : goal.returns-clause-ends
returns-clause-ends g c = λ f r.
    subst (λ outcome.
    EndsSo (meaning_of g.H.Host.answer g.H.Host.memory_after g.H.Host.state_after) f c.args.self c.args.host.now
    c.in_ok-stopped.stopped.count outcome c.run.new.host) (sym c.outcome.ensures.outcome)
    (ends_as (meaning_of g.H.Host.answer g.H.Host.memory_after g.H.Host.state_after) f c.args.ops.now c.args.ends.now
    c.args.calls.now c.args.self c.self.inside.running c.args.host.now c.in_ok-stopped.stopped c.run.new.self
    c.run.new.host c.within_the_bound.ensures.law r
    (record {
      fresh = c.self.invariant.0;
      locals = ap (λ (r : Ready). r.locals) c.self.view_is;
      globals = ap (λ (r : Ready). r.globals) c.self.view_is;
      memory = ap (λ (r : Ready). r.memory) c.self.view_is;
      words_room = ap (λ (r : Ready). r.words_room) c.self.view_is;
      labels_room = ap (λ (r : Ready). r.labels_room) c.self.view_is;
      guards_room = ap (λ (r : Ready). r.guards_room) c.self.view_is;
    }) c.in_ok-stopped.ensures.stops)
