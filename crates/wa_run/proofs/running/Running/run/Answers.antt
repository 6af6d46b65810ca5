use Rattle.std.proofs.Common.{Some, None, ◌+◌, refl, arith, ◌∙◌}
use Rattle.wa_machine.specs.Starts.{meaning_of}
use Rattle.wa_run.proofs.Ending.{begins, can_go, has_room, stops_all, stops_held, goes_all, goes_as}
use Rattle.wa_run.proofs.running.Running.run.Goals as goal

pub loop-stop-init : goal.loop-stop-init
loop-stop-init g c = record {
  under =
      begins (meaning_of g.H.Host.answer g.H.Host.memory_after g.H.Host.state_after) c.args.ops.now c.args.ends.now
      c.args.calls.now c.args.self.now c.args.host.now;
  words_room = omega arith;
  labels_room = omega arith;
  guards = omega arith;
  guards_room = omega arith;
  told = refl;
}

pub turn-requires-clause-meets : goal.turn-requires-clause-meets
turn-requires-clause-meets g c =
    can_go (meaning_of g.H.Host.answer g.H.Host.memory_after g.H.Host.state_after) c.args.ops.now c.args.ends.now
    c.args.calls.now c.args.self.now c.args.host.now c.loop-stop.count c.loop-stop.self c.loop-stop.host c.requires.can
    c.loop-stop.invariant.under

pub turn-requires-clause-words_room : goal.turn-requires-clause-words_room
turn-requires-clause-words_room g c =
    let room =
    has_room (meaning_of g.H.Host.answer g.H.Host.memory_after g.H.Host.state_after) c.args.ops.now c.args.ends.now
    c.args.calls.now c.args.self.now c.args.host.now c.loop-stop.count c.loop-stop.self c.loop-stop.host c.requires.can
    c.loop-stop.invariant.under in
    omega (arith, room.0, c.loop-stop.invariant.words_room)

pub turn-requires-clause-labels_room : goal.turn-requires-clause-labels_room
turn-requires-clause-labels_room g c =
    let room =
    has_room (meaning_of g.H.Host.answer g.H.Host.memory_after g.H.Host.state_after) c.args.ops.now c.args.ends.now
    c.args.calls.now c.args.self.now c.args.host.now c.loop-stop.count c.loop-stop.self c.loop-stop.host c.requires.can
    c.loop-stop.invariant.under in
    omega (arith, room.1, c.loop-stop.invariant.labels_room)

pub returns-in-Some-clause-stops : goal.returns-in-Some-clause-stops
returns-in-Some-clause-stops g c =
    stops_all (meaning_of g.H.Host.answer g.H.Host.memory_after g.H.Host.state_after) c.args.ops.now c.args.ends.now
    c.args.calls.now c.args.self.now c.args.host.now c.loop-stop.count c.loop-stop.self c.loop-stop.host
    (record { stop = c.in-Some.stop; count = c.loop-stop.count + 1 }) c.turn.new.self c.turn.new.host
    c.loop-stop.invariant.under
    (goes_as _ (meaning_of g.H.Host.answer g.H.Host.memory_after g.H.Host.state_after) c.args.calls.now c.args.ops.now
    c.args.ends.now c.loop-stop.self c.loop-stop.host c.in_ok-stop.field-0 (Some c.in-Some.stop) c.turn.new.self
    c.turn.new.host c.in-Some.is c.in_ok-stop.ensures.goes) refl

pub returns-in-Some-clause-held : goal.returns-in-Some-clause-held
returns-in-Some-clause-held g c =
    stops_held (meaning_of g.H.Host.answer g.H.Host.memory_after g.H.Host.state_after) c.args.ops.now c.args.ends.now
    c.args.calls.now c.args.self.now c.args.host.now c.loop-stop.count c.loop-stop.self c.loop-stop.host c.in-Some.stop
    c.turn.new.self c.turn.new.host c.requires.can c.loop-stop.invariant.under
    (goes_as _ (meaning_of g.H.Host.answer g.H.Host.memory_after g.H.Host.state_after) c.args.calls.now c.args.ops.now
    c.args.ends.now c.loop-stop.self c.loop-stop.host c.in_ok-stop.field-0 (Some c.in-Some.stop) c.turn.new.self
    c.turn.new.host c.in-Some.is c.in_ok-stop.ensures.goes)

pub loop-stop-preserved : goal.loop-stop-preserved
loop-stop-preserved g c = record {
  under =
      goes_all (meaning_of g.H.Host.answer g.H.Host.memory_after g.H.Host.state_after) c.args.ops.now c.args.ends.now
      c.args.calls.now c.args.self.now c.args.host.now c.loop-stop.count c.loop-stop.self c.loop-stop.host
      c.turn.new.self c.turn.new.host c.loop-stop.invariant.under
      (goes_as _ (meaning_of g.H.Host.answer g.H.Host.memory_after g.H.Host.state_after) c.args.calls.now c.args.ops.now
      c.args.ends.now c.loop-stop.self c.loop-stop.host c.in_ok-stop.field-0 None c.turn.new.self c.turn.new.host
      c.in_default.is c.in_ok-stop.ensures.goes);
  words_room = omega (arith, c.loop-stop.invariant.words_room, c.in_ok-stop.ensures.grows.words_room);
  labels_room = omega (arith, c.loop-stop.invariant.labels_room, c.in_ok-stop.ensures.grows.labels_room);
  guards = omega (arith, c.loop-stop.invariant.guards, c.in_ok-stop.ensures.grows.guards);
  guards_room = omega (arith, c.loop-stop.invariant.guards_room, c.in_ok-stop.ensures.grows.guards_room);
  told = c.turn.ensures.told ∙ c.loop-stop.invariant.told;
}
