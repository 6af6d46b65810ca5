use Rattle.std.proofs.Common.{◌≤◌}
use Rattle.hk_loop.proofs.Invariant.{Going}
use Rattle.hk_loop.proofs.through.go_through.Given as goal

-- what was given so far
abbrev pub invariant-loop-room : goal.invariant-loop-room
invariant-loop-room g l = record {
  going : Going g.C.Command.turn l.limit l.room l.initial.command l.command l.number l.cutter
      (g.S.Source.left l.initial.source) (g.S.Source.left l.source) (g.K.Sink.written l.initial.sink)
      (g.K.Sink.written l.sink);
  source_count : g.S.Source.faults l.initial.source ≤ g.S.Source.faults l.source;
  sink_count : g.K.Sink.faults l.initial.sink ≤ g.K.Sink.faults l.sink;
}

abbrev pub decreases-loop-room : goal.decreases-loop-room
decreases-loop-room g l = l.room
