use Rattle.std.proofs.Common.{◌≡◌, length, ◌+◌, ◌-◌, ◌≤◌}
use Rattle.wa_machine.specs.Starts.{meaning_of}
use Rattle.wa_run.proofs.Ending.{AllUnderway}
use Rattle.wa_run.proofs.running.Running.run.Given as goal

abbrev pub invariant-loop-stop : goal.invariant-loop-stop
invariant-loop-stop g l = record {
  under : AllUnderway (meaning_of g.H.Host.answer g.H.Host.memory_after g.H.Host.state_after) l.ops l.ends l.calls
      l.fn.self l.fn.host l.count l.self l.host;
  words_room : l.fn.self.store.words.room ≤ l.self.store.words.room;
  labels_room : l.fn.self.labels.room ≤ l.self.labels.room;
  guards : length l.self.guards.items ≤ length l.fn.self.guards.items + l.count;
  guards_room : l.fn.self.guards.room ≤ l.self.guards.room;
  told : g.H.Host.may_want l.host ≡ g.H.Host.may_want l.fn.host;
}

abbrev pub decreases-loop-stop : goal.decreases-loop-stop
decreases-loop-stop g l = l.fn.self.guards.room - l.count
