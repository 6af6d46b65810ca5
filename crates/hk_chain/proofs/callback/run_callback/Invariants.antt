use Rattle.std.proofs.Common.{◌≡◌, ◌-◌}
use Rattle.hk_state.specs.Fees.{positions}
use Rattle.hk_draft.specs.Drafted.{draft_of}
use Rattle.hk_chain.specs.Callback.{callback_at, callback_from, callback_of}
use Rattle.hk_chain.specs.Meets.{WorkFits, passing}
use Rattle.hk_chain.specs.Programs.{AreOf, StayKept}
use Rattle.hk_chain.proofs.callback.run_callback.Given as goal

-- the callback from this position on is the whole callback
abbrev pub invariant-loop-position : goal.invariant-loop-position
invariant-loop-position l = record {
  held : AreOf l.ledger.entries l.programs;
  stays : StayKept l.fn.programs l.programs;
  fits : WorkFits l.setting l.ledger.entries l.work;
  leads :
      callback_from l.account (callback_at l.setting l.ledger.next l.ledger.entries l.account l.hash l.argument)
      (positions - l.position) l.position (passing l.ledger.entries l.work)
      ≡ callback_of l.setting l.ledger.next l.ledger.entries l.account l.hash l.argument
      (draft_of l.ledger.entries l.fn.overlay l.fn.emissions);
}
