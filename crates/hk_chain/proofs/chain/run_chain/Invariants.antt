use Rattle.std.proofs.Common.{◌≡◌, ◌-◌}
use Rattle.hk_state.specs.Fees.{positions}
use Rattle.hk_state.specs.Installs.{IsNext}
use Rattle.hk_draft.specs.Drafted.{draft_of}
use Rattle.hk_chain.specs.Chain.{chain_from, chain_of, play_at}
use Rattle.hk_chain.specs.Meets.{WorkFits, passing}
use Rattle.hk_chain.specs.Programs.{AreOf, StayKept}
use Rattle.hk_chain.proofs.chain.run_chain.Given as goal

-- the chain from this position on is the whole chain
abbrev pub invariant-loop-position : goal.invariant-loop-position
invariant-loop-position l = record {
  held : AreOf l.ledger.entries l.programs;
  stays : StayKept l.fn.programs l.programs;
  next : IsNext l.ledger.entries l.account l.position l.installed;
  fits : WorkFits l.setting l.ledger.entries l.work;
  leads :
      chain_from l.account (play_at l.setting l.ledger.next l.ledger.entries l.account) (positions - l.position)
      l.position (passing l.ledger.entries l.work) l.records
      ≡ chain_of l.setting l.ledger.next l.ledger.entries l.account
      (draft_of l.ledger.entries l.fn.overlay l.fn.emissions);
}
