-- What comes of an emission stays within the limits.
use Rattle.std.proofs.Common.{◌≡◌, ℕ, ◌+◌, ◌≤◌, List, length, arith, subst, sym, ap, nat_lt}
use Rattle.hk_emit.specs.declared.emission.Emission.{Emission}
use Rattle.hk_state.specs.Entries.{Entries}
use Rattle.hk_state.specs.Ledger.{LedgerValue}
use Rattle.hk_state.specs.Reserves.{reserve}
use Rattle.hk_state.specs.Rules.{Rules}
use Rattle.hk_draft.specs.Draft.{Draft}
use Rattle.hk_events.specs.Engine.{Engine}
use Rattle.hk_events.specs.Lawful.{IsLawful}
use Rattle.hk_events.specs.Limits.{IsMeasured, most_number}
use Rattle.hk_events.specs.Settled as defined
use Rattle.hk_events.specs.Settled.{settlement, without}
use Rattle.hk_events.proofs.Limiting.{own_number, same_within}
use Rattle.hk_events.proofs.Queueing.{without_other}
use Rattle.hk_events.proofs.Settling.{settlement_takes, without_sum}
use Rattle.hk_engine.specs.Engine.{engine_of}
use Rattle.hk_perform.specs.Needs.{AreCovered}
use Rattle.hk_settle.specs.Needs.{IsSteady}

pub record IsWithin (ledger : LedgerValue) (d : Draft) : Type 0 where
  pub covered : AreCovered d.entries
  pub room : ledger.next + length d.emissions ≤ most_number

pub came_within : (rules : Rules) → IsLawful (engine_of rules) → IsMeasured (engine_of rules) → (ledger : LedgerValue) →
    IsSteady ledger → (number : ℕ) (w : defined.Waiting) →
    IsWithin ledger (settlement (engine_of rules) ledger.entries (without ledger number) w).draft
came_within rules lawful measured ledger steady number w =
    let left = without ledger number in
    let takes = settlement_takes (engine_of rules) lawful ledger number w (nat_lt w.last ledger.header.seq) in
    let limits = takes.limits measured in
    let out = without_sum ledger.entries number in
    let fits = steady.sum in
    let taken = takes.sum in
    let made = takes.extends.sum in
    let left_within =
    same_within reserve measured.reserves 100000000000000000 ledger.entries left.entries
    (λ id k h. without_other ledger.entries number k (own_number id k h)) steady.reserves in
    record {
      covered = record {
        sum = omega (arith, out, fits, taken, made);
        reserves = limits.within 100000000000000000 (omega (arith, out, fits)) left_within;
      };
      room = limits.room steady.next;
    }
