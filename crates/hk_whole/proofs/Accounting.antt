-- A replay prints the accounts of its emissions.
use Rattle.std.proofs.Common.{◌≡◌, ℕ, false, List, [], ◌++◌, refl, ap, subst, arith, Option, Some, None}
use Rattle.std.specs.FinMap.{get, get-empty}
use Rattle.hk_base.specs.declared.ids.AccountId.{AccountId}
use Rattle.hk_lines.specs.declared.input_line.InputLine.{InputLine}
use Rattle.hk_lines.specs.declared.output_line.OutputLine.{OutputLine}
use Rattle.hk_state.specs.declared.key.Key.TheVariants as key
use Rattle.hk_state.specs.Holdings.{get-with_holding}
use Rattle.hk_state.specs.Keys.{key_cmp}
use Rattle.hk_state.specs.Ledger.{LedgerValue, new_ledger, with_header}
use Rattle.hk_state.specs.Rules.{Rules}
use Rattle.hk_draft.specs.Reads.{reads_emitted}
use Rattle.hk_events.specs.Events.{applied}
use Rattle.hk_events.specs.Good.{IsGood}
use Rattle.hk_events.specs.Lawful.{IsLawful}
use Rattle.hk_events.specs.Performed.{transaction}
use Rattle.hk_events.specs.Results.{handed}
use Rattle.hk_events.specs.Settled.{due, opened}
use Rattle.hk_events.specs.Whole.{WaitsFor}
use Rattle.hk_events.proofs.Applying.{applied_law}
use Rattle.hk_engine.specs.Engine.{engine_of}
use Rattle.hk_final.specs.Counted.{waiting, QueueTold}
use Rattle.hk_ledger.specs.Machine.{start}
use Rattle.hk_ledger.specs.Replays.{replayed}
use Rattle.hk_ledger.specs.World.{with_account}
use Rattle.hk_ledger.proofs.Conserving.{settled_kept}
use Rattle.hk_ledger.proofs.Whole.{new_whole, account_queued}
use Rattle.hk_whole.specs.Accounts.{Accounts}
use Rattle.hk_whole.specs.Laws.{AccountsFor}
use Rattle.hk_whole.proofs.Passing.{IsTold, Passes, applied_passes}
use Rattle.hk_whole.proofs.Resting.{Rests, rests_on, all_rest, under_ledger, behind_tx}
use Rattle.hk_whole.proofs.Ending.{final_rest}
use Rattle.hk_whole.proofs.Replaying.{ByAccount, ByLedger, ByTx, AtEnd, whole_replay}

-- another account leaves the queue as it is
account_passes : (under : Option ℕ) (ledger : LedgerValue) (id : AccountId) (balance sequence : ℕ) →
    Passes under ledger (with_account ledger id balance sequence) []
account_passes under ledger id balance sequence =
    let same : (n : ℕ) →
    get (with_account ledger id balance sequence).entries (key.Emitted n) ≡ get ledger.entries (key.Emitted n) =
    (λ n. get-with_holding ledger.entries id balance sequence (key.Emitted n) refl) in
    record {
      once = λ n. omega arith;
      low = λ n h. refl;
      high = λ n h. refl;
      rises = omega arith;
      flows = λ n. let waits = ap waiting (same n) in omega (arith, waits);
      unqueued = λ n. refl;
      as_emitted = λ emits rest told after.
          after emits (λ n first last waits. told n first last (subst (WaitsFor first last) (same n) waits));
      called = λ rest fresh. fresh;
      header = refl;
    }

module _ (rules : Rules) (lawful : IsLawful (engine_of rules)) (told : QueueTold) where
  -- from a ledger with a good queue, under any `ledger` line
  abbrev Goes : LedgerValue → List OutputLine → Type 0
  Goes ledger rest = (under : Option ℕ) → IsGood reads_emitted ledger → Rests under ledger rest

  account_goes : ByAccount Goes
  account_goes ledger id balance sequence rest after under good =
      rests_on under ledger (with_account ledger id balance sequence) [] rest
      (account_passes under ledger id balance sequence)
      (after under (account_queued ledger id balance sequence good))

  opens_goes : ByLedger rules Goes
  opens_goes ledger header rest after under good =
      let e = engine_of rules in
      let now = with_header ledger header in
      let lines = (opened e ledger header).lines ++ rest in
      under_ledger under header.seq ledger now lines refl refl
      (all_rest e lawful rest (Some header.seq) (due now) now good refl refl
      (after (Some header.seq) (settled_kept e lawful (due now) now good).good))

  applies_goes : ByTx rules Goes
  applies_goes ledger number verdict blob rest after under good =
      let e = engine_of rules in
      let event = applied e ledger verdict blob in
      let name = (transaction e ledger.entries ledger (handed verdict) (e.reads blob)).result in
      behind_tx under ledger number name event.fee (event.lines ++ rest)
      (rests_on under ledger event.ledger event.lines rest
      (applied_passes e lawful ledger good verdict blob under)
      (after under (applied_law e ledger verdict blob lawful good).good))

  ends_goes : AtEnd Goes
  ends_goes ledger under good = final_rest told under ledger

  pub replay_rests : (lines : List InputLine) (shown : List OutputLine) →
      replayed rules start lines ≡ Some shown → Rests None start.ledger shown
  replay_rests lines shown h =
      whole_replay rules Goes account_goes opens_goes applies_goes ends_goes lines start shown h None new_whole.queue

-- nothing waits at the start
none_waits : (n : ℕ) → get new_ledger.entries (key.Emitted n) ≡ None
none_waits n = get-empty key_cmp (key.Emitted n)

none_told : IsTold [] new_ledger.entries
none_told n first last waits = absurd (subst (WaitsFor first last) (none_waits n) waits)

whole_accounts : (shown : List OutputLine) → Rests None start.ledger shown → Accounts shown
whole_accounts shown rests = record {
  once = rests.once;
  closed = λ n.
      let closed = rests.closed n in
      let none = ap waiting (none_waits n) in
      omega (arith, closed, none);
  as_emitted = rests.as_emitted [] none_told;
  called = rests.called false;
}

pub accounts_for : (rules : Rules) → IsLawful (engine_of rules) → QueueTold → AccountsFor rules
accounts_for rules lawful told lines shown h =
    whole_accounts shown (replay_rests rules lawful told lines shown h)
