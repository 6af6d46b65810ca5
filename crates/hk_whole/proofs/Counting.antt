-- The counts that a replay prints are within their bounds.
use Rattle.std.proofs.Common.{List}
use Rattle.hk_lines.specs.declared.output_line.OutputLine.{OutputLine}
use Rattle.hk_lines.specs.declared.output_line.OutputLine.TheVariants as printed
use Rattle.hk_state.specs.Entries.{Entries}
use Rattle.hk_state.specs.Holdings.{with_holding}
use Rattle.hk_state.specs.Ledger.{LedgerValue, with_header}
use Rattle.hk_state.specs.Rules.{Rules}
use Rattle.hk_draft.specs.Reads.{reads_emitted}
use Rattle.hk_draft.proofs.Extended.{each-append}
use Rattle.hk_chain.specs.Callback.{callback_of}
use Rattle.hk_chain.specs.Chain.{chain_of}
use Rattle.hk_chain.specs.Laws.{HasBound, ChainsBounded, CallbacksBounded, lines_of}
use Rattle.hk_events.specs.Complete.{IsCareful, IsComplete}
use Rattle.hk_events.specs.Events.{applied}
use Rattle.hk_events.specs.Good.{IsGood}
use Rattle.hk_events.specs.Lawful.{IsLawful}
use Rattle.hk_events.specs.Settled.{due, opened}
use Rattle.hk_events.proofs.Applying.{applied_law}
use Rattle.hk_events.proofs.Following.{complete_then, follows_holding}
use Rattle.hk_events.proofs.Staying.{stays_law}
use Rattle.hk_events.proofs.Words.{each-map}
use Rattle.hk_items.specs.Checks.{checked_in}
use Rattle.hk_engine.specs.Engine.{engine_of, setting_of}
use Rattle.hk_engine.specs.Laws.{CompleteStores}
use Rattle.hk_final.specs.Final.{final_lines}
use Rattle.hk_ledger.specs.Machine.{start}
use Rattle.hk_ledger.proofs.Whole.{new_whole, account_queued}
use Rattle.hk_whole.specs.Bounded.{IsBounded}
use Rattle.hk_whole.specs.Laws.{BoundsCounts}
use Rattle.hk_whole.proofs.Bounding.{AreBounded, RunsBounded, applied_bounded, all_bounded}
use Rattle.hk_whole.proofs.Ending.{IsFinal, all_final}
use Rattle.hk_whole.proofs.Replaying.{ByAccount, ByLedger, ByTx, AtEnd, whole_replay}

-- the lines of a complete ledger's runs
has_bounded : (m : Entries) (line : OutputLine) → HasBound m line → IsBounded line
has_bounded m (printed.Hook account position outcome count bound) has = has.within
has_bounded m (printed.Callback account position outcome count bound) has = has.within
has_bounded m other has = absurd has

final_bounded : (line : OutputLine) → IsFinal line → IsBounded line
final_bounded (printed.Hook account position outcome count bound) h = absurd h
final_bounded (printed.Callback account position outcome count bound) h = absurd h
final_bounded other h = tt

module _ (rules : Rules) (lawful : IsLawful (engine_of rules)) (careful : IsCareful (engine_of rules))
    (stores : CompleteStores) (chains : ChainsBounded) (callbacks : CallbacksBounded) where
  runs : (m : Entries) → IsComplete checked_in m → RunsBounded (engine_of rules) m
  runs m complete =
      let stored = stores m complete in
      record {
        chains = λ header next t account a.
            each-map (HasBound m) IsBounded (has_bounded m)
            (lines_of (chain_of (setting_of header t) next m account a))
            (chains (setting_of header t) next m account a stored);
        callbacks = λ header next t account hash word a.
            each-map (HasBound m) IsBounded (has_bounded m)
            (lines_of (callback_of (setting_of header t) next m account hash word a))
            (callbacks (setting_of header t) next m account hash word a stored);
      }

  -- from a ledger with a good queue and complete hooks
  abbrev Bounds : LedgerValue → List OutputLine → Type 0
  Bounds ledger shown = IsGood reads_emitted ledger → IsComplete checked_in ledger.entries → AreBounded shown

  account_bounds : ByAccount Bounds
  account_bounds ledger id balance sequence rest after good complete =
      after (account_queued ledger id balance sequence good)
      (complete_then checked_in ledger.entries (with_holding ledger.entries id balance sequence) complete
      (follows_holding checked_in ledger.entries id balance sequence))

  opens_bounds : ByLedger rules Bounds
  opens_bounds ledger header rest after good complete =
      let now = with_header ledger header in
      let open_so = all_bounded (engine_of rules) lawful careful runs (due now) now good complete in (
        tt,
        each-append IsBounded (opened (engine_of rules) ledger header).lines rest open_so.lines
            (after open_so.good open_so.complete),
      )

  applies_bounds : ByTx rules Bounds
  applies_bounds ledger number verdict blob rest after good complete =
      let e = engine_of rules in
      let stays = stays_law e ledger lawful careful good complete in
      let lines = applied_bounded e ledger verdict blob (runs ledger.entries complete) in (
        tt,
        each-append IsBounded (applied e ledger verdict blob).lines rest lines
            (after (applied_law e ledger verdict blob lawful good).good (stays.applied_so verdict blob)),
      )

  ends_bounds : AtEnd Bounds
  ends_bounds ledger good complete = each-map IsFinal IsBounded final_bounded (final_lines ledger) (all_final ledger)

  pub bounds_counts : BoundsCounts rules
  bounds_counts lines shown h =
      whole_replay rules Bounds account_bounds opens_bounds applies_bounds ends_bounds lines start shown h
      new_whole.queue new_whole.hooks
