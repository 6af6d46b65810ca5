-- What a transaction takes and leaves, on the entries of a ledger.
use Rattle.std.proofs.Common.{◌≡◌, ◌≢◌, ℕ, ◌+◌, ◌-◌, ◌≤◌, ◌==◌, ◌⊎◌, inl, inr, Bool, true, false, if◌then◌else◌, List}
use Rattle.std.proofs.Common.{[], ◌∷◌, ◌++◌, length, append-nil, refl, sym, ap, subst, arith, Option, Some, None}
use Rattle.std.proofs.Common.{IsSome}
use Rattle.std.specs.Option.{is_some}
use Rattle.std.specs.FinMap.{get}
use Rattle.std.proofs.lemmas.Bool.{ltb-false, eqb-true}
use Rattle.xo_object.specs.declared.transaction.Transaction.{Transaction}
use Rattle.hk_lines.specs.declared.output_line.OutputLine.{OutputLine}
use Rattle.hk_lines.specs.declared.result_name.ResultName.{ResultName}
use Rattle.hk_lines.specs.declared.result_name.ResultName.TheVariants.{TooLong, Unparsed, Malformed, HookRejected}
use Rattle.hk_lines.specs.declared.result_name.ResultName.TheVariants.{Success}
use Rattle.hk_reading.specs.declared.reading.Reading.{Reading}
use Rattle.hk_reading.specs.declared.reading.Reading.TheVariants as readings
use Rattle.hk_reading.specs.Readings.{hook_kind}
use Rattle.hk_state.specs.declared.entry.Holding.{Holding}
use Rattle.hk_state.specs.declared.key.Key.{Key}
use Rattle.hk_state.specs.declared.key.Key.TheVariants as key
use Rattle.hk_state.specs.declared.key.StateKey.{StateKey}
use Rattle.hk_state.specs.declared.ledger.Header.{Header}
use Rattle.hk_state.specs.Keys.{as_key}
use Rattle.hk_state.specs.Entries.{Entries}
use Rattle.hk_state.specs.Holdings.{holding_at, get-with_holding}
use Rattle.hk_state.specs.Balances.{balances, sum_with}
use Rattle.hk_state.specs.Ledger.{LedgerValue}
use Rattle.hk_state.specs.Reserves.{may_change}
use Rattle.hk_state.specs.Rows.{none_applies, NoneApplies}
use Rattle.hk_state.specs.Rules.{Effect, keeps, fails}
use Rattle.hk_draft.specs.Lists.{Each}
use Rattle.hk_draft.specs.Draft.{Draft, draft_on}
use Rattle.hk_draft.specs.Ends.{ChainEnd, kept, rejected, ChainFits, Chained}
use Rattle.hk_draft.specs.Extends.{Extends, HoldsState}
use Rattle.hk_draft.specs.Writers.{IsWriter, HookRan, IsHook}
use Rattle.hk_draft.proofs.Extended.{extends_itself, extends_further, extends_weaker}
use Rattle.hk_events.specs.Complete.{IsComplete, IsCareful, ItemsFit, AreSized, SizesFit}
use Rattle.hk_events.specs.Limits.{IsMeasured, AreWithin, Fit, most_number}
use Rattle.hk_events.specs.Engine.{Engine, Checked}
use Rattle.hk_events.specs.Results.{Origin, refusal, refusal_rows, signature_rows, sequence_rows, window_rows}
use Rattle.hk_events.specs.Results.{account_rows, next_sequence, paid, paid_from}
use Rattle.hk_events.specs.Chains.{chains, sides}
use Rattle.hk_events.specs.Items.{ItemEnd, leaves, stops, hooks_end}
use Rattle.hk_events.specs.Performed.{Performed, refused, failed, succeeded, after_items, after_rules, after_chains}
use Rattle.hk_events.specs.Performed.{unless_refused, transaction}
use Rattle.hk_events.specs.Confined.{DeletesBy}
use Rattle.hk_events.specs.Whole.{is_account, sender_of}
use Rattle.hk_events.specs.Lawful.{IsLawful}
use Rattle.hk_events.proofs.Chaining.{chains_fit, chains_sized}
use Rattle.hk_events.proofs.Changing.{IsDeleted, GoesOn, hooks_go}
use Rattle.hk_events.proofs.Following.{AccountsStay, Follows, follows_itself, follows_further, follows_same}
use Rattle.hk_events.proofs.Following.{follows_holding, follows_writes, complete_then, is_kept}
use Rattle.hk_events.proofs.Limiting.{IsLimited, ReservesEnd, EmitsEnd, hooks_within, hooks_emit, chains_measured}
use Rattle.hk_events.proofs.Limiting.{own_account, own_ruled, same_within}
use Rattle.hk_events.proofs.Keeping.{FollowsEnd, hooks_follow}

-- who may have written a key: a hook of the lines, or the owner by deleting its namespace
abbrev pub Grounds : Entries → List OutputLine → (StateKey → Type 0) → StateKey → Type 0
Grounds before records D q = IsWriter before (HookRan records) q ⊎ D q

abbrev pub DeletedBy : Reading → StateKey → Type 0
DeletedBy (readings.Transaction t) q = DeletesBy t q
DeletedBy other q = ⊥

-- complete entries before the event and now, and a reading that keeps them so
pub record Completes (e : Engine) (before m : Entries) (reading : Reading) : Type 0 where
  pub careful : IsCareful e
  pub complete : IsComplete e.checks before
  pub here : IsComplete e.checks m
  pub accounts : AccountsStay before m
  pub fit : ItemsFit reading

-- on the entries m fee and sequence are taken, and all else goes on from there or is dropped
pub record TakesBy (e : Engine) (seq next : ℕ) (before m : Entries) (reading : Reading) (result : Option ResultName)
    (fee : ℕ) (draft : Draft) (records : List OutputLine) :
    Type 0 where
  pub base : Entries
  pub same : (k : Key) → is_account k (sender_of reading) ≡ false → get base k ≡ get m k
  pub sum : balances base + fee ≡ balances m
  pub free : fee ≡ 0 → result ≢ Some Success → base ≡ m
  pub extends : Extends e.reads_emitted seq (Grounds before records (DeletedBy reading)) (draft_on base) draft
  pub hooks : Each IsHook records
  pub success : (result ≡ Some Success) ⊎ (draft ≡ draft_on base)
  pub follows : Completes e before m reading → Follows e.checks m draft.entries
  pub limits : IsMeasured e → IsLimited e next m draft

abbrev pub Takes : Engine → ℕ → ℕ → Entries → Entries → Reading → Performed → Type 0
Takes e seq next before m reading p = TakesBy e seq next before m reading (Some p.result) p.fee p.draft p.records

refused_takes : (e : Engine) (seq next : ℕ) (before m : Entries) (reading : Reading) (name : ResultName) →
    Takes e seq next before m reading (refused m name)
refused_takes e seq next before m reading name = record {
  base = m;
  same = λ k h. refl;
  sum = omega arith;
  free = λ none failing. refl;
  extends = extends_itself e.reads_emitted seq (Grounds before [] (DeletedBy reading)) (draft_on m);
  hooks = tt;
  success = inr refl;
  follows = λ c. follows_itself e.checks m;
  limits = λ measured. record { within = λ most sum within. within; room = λ room. omega (arith, room) };
}

-- of a transaction that isn't refused
pub record Taken (m : Entries) (t : Transaction) (needed : ℕ) : Type 0 where
  pub holding : Holding
  pub at : holding_at m t.account ≡ Some holding
  pub enough : needed ≤ t.fee
  pub funded : t.fee ≤ holding.balance

append_none : {R : Type 0} (xs ys : List (Bool × R)) → NoneApplies (xs ++ ys) → NoneApplies ys
append_none [] ys h = h
append_none (x ∷ xs) ys h = append_none xs ys h.1

taken_rows : (m : Entries) (seq needed : ℕ) (origin : Origin) (t : Transaction) (found : Option Holding) →
    holding_at m t.account ≡ found → NoneApplies (account_rows seq needed origin t found) → Taken m t needed
taken_rows m seq needed origin t None at h = let bad : true ≡ false = h.0 in cc
taken_rows m seq needed origin t (Some holding) at h =
    let none = append_none (sequence_rows origin t holding) (window_rows seq needed t holding) h in
    record {
      holding = holding;
      at = at;
      enough = ltb-false t.fee needed none.1.1.0;
      funded = ltb-false holding.balance t.fee none.1.1.1.0;
    }

pub taken : (e : Engine) (before : Entries) (ledger : LedgerValue) (origin : Origin) (t : Transaction) →
    refusal e before ledger origin t ≡ None → Taken ledger.entries t (e.needed_fee before t)
taken e before ledger origin t h =
    taken_rows ledger.entries ledger.header.seq (e.needed_fee before t) origin t (holding_at ledger.entries t.account)
    refl
    (append_none (signature_rows origin)
    (account_rows ledger.header.seq (e.needed_fee before t) origin t (holding_at ledger.entries t.account))
    (none_applies (refusal_rows e before ledger origin t) h))

-- what fee and sequence leave
pub record Pays (checks : ℕ → List ℕ → Option Checked) (m base : Entries) (t : Transaction) : Type 0 where
  pub same : (k : Key) → is_account k (Some t.account) ≡ false → get base k ≡ get m k
  pub sum : balances base + t.fee ≡ balances m
  pub follows : Follows checks m base
  pub there : IsSome (holding_at m t.account)

pays_from : (checks : ℕ → List ℕ → Option Checked) (m : Entries) (needed : ℕ) (origin : Origin) (t : Transaction) →
    Taken m t needed → Pays checks m (paid m origin t) t
pays_from checks m needed origin t is =
    subst (λ found. Pays checks m (paid_from m origin t found) t) (sym is.at) (record {
      same =
          λ k other.
          get-with_holding m t.account (is.holding.balance - t.fee) (next_sequence origin is.holding.sequence) k other;
      sum =
          let put =
          sum_with m t.account is.holding (is.holding.balance - t.fee) (next_sequence origin is.holding.sequence)
          is.at in
          let fee = is.funded in omega (arith, put, fee);
      follows =
          follows_holding checks m t.account (is.holding.balance - t.fee) (next_sequence origin is.holding.sequence);
      there = ap is_some is.at;
    })

-- rules keep hooks and their state
kept_by_rules : (k : Key) → is_kept k ≡ true → may_change k ≡ false
kept_by_rules (key.Account id) h = cc
kept_by_rules (key.Install owner position) h = refl
kept_by_rules (key.Definition hash) h = refl
kept_by_rules (key.State owner namespace k) h = refl
kept_by_rules (key.Emitted n) h = cc
kept_by_rules (key.Other bytes) h = cc

-- the effect of a transaction whose chains are kept
module _ (e : Engine) (lawful : IsLawful e) (before m : Entries) (header : Header) (next : ℕ) (base : Entries)
    (t : Transaction) (pays : Pays e.checks m base t) (some : 1 ≤ t.fee) where
  paid_within : IsMeasured e → (most : ℕ) → AreWithin e.reserve most m → AreWithin e.reserve most base
  paid_within measured most within =
      same_within e.reserve measured.reserves most m base (λ id k h. pays.same k (own_account id k h (Some t.account)))
      within

  paid_sum : (most : ℕ) → balances m ≤ most → balances base ≤ most
  paid_sum most fits = let sum = pays.sum in omega (arith, sum, fits)

  failed_takes : (name : ResultName) (records : List OutputLine) → Each IsHook records →
      Takes e header.seq next before m (readings.Transaction t) (failed base t name records)
  failed_takes name records hooks = record {
    base = base;
    same = pays.same;
    sum = pays.sum;
    free = λ none failing. absurd (omega (arith, none, some));
    extends = extends_itself e.reads_emitted header.seq (Grounds before records (DeletesBy t)) (draft_on base);
    hooks = hooks;
    success = inr refl;
    follows = λ c. pays.follows;
    limits =
        λ measured.
        record { within = λ most sum within. paid_within measured most within; room = λ room. omega (arith, room) };
  }

  succeeded_takes : (d : Draft) (records : List OutputLine) → Each IsHook records →
      Extends e.reads_emitted header.seq (Grounds before records (DeletesBy t)) (draft_on base) d →
      (Completes e before m (readings.Transaction t) → Follows e.checks m d.entries) →
      (IsMeasured e → IsLimited e next m d) →
      Takes e header.seq next before m (readings.Transaction t) (succeeded t d records)
  succeeded_takes d records hooks extends follows limits = record {
    base = base;
    same = pays.same;
    sum = pays.sum;
    free = λ none failing. absurd (failing refl);
    extends = extends;
    hooks = hooks;
    success = inl refl;
    follows = follows;
    limits = limits;
  }

  module _ (d : Draft) (records : List OutputLine)
      (one : Chained e.reads_emitted header.seq before (draft_on base) d records)
      (sizes : IsCareful e → AreSized base → AreSized d.entries)
      (fits : IsMeasured e → Fit e next (draft_on base) (kept d records)) where
    left_within : IsMeasured e → (most : ℕ) → balances m ≤ most → AreWithin e.reserve most m →
        AreWithin e.reserve most d.entries
    left_within measured most sum within = (fits measured).0 most (paid_sum most sum) (paid_within measured most within)

    left_room : IsMeasured e → next ≤ most_number → next + length d.emissions ≤ most_number
    left_room measured room = (fits measured).1 (omega (arith, room))

    left_sum : (most : ℕ) → balances m ≤ most → balances d.entries ≤ most
    left_sum most sum = let paid_so = paid_sum most sum in let same = one.extends.sum in omega (arith, paid_so, same)

    chain_follows : Completes e before m (readings.Transaction t) → Follows e.checks m d.entries
    chain_follows c =
        follows_further e.checks m base d.entries pays.follows
        (follows_writes e.checks e.reads_emitted header.seq before (HookRan records) (draft_on base) d refl one.extends
        one.others c.complete
        (λ id h. pays.follows.accounts id (c.accounts id h))
        (sizes c.careful (λ q x at. ((complete_then e.checks m base c.here pays.follows).states q x at).0)))

    left_complete : Completes e before m (readings.Transaction t) → IsComplete e.checks d.entries
    left_complete c = complete_then e.checks m d.entries c.here (chain_follows c)

    chained : Extends e.reads_emitted header.seq (Grounds before records (DeletesBy t)) (draft_on base) d
    chained =
        extends_weaker e.reads_emitted header.seq (IsWriter before (HookRan records))
        (Grounds before records (DeletesBy t)) (λ q w. inl w) (draft_on base) d one.extends

    items_take : t.kind ≡ hook_kind → (x : ItemEnd) →
        GoesOn e.reads_emitted header.seq (IsDeleted t.account t.hooks) d x →
        (Completes e before m (readings.Transaction t) → FollowsEnd e t.account d x) →
        (IsMeasured e → (most : ℕ) → balances d.entries ≤ most → ReservesEnd e.reserve most d x) →
        (IsMeasured e → EmitsEnd d x) →
        Takes e header.seq next before m (readings.Transaction t) (after_items base t records x)
    items_take kind (leaves b) goes follows within same =
        succeeded_takes b records one.hooks
        (extends_further e.reads_emitted header.seq (Grounds before records (DeletesBy t)) (draft_on base) d b chained
        (extends_weaker e.reads_emitted header.seq (IsDeleted t.account t.hooks) (Grounds before records (DeletesBy t))
        (λ q h. inr (kind, h)) d b goes))
        (λ c. follows_further e.checks m d.entries b.entries (chain_follows c) (follows c))
        (λ measured. record {
          within =
              λ most sum reserves. within measured most (left_sum most sum) (left_within measured most sum reserves);
          room = λ room. subst (λ es. next + length es ≤ most_number) (sym (same measured)) (left_room measured room);
        })
    items_take kind (stops name) goes follows within same = failed_takes name records one.hooks

    ruled : (n : Entries) → e.rules header d.entries t ≡ keeps n →
        Extends e.reads_emitted header.seq (Grounds before records (DeletesBy t)) d
        (record { entries = n; written = d.written; emissions = d.emissions })
    ruled n is = record {
      unlisted = λ q h. lawful.others header d.entries n t (as_key q) is refl;
      listed = λ q h. h;
      grounds = λ q h. inl h;
      held = λ q h. subst HoldsState (sym (lawful.others header d.entries n t (as_key q) is refl)) h;
      queue = λ k. lawful.others header d.entries n t (key.Emitted k) is refl;
      more = [];
      emissions = sym (append-nil d.emissions);
      emits = tt;
      sum = lawful.sums header d.entries n t is;
    }

    rules_take : (x : Effect) → e.rules header d.entries t ≡ x →
        Takes e header.seq next before m (readings.Transaction t) (after_rules base t records d x)
    rules_take (keeps n) is =
        succeeded_takes (record { entries = n; written = d.written; emissions = d.emissions }) records one.hooks
        (extends_further e.reads_emitted header.seq (Grounds before records (DeletesBy t)) (draft_on base) d
        (record { entries = n; written = d.written; emissions = d.emissions }) chained (ruled n is))
        (λ c. follows_further e.checks m d.entries n (chain_follows c)
        (follows_same e.checks d.entries n (λ k h. lawful.others header d.entries n t k is (kept_by_rules k h))
        (λ id h. lawful.accounts header d.entries n t id is h)))
        (λ measured. record {
          within =
              λ most sum reserves.
              same_within e.reserve measured.reserves most d.entries n
              (λ id k h. lawful.others header d.entries n t k is (own_ruled id k h))
              (left_within measured most sum reserves);
          room = left_room measured;
        })
    rules_take (fails name) is = failed_takes name records one.hooks

    effect_takes : (b : Bool) → (t.kind == hook_kind) ≡ b →
        Takes e header.seq next before m (readings.Transaction t) (if b
        then after_items base t records (hooks_end e t.account t.hooks d)
        else after_rules base t records d (e.rules header d.entries t))
    effect_takes true is =
        items_take (eqb-true t.kind hook_kind is) (hooks_end e t.account t.hooks d)
        (hooks_go e.reads_emitted header.seq e t.account t.hooks d)
        (λ c.
        hooks_follow e t.account t.hooks d c.fit.0 c.fit.1 ((chain_follows c).accounts t.account pays.there)
        (left_complete c))
        (λ measured most sum. hooks_within t.account e measured.reserves most e.reads_emitted header.seq t.hooks d sum)
        (λ measured. hooks_emit t.account e t.hooks d)
    effect_takes false is = rules_take (e.rules header d.entries t) refl

  chains_take : (x : ChainEnd) → ChainFits e.reads_emitted header.seq before (draft_on base) x →
      (IsCareful e → SizesFit (draft_on base) x) → (IsMeasured e → Fit e next (draft_on base) x) →
      Takes e header.seq next before m (readings.Transaction t) (after_chains e header base t x)
  chains_take (kept d records) one sizes fits = effect_takes d records one sizes fits (t.kind == hook_kind) refl
  chains_take (rejected records) hooks sizes fits = failed_takes HookRejected records hooks

module _ (e : Engine) (lawful : IsLawful e) (before : Entries) (ledger : LedgerValue) where
  performed_takes : (origin : Origin) (t : Transaction) (name : Option ResultName) →
      refusal e before ledger origin t ≡ name →
      Takes e ledger.header.seq ledger.next before ledger.entries (readings.Transaction t)
      (unless_refused e before ledger origin t name)
  performed_takes origin t (Some name) is =
      refused_takes e ledger.header.seq ledger.next before ledger.entries (readings.Transaction t) name
  performed_takes origin t None is =
      let takes = taken e before ledger origin t is in
      let fees = lawful.fees before t in
      let enough = takes.enough in
      chains_take e lawful before ledger.entries ledger.header ledger.next (paid ledger.entries origin t) t
      (pays_from e.checks ledger.entries (e.needed_fee before t) origin t takes) (omega (arith, fees, enough))
      (chains (e.chain ledger.header ledger.next before t) (sides t) (draft_on (paid ledger.entries origin t)))
      (chains_fit e.reads_emitted ledger.header.seq before (e.chain ledger.header ledger.next before t)
      (lawful.chains ledger.header ledger.next before t) (sides t) (draft_on (paid ledger.entries origin t)))
      (λ careful.
      chains_sized (e.chain ledger.header ledger.next before t) (careful.chains ledger.header ledger.next before t)
      (sides t) (draft_on (paid ledger.entries origin t)))
      (λ measured.
      chains_measured e ledger.next e.reads_emitted ledger.header.seq before
      (e.chain ledger.header ledger.next before t) (lawful.chains ledger.header ledger.next before t)
      (measured.chains ledger.header ledger.next before t) (sides t) (draft_on (paid ledger.entries origin t)))

  pub transaction_takes : (origin : Origin) (reading : Reading) →
      Takes e ledger.header.seq ledger.next before ledger.entries reading (transaction e before ledger origin reading)
  transaction_takes origin readings.TooLong =
      refused_takes e ledger.header.seq ledger.next before ledger.entries readings.TooLong TooLong
  transaction_takes origin readings.Unparsed =
      refused_takes e ledger.header.seq ledger.next before ledger.entries readings.Unparsed Unparsed
  transaction_takes origin readings.Malformed =
      refused_takes e ledger.header.seq ledger.next before ledger.entries readings.Malformed Malformed
  transaction_takes origin (readings.Transaction t) = performed_takes origin t (refusal e before ledger origin t) refl
