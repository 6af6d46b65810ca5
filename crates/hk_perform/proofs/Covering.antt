-- Sums and reserves stay within what there can be of drops while a transaction goes on.
use Rattle.std.proofs.Common.{◌≡◌, ◌∙◌, ℕ, ◌+◌, ◌-◌, ◌<◌, ◌≤◌, ◌^◌, true, List, length, refl, sym, ap, subst, arith}
use Rattle.std.proofs.Common.{Some, IsSome}
use Rattle.std.specs.Option.{is_some}
use Rattle.std.specs.FinMap.{get}
use Rattle.hk_base.specs.declared.ids.AccountId.{AccountId}
use Rattle.xo_object.specs.declared.transaction.Transaction.{Transaction}
use Rattle.hk_lines.specs.declared.output_line.OutputLine.{OutputLine}
use Rattle.hk_emit.specs.declared.emission.Emission.{Emission}
use Rattle.hk_state.specs.declared.key.Key.TheVariants as key
use Rattle.hk_state.specs.declared.key.Key.{Key}
use Rattle.hk_state.specs.Balances.{balances, sum_with}
use Rattle.hk_state.specs.Entries.{Entries}
use Rattle.hk_state.specs.Holdings.{holding_at, as_holding, with_holding, get-with_holding, stays}
use Rattle.hk_state.specs.Ledger.{LedgerValue}
use Rattle.hk_state.specs.Reserves.{reserve}
use Rattle.hk_state.specs.Native.{native}
use Rattle.hk_state.specs.Writes.{Writes, with_writes}
use Rattle.hk_draft.specs.Draft.{Draft, draft_on}
use Rattle.hk_draft.specs.Drafted.{draft_of}
use Rattle.hk_draft.specs.Ends as ends
use Rattle.hk_draft.specs.Ends.{ChainEnd, ChainFits}
use Rattle.hk_draft.specs.Reads.{reads_emitted}
use Rattle.hk_api_parts.specs.declared.setting.Setting.{Setting}
use Rattle.hk_api.specs.Fits.{FeesFit, IsFit}
use Rattle.hk_chain.specs.declared.ending.ChainEnd.TheVariants as found
use Rattle.hk_chain.specs.Laws.{ChainsFit}
use Rattle.hk_chain.specs.Meets.{EndMeans}
use Rattle.hk_chain.specs.Programs.{AreStored}
use Rattle.hk_events.specs.Chains.{chains}
use Rattle.hk_events.specs.Limits.{Fit, IsMeasured, WithinFit, owns}
use Rattle.hk_events.specs.Results.{next_sequence, paid, paid_from}
use Rattle.hk_events.proofs.Chaining.{chains_fit}
use Rattle.hk_events.proofs.Limiting.{chains_measured, own_account, own_number, reserve_rests}
use Rattle.hk_events.proofs.Queueing.{without_other}
use Rattle.hk_events.proofs.Settling.{without_sum}
use Rattle.hk_engine.specs.Engine.{engine_of}
use Rattle.hk_perform.specs.declared.origin.Origin.{Origin}
use Rattle.hk_perform.specs.declared.origin.Origin.TheVariants.{Handed, Queued}
use Rattle.hk_perform.specs.Meets.{chain_by, found_by, origin_of}
use Rattle.hk_perform.specs.Needs.{AreCovered, CanPay, IsReady, IsSound}
use Rattle.hk_perform.proofs.Paying.{held_too}

-- what a chain or a callback of the host rests on
pub fit : (ledger : LedgerValue) (setting : Setting) (m : Entries) → IsSound ledger setting → AreCovered m →
    IsFit setting ledger.entries m
fit ledger setting m sound covered = record {
  reserves = λ id. let most = covered.reserves id in omega (arith, most);
  fees = sound.fees;
  object = sound.object;
  short = sound.short;
  burden = sound.burden;
}

-- what a transaction that is ready has
pub ready_covered : (ledger : LedgerValue) (setting : Setting) → IsReady ledger setting → AreCovered ledger.entries
ready_covered ledger setting ready =
    record { sum = let most = ready.sum in omega (arith, most); reserves = ready.reserves }

pub ready_sound : (ledger : LedgerValue) (setting : Setting) → IsReady ledger setting → AreStored ledger.entries →
    FeesFit ledger.entries → IsSound ledger setting
ready_sound ledger setting ready stored fees = record {
  stored = stored;
  fees = fees;
  header = ready.header;
  object = (ready.read.fields, ready.read.object);
  short = let most = ready.read.short in omega (arith, most);
  burden = ready.read.burden;
}

-- what is left when fee and sequence are taken
found_sum : (ledger : LedgerValue) (origin : Origin) →
    balances (found_by ledger origin).entries ≡ balances ledger.entries
found_sum ledger (Handed verdict) = refl
found_sum ledger (Queued number) = without_sum ledger.entries number

found_own : (ledger : LedgerValue) (origin : Origin) (id : AccountId) (k : Key) → owns id k ≡ true →
    get (found_by ledger origin).entries k ≡ get ledger.entries k
found_own ledger (Handed verdict) id k h = refl
found_own ledger (Queued number) id k h = without_other ledger.entries number k (own_number id k h)

pub paid_covered : (ledger : LedgerValue) (origin : Origin) (t : Transaction) → AreCovered ledger.entries →
    CanPay ledger.entries (origin_of origin) t → AreCovered (paid (found_by ledger origin).entries (origin_of origin) t)
paid_covered ledger origin t covered pays =
    let m = (found_by ledger origin).entries in
    let o = origin_of origin in
    let left = pays.holding.balance - t.fee in
    let next = next_sequence o pays.holding.sequence in
    let at : holding_at m t.account ≡ Some pays.holding = held_too ledger origin t.account ∙ pays.at in
    subst (λ found. AreCovered (paid_from m o t found)) (sym at) (record {
      sum =
          let put = sum_with m t.account pays.holding left next at in
          let same = found_sum ledger origin in
          let most = covered.sum in
          let funded = pays.funded in
          omega (arith, put, same, most, funded);
      reserves = λ id.
          let alike = reserve_rests ledger.entries (with_holding m t.account left next) id (λ k h.
          get-with_holding m t.account left next k (own_account id k h (Some t.account))
          ∙ found_own ledger origin id k h) in
          let most = covered.reserves id in
          omega (arith, alike, most);
    })

pub paid_sender : (ledger : LedgerValue) (origin : Origin) (t : Transaction) →
    CanPay ledger.entries (origin_of origin) t →
    IsSome (holding_at (paid (found_by ledger origin).entries (origin_of origin) t) t.account)
paid_sender ledger origin t pays =
    let m = (found_by ledger origin).entries in
    let o = origin_of origin in
    let left = pays.holding.balance - t.fee in
    let next = next_sequence o pays.holding.sequence in
    let at : holding_at m t.account ≡ Some pays.holding = held_too ledger origin t.account ∙ pays.at in
    subst (λ found. IsSome (holding_at (paid_from m o t found) t.account)) (sym at)
    (stays m t.account left next t.account (ap is_some at))

-- the entries of a draft
made : (m : Entries) (w : Writes) (es : List Emission) (d : Draft) → draft_of m w es ≡ d → with_writes m w ≡ d.entries
made m w es d same = ap (λ (b : Draft). b.entries) same

pub on_covered : (m n : Entries) (w : Writes) (es : List Emission) → draft_of m w es ≡ draft_on n → AreCovered n →
    AreCovered (with_writes m w)
on_covered m n w es same covered = subst AreCovered (sym (made m w es (draft_on n) same)) covered

pub on_sender : (m n : Entries) (w : Writes) (es : List Emission) (id : AccountId) → draft_of m w es ≡ draft_on n →
    IsSome (holding_at n id) → IsSome (holding_at (with_writes m w) id)
on_sender m n w es id same there = subst (λ l. IsSome (holding_at l id)) (sym (made m w es (draft_on n) same)) there

-- an end that is kept leaves reserves, sum and accounts so
module _ (m : Entries) (seq next : ℕ) (before : Entries) (a : Draft) (w : Writes) (es : List Emission)
    (records : List OutputLine) where
  end_covered : (x : ChainEnd) → ChainFits reads_emitted seq before a x → WithinFit reserve a x → AreCovered a.entries →
      EndMeans m x (found.Kept w es records) → AreCovered (with_writes m w)
  end_covered (ends.kept d lines) chained within covered means =
      subst AreCovered (sym (made m w es d means.0)) (record {
        sum = let same = chained.extends.sum in let most = covered.sum in omega (arith, same, most);
        reserves = within 100000000000000000 covered.sum covered.reserves;
      })
  end_covered (ends.rejected lines) chained within covered means = absurd means

  end_sender : (x : ChainEnd) (id : AccountId) → ChainFits reads_emitted seq before a x →
      IsSome (holding_at a.entries id) →
      EndMeans m x (found.Kept w es records) → IsSome (holding_at (with_writes m w) id)
  end_sender (ends.kept d lines) id chained there means =
      subst (λ l. IsSome (holding_at l id)) (sym (made m w es d means.0))
      (subst (λ found. IsSome (as_holding found)) (sym (chained.others (key.Account id) refl)) there)
  end_sender (ends.rejected lines) id chained there means = absurd means

-- a chain, and the chains of both sides
module _ (chain_law : ChainsFit) (limits : IsMeasured (engine_of native)) (ledger : LedgerValue)
    (setting : Setting) where
  one_fits : (account : AccountId) (a : Draft) →
      ChainFits reads_emitted setting.header.seq ledger.entries a (chain_by ledger setting account a)
  one_fits account a = chain_law setting ledger.next ledger.entries account a

  one_measured : (account : AccountId) (a : Draft) →
      Fit (engine_of native) ledger.next a (chain_by ledger setting account a)
  one_measured account a = limits.chains setting.header ledger.next ledger.entries setting.transaction account a

  pub chain_covered : (account : AccountId) (a : Draft) (w : Writes) (es : List Emission) (records : List OutputLine) →
      AreCovered a.entries → EndMeans ledger.entries (chain_by ledger setting account a) (found.Kept w es records) →
      AreCovered (with_writes ledger.entries w)
  chain_covered account a w es records covered means =
      end_covered ledger.entries setting.header.seq ledger.next ledger.entries a w es records
      (chain_by ledger setting account a)
      (one_fits account a) ((one_measured account a).0) covered means

  all_fit : (accounts : List AccountId) (a : Draft) →
      ChainFits reads_emitted setting.header.seq ledger.entries a (chains (chain_by ledger setting) accounts a)
  all_fit accounts a =
      chains_fit reads_emitted setting.header.seq ledger.entries (chain_by ledger setting) one_fits accounts a

  pub sides_covered : (accounts : List AccountId) (a : Draft) (w : Writes) (es : List Emission)
      (records : List OutputLine) →
      AreCovered a.entries →
      EndMeans ledger.entries (chains (chain_by ledger setting) accounts a) (found.Kept w es records) →
      AreCovered (with_writes ledger.entries w)
  sides_covered accounts a w es records covered means =
      end_covered ledger.entries setting.header.seq ledger.next ledger.entries a w es records
      (chains (chain_by ledger setting) accounts a)
      (all_fit accounts a)
      ((chains_measured (engine_of native) ledger.next reads_emitted setting.header.seq ledger.entries
      (chain_by ledger setting) one_fits one_measured accounts a).0)
      covered means

  pub sides_sender : (accounts : List AccountId) (a : Draft) (w : Writes) (es : List Emission)
      (records : List OutputLine) (id : AccountId) →
      IsSome (holding_at a.entries id) →
      EndMeans ledger.entries (chains (chain_by ledger setting) accounts a) (found.Kept w es records) →
      IsSome (holding_at (with_writes ledger.entries w) id)
  sides_sender accounts a w es records id there means =
      end_sender ledger.entries setting.header.seq ledger.next ledger.entries a w es records
      (chains (chain_by ledger setting) accounts a) id
      (all_fit accounts a) there means
