-- What a transaction that isn't refused has, and what fee and sequence make of an overlay.
use Rattle.std.proofs.Common.{◌≡◌, ◌∙◌, ℕ, ◌+◌, ◌-◌, ◌<◌, Bool, true, false, List, [], ◌∷◌, ◌++◌, refl, sym, ap, subst}
use Rattle.std.proofs.Common.{arith, Option, Some, None, if◌then◌else◌}
use Rattle.std.specs.FinMap.{get}
use Rattle.std.proofs.lemmas.Bool.{ltb-false}
use Rattle.hk_base.specs.declared.ids.AccountId.{AccountId}
use Rattle.hk_base.specs.Rows.{first_row}
use Rattle.xo_object.specs.declared.transaction.Transaction.{Transaction}
use Rattle.hk_lines.specs.declared.result_name.ResultName.{ResultName}
use Rattle.hk_lines.specs.declared.result_name.ResultName.TheVariants.{BadSignature}
use Rattle.hk_lines.specs.declared.verdict.Verdict.{Verdict}
use Rattle.hk_state.specs.declared.entry.Entry.TheVariants as entry
use Rattle.hk_state.specs.declared.entry.Holding.{Holding}
use Rattle.hk_state.specs.declared.key.Key.TheVariants as key
use Rattle.hk_state.specs.Fees.{needed_fee}
use Rattle.hk_state.specs.Holdings.{holding_at, as_holding}
use Rattle.hk_state.specs.Ledger.{LedgerValue}
use Rattle.hk_state.specs.Rows.{none_applies, NoneApplies}
use Rattle.hk_state.specs.Rules.{Rules}
use Rattle.hk_state.specs.Writes.{Writes, new_writes, written}
use Rattle.hk_draft.specs.Draft.{draft_on}
use Rattle.hk_draft.specs.Drafted.{draft_of}
use Rattle.hk_events.specs.Overlays.{changed}
use Rattle.hk_events.specs.Results as results
use Rattle.hk_events.specs.Results.{account_rows, next_sequence, paid, paid_from, refusal, refusal_rows, sequence_rows}
use Rattle.hk_events.specs.Results.{signature_rows, window_rows}
use Rattle.hk_events.proofs.Queueing.{without_other}
use Rattle.hk_events.proofs.Taking.{Taken, taken}
use Rattle.hk_events.proofs.Writing.{overlays_mean}
use Rattle.hk_engine.specs.Engine.{engine_of}
use Rattle.hk_perform.specs.declared.origin.Origin.{Origin}
use Rattle.hk_perform.specs.declared.origin.Origin.TheVariants.{Handed, Queued}
use Rattle.hk_perform.specs.Meets.{found_by, has_bad_signature, origin_of}
use Rattle.hk_perform.specs.Needs.{CanPay, HasNext}

-- an emission that leaves the queue leaves each account
pub held_too : (ledger : LedgerValue) (origin : Origin) (id : AccountId) →
    holding_at (found_by ledger origin).entries id ≡ holding_at ledger.entries id
held_too ledger (Handed verdict) id = refl
held_too ledger (Queued number) id = ap as_holding (without_other ledger.entries number (key.Account id) refl)

-- the results of a transaction of an account, by the account in the ledger
pub refusal_as : (rules : Rules) (ledger : LedgerValue) (origin : Origin) (t : Transaction) (found : Option Holding) →
    holding_at ledger.entries t.account ≡ found →
    first_row (refusal_rows (engine_of rules) ledger.entries (found_by ledger origin) (origin_of origin) t)
    ≡ first_row
    (signature_rows (origin_of origin) ++
    account_rows (found_by ledger origin).header.seq ((engine_of rules).needed_fee ledger.entries t) (origin_of origin)
    t found)
refusal_as rules ledger origin t found at =
    ap (λ held.
    first_row (signature_rows (origin_of origin) ++
    account_rows (found_by ledger origin).header.seq ((engine_of rules).needed_fee ledger.entries t) (origin_of origin)
    t held))
    (held_too ledger origin t.account ∙ at)

-- the signature comes first
signature_bad : (origin : Origin) (rows : List (Bool × ResultName)) → has_bad_signature origin ≡ true →
    first_row (signature_rows (origin_of origin) ++ rows) ≡ Some BadSignature
signature_bad (Handed verdict) rows h = ap (λ b. if b then Some BadSignature else first_row rows) h
signature_bad (Queued number) rows h = cc

signature_good : (origin : Origin) (rows : List (Bool × ResultName)) → has_bad_signature origin ≡ false →
    first_row (signature_rows (origin_of origin) ++ rows) ≡ first_row rows
signature_good (Handed verdict) rows h = ap (λ b. if b then Some BadSignature else first_row rows) h
signature_good (Queued number) rows h = refl

-- the results, by the ledger's header
same_seq : (ledger : LedgerValue) (origin : Origin) → (found_by ledger origin).header.seq ≡ ledger.header.seq
same_seq ledger (Handed verdict) = refl
same_seq ledger (Queued number) = refl

module _ (rules : Rules) (ledger : LedgerValue) (origin : Origin) (t : Transaction) where
  pub badly_signed : has_bad_signature origin ≡ true →
      Some BadSignature
      ≡ first_row (refusal_rows (engine_of rules) ledger.entries (found_by ledger origin) (origin_of origin) t)
  badly_signed bad =
      sym (refusal_as rules ledger origin t (holding_at ledger.entries t.account) refl
      ∙ signature_bad origin (account_rows (found_by ledger origin).header.seq
      ((engine_of rules).needed_fee ledger.entries t) (origin_of origin) t (holding_at ledger.entries t.account)) bad)

  pub well_signed : has_bad_signature origin ≡ false → (found : Option Holding) →
      holding_at ledger.entries t.account ≡ found →
      first_row (account_rows ledger.header.seq (needed_fee ledger.entries t) (origin_of origin) t found)
      ≡ first_row (refusal_rows (engine_of rules) ledger.entries (found_by ledger origin) (origin_of origin) t)
  well_signed good found at =
      sym (refusal_as rules ledger origin t found at
      ∙ signature_good origin (account_rows (found_by ledger origin).header.seq
      ((engine_of rules).needed_fee ledger.entries t) (origin_of origin) t found) good
      ∙ ap (λ seq. first_row (account_rows seq (needed_fee ledger.entries t) (origin_of origin) t found))
      (same_seq ledger origin))

-- one that was handed in has its account's sequence
same_sequence : (seq needed : ℕ) (verdict : Verdict) (t : Transaction) (found : Option Holding) (holding : Holding) →
    found ≡ Some holding → NoneApplies (account_rows seq needed (results.handed verdict) t found) →
    holding.sequence ≡ t.sequence
same_sequence seq needed verdict t found holding at none =
    let here = subst (λ held. NoneApplies (account_rows seq needed (results.handed verdict) t held)) at none in
    let low = ltb-false t.sequence holding.sequence here.0 in
    let high = ltb-false holding.sequence t.sequence here.1.0 in
    omega (arith, low, high)

has_next : (rules : Rules) (ledger : LedgerValue) (origin : Origin) (t : Transaction) (holding : Holding) →
    t.sequence < 4294967295 → holding_at (found_by ledger origin).entries t.account ≡ Some holding →
    refusal (engine_of rules) ledger.entries (found_by ledger origin) (origin_of origin) t ≡ None →
    HasNext (origin_of origin) holding.sequence
has_next rules ledger (Queued number) t holding low at h = tt
has_next rules ledger (Handed verdict) t holding low at h =
    let none = none_applies (refusal_rows (engine_of rules) ledger.entries ledger (results.handed verdict) t) h in
    let same =
    same_sequence ledger.header.seq ((engine_of rules).needed_fee ledger.entries t) verdict t
    (holding_at ledger.entries t.account) holding at none.1 in
    omega (arith, same, low)

pub can_pay : (rules : Rules) (ledger : LedgerValue) (origin : Origin) (t : Transaction) → t.sequence < 4294967295 →
    refusal (engine_of rules) ledger.entries (found_by ledger origin) (origin_of origin) t ≡ None →
    CanPay ledger.entries (origin_of origin) t
can_pay rules ledger origin t low h =
    let is = taken (engine_of rules) ledger.entries (found_by ledger origin) (origin_of origin) t h in
    record {
      holding = is.holding;
      at = sym (held_too ledger origin t.account) ∙ is.at;
      funded = is.funded;
      sequence = has_next rules ledger origin t is.holding low is.at h;
    }

-- an overlay with the account's new balance and sequence
pub charged : (ledger : LedgerValue) (origin : Origin) (t : Transaction) (w : Writes) (holding : Holding) →
    draft_of ledger.entries w [] ≡ draft_on (found_by ledger origin).entries →
    Some holding ≡ holding_at ledger.entries t.account →
    draft_of ledger.entries (written w (key.Account t.account)
    (Some (entry.Account (holding.balance - t.fee) (next_sequence (origin_of origin) holding.sequence)))) []
    ≡ draft_on (paid (found_by ledger origin).entries (origin_of origin) t)
charged ledger origin t w holding began at =
    (overlays_mean ledger.entries w []).entry (key.Account t.account)
    (Some (entry.Account (holding.balance - t.fee) (next_sequence (origin_of origin) holding.sequence))) refl
    ∙ ap (changed (key.Account t.account)
    (Some (entry.Account (holding.balance - t.fee) (next_sequence (origin_of origin) holding.sequence)))) began
    ∙ ap (λ held. draft_on (paid_from (found_by ledger origin).entries (origin_of origin) t held))
    (at ∙ sym (held_too ledger origin t.account))

pub unpaid : (ledger : LedgerValue) (origin : Origin) (t : Transaction) (w : Writes) →
    draft_of ledger.entries w [] ≡ draft_on (found_by ledger origin).entries →
    holding_at ledger.entries t.account ≡ None →
    draft_of ledger.entries w [] ≡ draft_on (paid (found_by ledger origin).entries (origin_of origin) t)
unpaid ledger origin t w began none =
    began
    ∙ ap (λ held. draft_on (paid_from (found_by ledger origin).entries (origin_of origin) t held))
    (sym (held_too ledger origin t.account ∙ none))

-- an overlay in which nothing is written, and one that takes an emission from the queue
unwritten : (w : Writes) → w ≡ new_writes → (ledger : LedgerValue) →
    draft_of ledger.entries w [] ≡ draft_on ledger.entries
unwritten w none ledger = ap (λ x. draft_of ledger.entries x []) none ∙ (overlays_mean ledger.entries w []).new

pub begun_handed : (origin : Origin) → ((number : ℕ) → origin ≡ Queued number → ⊥) → (w : Writes) → w ≡ new_writes →
    (ledger : LedgerValue) → draft_of ledger.entries w [] ≡ draft_on (found_by ledger origin).entries
begun_handed (Handed verdict) other w none ledger = unwritten w none ledger
begun_handed (Queued number) other w none ledger = absurd (other number refl)

pub begun_queued : (origin : Origin) (number : ℕ) → origin ≡ Queued number → (old w : Writes) → old ≡ new_writes →
    w ≡ written old (key.Emitted number) None → (ledger : LedgerValue) →
    draft_of ledger.entries w [] ≡ draft_on (found_by ledger origin).entries
begun_queued origin number is old w none made ledger =
    subst (λ o. draft_of ledger.entries w [] ≡ draft_on (found_by ledger o).entries) (sym is)
    (ap (λ x. draft_of ledger.entries x []) made
    ∙ (overlays_mean ledger.entries old []).entry (key.Emitted number) None refl
    ∙ ap (changed (key.Emitted number) None) (unwritten old none ledger))
