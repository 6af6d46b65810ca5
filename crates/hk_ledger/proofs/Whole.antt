-- Worlds that stay whole.
use Rattle.std.proofs.Common.{◌≡◌, ◌∙◌, ℕ, ◌+◌, ◌≤◌, sym, ap, arith, refl, Some, None}
use Rattle.std.specs.FinMap.{get, empty, get-empty}
use Rattle.hk_base.specs.declared.ids.AccountId.{AccountId}
use Rattle.hk_state.specs.declared.entry.Entry.{Entry}
use Rattle.hk_state.specs.declared.key.Key.{Key}
use Rattle.hk_state.specs.declared.key.Key.TheVariants as key
use Rattle.hk_state.specs.declared.ledger.Header.{Header}
use Rattle.hk_state.specs.Keys.{key_cmp}
use Rattle.hk_state.specs.Balances.{balances-empty, sum_new}
use Rattle.hk_state.specs.Entries.{Entries}
use Rattle.hk_state.specs.Holdings.{holding_at, with_holding, get-with_holding}
use Rattle.hk_state.specs.Ledger.{LedgerValue, new_ledger, with_header}
use Rattle.hk_state.specs.NativeLaws.{other_key}
use Rattle.hk_state.specs.Reserves.{reserve, reserve-empty, reserve-alike}
use Rattle.hk_draft.specs.Reads.{reads_emitted}
use Rattle.hk_events.specs.Complete.{IsComplete}
use Rattle.hk_events.specs.Good.{IsGood}
use Rattle.hk_events.proofs.Following.{complete_then, follows_holding}
use Rattle.hk_chain.specs.Programs.{Kept, AreOf}
use Rattle.hk_items.specs.Checks.{checked_in}
use Rattle.hk_ledger.specs.World.{IsWhole, with_account, most_drops}
use Rattle.hk_ledger.proofs.Defining.{programs_stay, stay_holding}

-- nothing is there
none_there : (k : Key) (x : Entry) → get new_ledger.entries k ≡ Some x → ⊥
none_there k x at = let bad : None ≡ Some x = sym (get-empty key_cmp k) ∙ at in cc

none_complete : IsComplete checked_in new_ledger.entries
none_complete = record {
  definitions = λ hash x at. absurd (none_there (key.Definition hash) x at);
  installs = λ owner position x at. absurd (none_there (key.Install owner position) x at);
  states = λ q x at. absurd (none_there _ x at);
}

none_queued : IsGood reads_emitted new_ledger
none_queued n x at = absurd (none_there (key.Emitted n) x at)

pub new_whole : IsWhole new_ledger 0
new_whole = record {
  conserved = let none = balances-empty in omega (arith, none);
  most = omega arith;
  reserves = λ id. let least = reserve-empty id in omega (arith, least);
  next = omega arith;
  first = omega arith;
  none = get-empty key_cmp (key.Emitted 0);
  queue = none_queued;
  hooks = none_complete;
}

-- another account
account_reserve : (m : Entries) (id : AccountId) (balance sequence : ℕ) (other : AccountId) →
    reserve (with_holding m id balance sequence) other ≡ reserve m other
account_reserve m id balance sequence other =
    reserve-alike m (with_holding m id balance sequence) other
    (λ q h. get-with_holding m id balance sequence q (other_key q id h))

pub account_queued : (ledger : LedgerValue) (id : AccountId) (balance sequence : ℕ) → IsGood reads_emitted ledger →
    IsGood reads_emitted (with_account ledger id balance sequence)
account_queued ledger id balance sequence good n x at =
    good n x (sym (get-with_holding ledger.entries id balance sequence (key.Emitted n) refl) ∙ at)

pub account_whole : (ledger : LedgerValue) (id : AccountId) (balance sequence opening : ℕ) →
    holding_at ledger.entries id ≡ None → opening + balance ≤ most_drops → IsWhole ledger opening →
    IsWhole (with_account ledger id balance sequence) (opening + balance)
account_whole ledger id balance sequence opening none most whole =
    let conserved = whole.conserved in
    let sum = sum_new ledger.entries id balance sequence none in
    record {
      conserved = omega (arith, conserved, sum);
      most = most;
      reserves = λ other.
          let same = account_reserve ledger.entries id balance sequence other in
          let fits = whole.reserves other in omega (arith, same, fits);
      next = whole.next;
      first = whole.first;
      none = get-with_holding ledger.entries id balance sequence (key.Emitted 0) refl ∙ whole.none;
      queue = account_queued ledger id balance sequence whole.queue;
      hooks =
          complete_then checked_in ledger.entries (with_holding ledger.entries id balance sequence) whole.hooks
          (follows_holding checked_in ledger.entries id balance sequence);
    }

pub account_programs : (m : Entries) (id : AccountId) (balance sequence : ℕ) (kept : Kept) → AreOf m kept →
    AreOf (with_holding m id balance sequence) kept
account_programs m id balance sequence kept are =
    programs_stay m (with_holding m id balance sequence) kept (stay_holding m id balance sequence) are

-- an opened ledger
pub header_whole : (ledger : LedgerValue) (header : Header) (opening : ℕ) → IsWhole ledger opening →
    IsWhole (with_header ledger header) opening
header_whole ledger header opening whole = record {
  conserved = whole.conserved;
  most = whole.most;
  reserves = whole.reserves;
  next = whole.next;
  first = whole.first;
  none = whole.none;
  queue = whole.queue;
  hooks = whole.hooks;
}

-- nothing is kept
pub no_programs : (m : Entries) (kept : Kept) → kept ≡ empty → AreOf m kept
no_programs m kept none at held found =
    let bad : None ≡ Some held = sym (ap (λ k. get k at) none ∙ get-empty key_cmp at) ∙ found in cc
