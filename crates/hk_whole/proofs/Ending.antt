-- What holds of the lines at the end.
use Rattle.std.proofs.Common.{◌≡◌, ◌∙◌, ℕ, ◌+◌, cond, Bool, true, false, List, [], ◌∷◌, ◌++◌, refl}
use Rattle.std.proofs.Common.{sym, subst, arith, Option, Some}
use Rattle.std.proofs.lemmas.List.Recursion.{is_count_by}
use Rattle.std.specs.List.{AllByRecursion, count_by, flat_map}
use Rattle.std.specs.FinMap.{get, entries}
use Rattle.hk_lines.specs.declared.output_line.OutputLine.{OutputLine}
use Rattle.hk_lines.specs.declared.output_line.OutputLine.TheVariants as printed
use Rattle.hk_state.specs.declared.entry.Entry.{Entry}
use Rattle.hk_state.specs.declared.entry.Entry.TheVariants as entry
use Rattle.hk_state.specs.declared.key.Key.{Key}
use Rattle.hk_state.specs.declared.key.Key.TheVariants as key
use Rattle.hk_state.specs.Entries.{Entries}
use Rattle.hk_state.specs.Balances.{balances}
use Rattle.hk_state.specs.Ledger.{LedgerValue}
use Rattle.hk_draft.specs.Lists.{Each}
use Rattle.hk_draft.proofs.Extended.{each-append}
use Rattle.hk_events.specs.Lists.{one_if, counted}
use Rattle.hk_events.specs.Whole.{WaitsFor, is_emit, is_settled}
use Rattle.hk_events.proofs.Words.{each-map, none_counted}
use Rattle.hk_final.specs.Counted.{is_queued, QueueTold}
use Rattle.hk_final.specs.Final.{account_line, install_line, state_line, queued_line, in_order}
use Rattle.hk_final.specs.Final.{total_lines, final_lines}
use Rattle.hk_final.proofs.There.{each_entry}
use Rattle.hk_whole.specs.Accounts.{IsEmitted, AreAsEmitted, AreCalled}
use Rattle.hk_whole.proofs.Passing.{IsTold}
use Rattle.hk_whole.proofs.Resting.{Rests}

-- a line at the end, but of the queue
abbrev pub IsPlain : OutputLine → Type 0
IsPlain (printed.FinalAccount id balance sequence hooks states) = Unit {0}
IsPlain (printed.FinalInstall account position hash namespace) = Unit {0}
IsPlain (printed.FinalState account namespace k value) = Unit {0}
IsPlain (printed.FinalTotal sum burnt) = Unit {0}
IsPlain printed.Done = Unit {0}
IsPlain other = ⊥

-- ---- what holds of each line

module _ (P : OutputLine → Type 0) where
  in_order_each : (line : Key → Entry → List OutputLine) (es : List (Key × Entry)) →
      AllByRecursion (λ e. Each P (line e.0 e.1)) es → Each P (flat_map (λ e. line e.0 e.1) es)
  in_order_each line [] each = tt
  in_order_each line (e ∷ es) each =
      each-append P (line e.0 e.1) (flat_map (λ x. line x.0 x.1) es) each.0 (in_order_each line es each.1)

  entries_each : (m : Entries) (line : Key → Entry → List OutputLine) →
      ((k : Key) (x : Entry) → get m k ≡ Some x → Each P (line k x)) → Each P (in_order line m)
  entries_each m line each = in_order_each line (entries m) (each_entry (λ k x. Each P (line k x)) m each)

  module _ (plain : (line : OutputLine) → IsPlain line → P line) where
    account_each : (m : Entries) (k : Key) (x : Entry) → Each P (account_line m k x)
    account_each m (key.Account id) (entry.Account balance sequence) = (plain _ tt, tt)
    account_each m k x = tt

    install_each : (k : Key) (x : Entry) → Each P (install_line k x)
    install_each (key.Install id position) (entry.Install hash on namespace parameters grants) = (plain _ tt, tt)
    install_each k x = tt

    state_each : (k : Key) (x : Entry) → Each P (state_line k x)
    state_each (key.State id namespace q) (entry.State bytes) = (plain _ tt, tt)
    state_each k x = tt

    pub final_each : (ledger : LedgerValue) →
        ((k : Key) (x : Entry) → get ledger.entries k ≡ Some x → Each P (queued_line k x)) →
        Each P (final_lines ledger)
    final_each ledger queued =
        let m = ledger.entries in
        let accounts = in_order (account_line m) m in
        let installs = in_order install_line m in
        let states = in_order state_line m in
        let queue = in_order queued_line m in
        each-append P (((accounts ++ installs) ++ states) ++ queue) (total_lines ledger)
        (each-append P ((accounts ++ installs) ++ states) queue
        (each-append P (accounts ++ installs) states
        (each-append P accounts installs (entries_each m (account_line m) (λ k x at. account_each m k x))
        (entries_each m install_line (λ k x at. install_each k x)))
        (entries_each m state_line (λ k x at. state_each k x)))
        (entries_each m queued_line queued))
        (plain (printed.FinalTotal (balances m) ledger.burnt) tt, (plain printed.Done tt, tt))

-- ---- they emit, settle and call back nothing

abbrev pub IsFinal : OutputLine → Type 0
IsFinal (printed.FinalQueued number first last) = Unit {0}
IsFinal line = IsPlain line

plain_final : (line : OutputLine) → IsPlain line → IsFinal line
plain_final (printed.FinalQueued number first last) h = tt
plain_final line h = h

queued_final : (k : Key) (x : Entry) → Each IsFinal (queued_line k x)
queued_final (key.Emitted number) (entry.Emitted blob hash first last callback) = (tt, tt)
queued_final k x = tt

pub all_final : (ledger : LedgerValue) → Each IsFinal (final_lines ledger)
all_final ledger = final_each IsFinal plain_final ledger (λ k x at. queued_final k x)

final_emits : (n : ℕ) (line : OutputLine) → IsFinal line → is_emit n line ≡ false
final_emits n (printed.Emit number first last) h = absurd h
final_emits n other h = refl

final_settles : (n : ℕ) (line : OutputLine) → IsFinal line → is_settled n line ≡ false
final_settles n (printed.Settled number word result fee) h = absurd h
final_settles n other h = refl

final_called : (may : Bool) (lines : List OutputLine) → Each IsFinal lines → AreCalled may lines
final_called may [] are = tt
final_called may (printed.Settled number word result fee ∷ lines) are = absurd are.0
final_called may (printed.Callback account position outcome count bound ∷ lines) are = absurd are.0
final_called may (printed.Hook account position outcome count bound ∷ lines) are = absurd are.0
final_called may (printed.State account namespace k value ∷ lines) are = absurd are.0
final_called may (printed.Emit number first last ∷ lines) are = absurd are.0
final_called may (line ∷ lines) are = final_called false lines are.1

-- ---- what they say of the queue

counted_so : (test : OutputLine → Bool) (lines : List OutputLine) → counted test lines ≡ count_by test lines
counted_so test =
    is_count_by (counted test) test refl (λ line lines.
    elim (test line) as (λ b. one_if b + counted test lines ≡ cond b (1 + counted test lines) (counted test lines)) [
      | true ↦ refl
      | false ↦ omega arith
    ])

-- a line of the queue says what one of these `emit` lines says
abbrev IsFinalOf : List OutputLine → OutputLine → Type 0
IsFinalOf emits (printed.FinalQueued number first last) = IsEmitted emits number first last
IsFinalOf emits line = IsPlain line

plain_of : (emits : List OutputLine) (line : OutputLine) → IsPlain line → IsFinalOf emits line
plain_of emits (printed.FinalQueued number first last) h = absurd h
plain_of emits line h = h

queued_of : (emits : List OutputLine) (ledger : LedgerValue) → IsTold emits ledger.entries → (k : Key) (x : Entry) →
    get ledger.entries k ≡ Some x → Each (IsFinalOf emits) (queued_line k x)
queued_of emits ledger told (key.Emitted number) (entry.Emitted blob hash first last callback) at =
    (told number first last (subst (WaitsFor first last) (sym at) (refl, refl)), tt)
queued_of emits ledger told k x at = tt

final_as_emitted : (emits : List OutputLine) (under : Option ℕ) (lines : List OutputLine) →
    Each (IsFinalOf emits) lines → AreAsEmitted emits under lines
final_as_emitted emits under [] are = tt
final_as_emitted emits under (printed.Ledger seq ∷ lines) are = absurd are.0
final_as_emitted emits under (printed.Emit number first last ∷ lines) are = absurd are.0
final_as_emitted emits under (printed.Settled number word result fee ∷ lines) are = absurd are.0
final_as_emitted emits under (printed.FinalQueued number first last ∷ lines) are =
    (are.0, final_as_emitted emits under lines are.1)
final_as_emitted emits under (line ∷ lines) are = final_as_emitted emits under lines are.1

pub final_rest : QueueTold → (under : Option ℕ) (ledger : LedgerValue) → Rests under ledger (final_lines ledger)
final_rest queue_told under ledger =
    let lines = final_lines ledger in
    let are = all_final ledger in
    let none : (n : ℕ) → counted (is_emit n) lines ≡ 0 =
    (λ n.
    none_counted (is_emit n) lines (each-map IsFinal (λ line. is_emit n line ≡ false) (final_emits n) lines are)) in
    record {
      once = λ n. let no = none n in omega (arith, no);
      low = λ n h. none n;
      closed = λ n.
          let no = none n in
          let settles =
          none_counted (is_settled n) lines
          (each-map IsFinal (λ line. is_settled n line ≡ false) (final_settles n) lines are) in
          let queue = counted_so (is_queued n) lines ∙ queue_told ledger n in
          omega (arith, no, settles, queue);
      as_emitted = λ emits told.
          final_as_emitted emits under lines
          (final_each (IsFinalOf emits) (plain_of emits) ledger (queued_of emits ledger told));
      called = λ may. final_called may lines are;
    }
