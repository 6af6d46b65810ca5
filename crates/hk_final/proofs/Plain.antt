-- The lines of a ledger without entries of hooks.
use Rattle.std.proofs.Common.{◌≡◌, ◌∙◌, sym, ap, Bool, true, false, List, [], ◌∷◌, ◌++◌, length, Some, None}
use Rattle.std.proofs.Common.{if◌then◌else◌, filter, refl}
use Rattle.std.proofs.lemmas.List.{append-nil}
use Rattle.std.proofs.lemmas.Bool.{and_parts}
use Rattle.std.specs.List.{AllByRecursion}
use Rattle.std.specs.FinMap.{get, entries}
use Rattle.hk_lines.specs.declared.output_line.OutputLine.{OutputLine}
use Rattle.hk_lines.specs.declared.output_line.OutputLine.TheVariants as printed
use Rattle.hk_state.specs.declared.entry.Entry.{Entry}
use Rattle.hk_state.specs.declared.entry.Entry.TheVariants as entry
use Rattle.hk_state.specs.declared.key.Key.{Key}
use Rattle.hk_state.specs.declared.key.Key.TheVariants as key
use Rattle.hk_state.specs.Entries.{Entries}
use Rattle.hk_state.specs.Least.{is_from}
use Rattle.hk_state.specs.Reserves.{first_install, first_state, are_beside, is_own}
use Rattle.hk_final.specs.Final.{number_of, account_line, install_line, state_line, queued_line, in_order, total_lines}
use Rattle.hk_final.specs.Plain.{is_by_hooks, plain_line, PlainLines}
use Rattle.hk_final.proofs.There.{each_entry}
use Rattle.hk_final.proofs.Entered.{lines_of}

no_lines : (line : Key → Entry → List OutputLine) (es : List (Key × Entry)) →
    AllByRecursion (λ e. line e.0 e.1 ≡ []) es → lines_of line es ≡ []
no_lines line [] each = refl
no_lines line (e ∷ es) each = ap (λ ls. ls ++ lines_of line es) each.0 ∙ no_lines line es each.1

none_pass : (test : Key → Bool) (es : List (Key × Entry)) → AllByRecursion (λ e. test e.0 ≡ false) es →
    filter (λ e. test e.0) es ≡ []
none_pass test [] each = refl
none_pass test (e ∷ es) each =
    ap (λ b. if b then e ∷ filter (λ x. test x.0) es else filter (λ x. test x.0) es) each.0 ∙ none_pass test es each.1

beside_by_hooks : (first k : Key) → are_beside first k ≡ true → is_by_hooks k ≡ true
beside_by_hooks (key.Install a m) (key.Install b n) h = refl
beside_by_hooks (key.State a m j) (key.State b n k) h = refl
beside_by_hooks first k h = cc

no_install : (k : Key) (e : Entry) → is_by_hooks k ≡ false → install_line k e ≡ []
no_install (key.Install id position) e h = cc
no_install k e h = refl

no_state : (k : Key) (e : Entry) → is_by_hooks k ≡ false → state_line k e ≡ []
no_state (key.State id namespace q) e h = cc
no_state k e h = refl

no_queued : (k : Key) (e : Entry) → is_by_hooks k ≡ false → queued_line k e ≡ []
no_queued (key.Emitted number) e h = cc
no_queued k e h = refl

module _ (m : Entries) (none : (k : Key) → is_by_hooks k ≡ true → get m k ≡ None) where
  -- no entry that is there is of hooks
  not_by_hooks : (k : Key) (e : Entry) → get m k ≡ Some e → is_by_hooks k ≡ false
  not_by_hooks k e at = elim (is_by_hooks k) as (λ b. is_by_hooks k ≡ b → b ≡ false) [
    | true ↦ λ is. let differ : Some e ≡ None = sym at ∙ none k is in cc
    | false ↦ λ not. refl
  ] refl

  none_in : (line : Key → Entry → List OutputLine) →
      ((k : Key) (e : Entry) → is_by_hooks k ≡ false → line k e ≡ []) → in_order line m ≡ []
  none_in line not =
      no_lines line (entries m) (each_entry (λ k e. line k e ≡ []) m (λ k e at. not k e (not_by_hooks k e at)))

  not_own : (first k : Key) (e : Entry) → get m k ≡ Some e → is_own first k ≡ false
  not_own first k e at = elim (is_own first k) as (λ b. is_own first k ≡ b → b ≡ false) [
    | true ↦ λ own.
        let by : is_by_hooks k ≡ true =
        beside_by_hooks first k (and_parts (is_from first k) (are_beside first k) own).1 in
        let not = not_by_hooks k e at in
        let differ : true ≡ false = sym by ∙ not in cc
    | false ↦ λ not. refl
  ] refl

  no_number : (first : Key) → number_of first m ≡ 0
  no_number first =
      ap length (none_pass (is_own first) (entries m) (each_entry (λ k e. is_own first k ≡ false) m (not_own first)))

  plain_account : (k : Key) (e : Entry) → account_line m k e ≡ plain_line k e
  plain_account (key.Account id) (entry.Account balance sequence) =
      λ i. printed.FinalAccount id balance sequence (no_number (first_install id) i) (no_number (first_state id) i) ∷ []
  plain_account k e = refl

pub plain : PlainLines
plain ledger none =
    let m = ledger.entries in
    let accounts = in_order (account_line m) m in
    let installs = in_order install_line m in
    let states = in_order state_line m in
    ap (λ ls. ls ++ total_lines ledger)
    (ap (λ ls. accounts ++ installs ++ states ++ ls) (none_in m none queued_line no_queued)
    ∙ append-nil (accounts ++ installs ++ states)
    ∙ ap (λ ls. accounts ++ installs ++ ls) (none_in m none state_line no_state)
    ∙ append-nil (accounts ++ installs)
    ∙ ap (λ ls. accounts ++ ls) (none_in m none install_line no_install)
    ∙ append-nil accounts
    ∙ (λ i. lines_of (λ k e. plain_account m none k e i) (entries m)))
