-- The lines of all entries in the order of keys are those of each kind, one kind after the other.
use Rattle.std.proofs.Common.{◌≡◌, ◌∙◌, ℕ, ◌<◌, ◌≤◌, sym, ap, arith, T, true, false, nat_lt, List, [], ◌∷◌, ◌++◌}
use Rattle.std.proofs.Common.{append_assoc, refl}
use Rattle.std.proofs.lemmas.List.{append-nil}
use Rattle.std.proofs.lemmas.Bool.{ltb-true, ltb-false}
use Rattle.std.specs.Ordering.{is_lt}
use Rattle.std.specs.Cmp.{ranked}
use Rattle.std.specs.List.{flat_map}
use Rattle.std.specs.FinMap.{entries, entries_sorted, is_sorted}
use Rattle.std.specs.declared.cmp.Ordering.TheVariants.{Less}
use Rattle.hk_lines.specs.declared.output_line.OutputLine.{OutputLine}
use Rattle.hk_state.specs.declared.entry.Entry.{Entry}
use Rattle.hk_state.specs.declared.key.Key.{Key}
use Rattle.hk_state.specs.declared.key.Key.TheVariants.{Account, Install, Definition, State, Emitted, Other}
use Rattle.hk_state.specs.Entries.{Entries}
use Rattle.hk_state.specs.Keys.{key_cmp, rank}
use Rattle.hk_state.specs.Ledger.{LedgerValue}
use Rattle.hk_state.specs.Sums.{less}
use Rattle.hk_state.proofs.Leasts.{first, second, below}
use Rattle.hk_final.specs.Final.{account_line, install_line, state_line, queued_line}
use Rattle.hk_final.specs.Final.{in_order, total_lines, final_lines}
use Rattle.hk_final.specs.Entered.{entry_line}

-- no kind comes after a later one
ranks_up : (a b : Key) → key_cmp a b ≡ Less → rank a ≤ rank b
ranks_up (Account a) (Account b) lt = omega arith
ranks_up (Install a m) (Install b n) lt = omega arith
ranks_up (Definition a) (Definition b) lt = omega arith
ranks_up (State a m j) (State b n k) lt = omega arith
ranks_up (Emitted m) (Emitted n) lt = omega arith
ranks_up (Other a) (Other b) lt = omega arith
ranks_up a b lt = let lower : rank a < rank b = ranked (rank a) (rank b) Less (sym lt) in omega (arith, lower)

abbrev pub lines_of : (Key → Entry → List OutputLine) → List (Key × Entry) → List OutputLine
lines_of line es = flat_map (λ e. line e.0 e.1) es

-- the lines of kinds up to a rank, and those of kinds above it
module _ (f g : Key → Entry → List OutputLine) (most : ℕ)
    (none_above : (k : Key) (e : Entry) → most < rank k → f k e ≡ [])
    (none_up_to : (k : Key) (e : Entry) → rank k ≤ most → g k e ≡ []) where
  none_after : (k : Key) (es : List (Key × Entry)) → most < rank k → T (below k es) → T (is_sorted key_cmp es) →
      lines_of f es ≡ []
  none_after k [] high low sorted = refl
  none_after k (e ∷ es) high low sorted =
      let up = ranks_up k e.0 (less (key_cmp k e.0) (first (is_lt (key_cmp k e.0)) (below k es) low)) in
      let higher : most < rank e.0 = omega (arith, high, up) in
      ap (λ ls. ls ++ lines_of f es) (none_above e.0 e.1 higher)
      ∙ none_after e.0 es higher (first (below e.0 es) (is_sorted key_cmp es) sorted)
      (second (below e.0 es) (is_sorted key_cmp es) sorted)

  split : (es : List (Key × Entry)) → T (is_sorted key_cmp es) →
      lines_of (λ k e. f k e ++ g k e) es ≡ lines_of f es ++ lines_of g es
  split [] sorted = refl
  split (e ∷ es) sorted =
      let low = first (below e.0 es) (is_sorted key_cmp es) sorted in
      let rest = second (below e.0 es) (is_sorted key_cmp es) sorted in
      let later = split es rest in
      elim (nat_lt most (rank e.0)) as (λ b. nat_lt most (rank e.0) ≡ b →
      (f e.0 e.1 ++ g e.0 e.1) ++ lines_of (λ k x. f k x ++ g k x) es
      ≡ (f e.0 e.1 ++ lines_of f es) ++ (g e.0 e.1 ++ lines_of g es)) [
        | true ↦ λ above.
            let high = ltb-true most (rank e.0) above in
            let none = none_above e.0 e.1 high in
            let none_later = none_after e.0 es high low rest in
            ap (λ ls. (ls ++ g e.0 e.1) ++ lines_of (λ k x. f k x ++ g k x) es) none
            ∙ ap (λ ls. g e.0 e.1 ++ ls) (later ∙ ap (λ ls. ls ++ lines_of g es) none_later)
            ∙ sym (ap (λ ls. ls ++ (g e.0 e.1 ++ lines_of g es)) (ap (λ ls. ls ++ lines_of f es) none ∙ none_later))
        | false ↦ λ up_to.
            let none = none_up_to e.0 e.1 (ltb-false most (rank e.0) up_to) in
            ap (λ ls. (f e.0 e.1 ++ ls) ++ lines_of (λ k x. f k x ++ g k x) es) none
            ∙ ap (λ ls. ls ++ lines_of (λ k x. f k x ++ g k x) es) (append-nil (f e.0 e.1))
            ∙ ap (λ ls. f e.0 e.1 ++ ls) later
            ∙ sym (append_assoc (f e.0 e.1) (lines_of f es) (lines_of g es))
            ∙ sym (ap (λ ls. (f e.0 e.1 ++ lines_of f es) ++ (ls ++ lines_of g es)) none)
      ] refl

after_accounts : (m : Entries) (k : Key) (e : Entry) → 0 < rank k → account_line m k e ≡ []
after_accounts m (Account id) e h = absurd (omega (arith, h))
after_accounts m k e h = refl

after_installs : (m : Entries) (k : Key) (e : Entry) → 1 < rank k → account_line m k e ++ install_line k e ≡ []
after_installs m (Account id) e h = absurd (omega (arith, h))
after_installs m (Install id position) e h = absurd (omega (arith, h))
after_installs m k e h = refl

after_states : (m : Entries) (k : Key) (e : Entry) → 3 < rank k →
    account_line m k e ++ install_line k e ++ state_line k e ≡ []
after_states m (Emitted number) e h = refl
after_states m (Other bytes) e h = refl
after_states m k e h = absurd (omega (arith, h))

before_installs : (k : Key) (e : Entry) → rank k ≤ 0 → install_line k e ≡ []
before_installs (Install id position) e h = absurd (omega (arith, h))
before_installs k e h = refl

before_states : (k : Key) (e : Entry) → rank k ≤ 1 → state_line k e ≡ []
before_states (State id namespace q) e h = absurd (omega (arith, h))
before_states k e h = refl

before_queued : (k : Key) (e : Entry) → rank k ≤ 3 → queued_line k e ≡ []
before_queued (Emitted number) e h = absurd (omega (arith, h))
before_queued k e h = refl

-- the lines of all entries, and the totals
pub all_kinds : (ledger : LedgerValue) →
    in_order (entry_line ledger.entries) ledger.entries ++ total_lines ledger ≡ final_lines ledger
all_kinds ledger =
    let m = ledger.entries in
    let sorted = entries_sorted m in
    let accounts = split (account_line m) install_line 0 (after_accounts m) before_installs (entries m) sorted in
    let installs = split (λ k e. account_line m k e ++ install_line k e) state_line 1
    (after_installs m) before_states (entries m) sorted in
    let states = split (λ k e. account_line m k e ++ install_line k e ++ state_line k e) queued_line 3
    (after_states m) before_queued (entries m) sorted in
    ap (λ ls. ls ++ total_lines ledger)
    (states ∙ ap (λ ls. ls ++ lines_of queued_line (entries m))
    (installs ∙ ap (λ ls. ls ++ lines_of state_line (entries m)) accounts))
