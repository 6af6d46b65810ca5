-- A replay is its machine, going through the lines.
use Rattle.std.proofs.Common.{◌≡◌, ℕ, suc, zero, ◌+◌, Bool, true, false, ◌||◌, not, nat_lt, nat_le, cond, List, []}
use Rattle.std.proofs.Common.{◌∷◌, Option, Some, None, is_some, Result, Ok, Err, ap, sym, subst, ◌∙◌, refl, arith}
use Rattle.std.specs.Str.{bytes_eq}
use Rattle.std.specs.FinMap.{get, get-empty, get-insert}
use Rattle.std.proofs.lemmas.Bool.{ltb-false, leb-false}
use Rattle.std.proofs.lemmas.Map.Text.{is_eq-slice_cmp}
use Rattle.hk_base.specs.declared.ids.AccountId.{AccountId}
use Rattle.hk_lines.specs.Lines.{takes, turned, turn_of}
use Rattle.hk_lines.proofs.Fusing.{fuses_law}
use Rattle.hk_lines.specs.declared.input_line.InputLine.{InputLine}
use Rattle.hk_lines.specs.declared.input_line.InputLine.TheVariants.{Account, Ledger, Tx, Hook, End}
use Rattle.hk_lines.specs.declared.line_fault.LineFault.{LineFault}
use Rattle.hk_lines.specs.declared.rule.Rule.{Rule}
use Rattle.hk_lines.specs.declared.rule.Rule.TheVariants.{BadOrder, RepeatedAccount, Total}
use Rattle.hk_lines.specs.declared.verdict.Verdict.{Verdict}
use Rattle.hk_lines.specs.declared.output_line.OutputLine.{OutputLine}
use Rattle.hk_state.specs.declared.entry.Entry.{Entry}
use Rattle.hk_state.specs.declared.entry.Entry.TheVariants as entry
use Rattle.hk_state.specs.declared.key.Key.TheVariants as key
use Rattle.hk_state.specs.Balances.{balances-empty, sum_new}
use Rattle.hk_state.specs.Holdings.{as_holding, holding_at, with_holding}
use Rattle.hk_state.specs.Keys.{key_cmp, keys_total}
use Rattle.hk_state.specs.declared.ledger.Header.{Header}
use Rattle.hk_state.specs.Ledger.{LedgerValue, with_header}
use Rattle.hk_ledger.specs.Machine.{State, start, step, opening_total, account_rules, ledger_rules, tx_rules}
use Rattle.hk_ledger.specs.Machine.{unless_broken, goes}
use Rattle.hk_state.specs.Native.{native}
use Rattle.hk_base.specs.Rows.{first_row}
use Rattle.hk_state.specs.Rows.{none_applies}
use Rattle.hk_events.specs.Engine.{Engine}
use Rattle.hk_events.specs.Events.{applied}
use Rattle.hk_events.specs.Settled.{due, opened, settled, settled_all, settled_entry}
use Rattle.hk_engine.specs.Engine.{engine_of}
use Rattle.hk_ledger.specs.World.{most_drops, with_account}
use Rattle.hk_state.proofs.Told.{is_none}
use Rattle.hk_replay.specs.ReplayLines.{Order, no_lines, is_among, account_faults, ledger_faults, tx_faults}
use Rattle.hk_replay.specs.ReplayLines.{unless_refused, with_opened, ordered, ordered_read, replay_line, right_step}
use Rattle.hk_replay.specs.ReplayLines.{replay_machine, ReplayFolds}
use Rattle.hk_replay.specs.Replaying.{texts, printed, replay_read, replay_turn}
use Rattle.hk_lines.specs.Taken.{read_if}
use Rattle.hk_replay.specs.Words.{is_replay_line}
use Rattle.hk_replay.proofs.Together.{SameTurn, same_given}

-- until a ledger is opened, the ledger's accounts and their total are those of the lines
record Agrees (order : Order) (s : State) : Type 0 where
  pub seq : order.seq ≡ s.ledger.header.seq
  pub total : order.seq ≡ 0 → order.total ≡ opening_total s.ledger
  pub accounts : order.seq ≡ 0 → (id : AccountId) →
      is_among id order.accounts ≡ is_some (holding_at s.ledger.entries id)

abbrev Goes : Order × State → State → Type 0
Goes p s = (p.1 ≡ s) × Agrees p.0 s

-- another account among the entries
among_more : (ledger : LedgerValue) (id : AccountId) (balance sequence : ℕ) (ids : List AccountId)
    (other : AccountId) →
    is_among other ids ≡ is_some (holding_at ledger.entries other) →
    is_among other (id ∷ ids) ≡ is_some (holding_at (with_holding ledger.entries id balance sequence) other)
among_more ledger id balance sequence ids other is =
    sym (ap (λ found. is_some (as_holding found))
    (get-insert keys_total ledger.entries (key.Account id) (entry.Account balance sequence) (key.Account other))
    ∙ ap
    (λ b.
    is_some (as_holding (cond b (Some (entry.Account balance sequence)) (get ledger.entries (key.Account other)))))
    (is_eq-slice_cmp other.0 id.0)
    ∙ of (bytes_eq other.0 id.0)) where
      of : (b : Bool) → is_some
          (as_holding (cond b (Some (entry.Account balance sequence)) (get ledger.entries (key.Account other)))) ≡
          (b || is_among other ids)
      of true = refl
      of false = sym is

no_ledger : (seq : ℕ) → nat_lt 0 seq ≡ false → seq ≡ 0
no_ledger seq is = let most = ltb-false 0 seq is in omega (arith, most)

-- the same rule is broken
same_fault : (opened was has : Bool) (low high : ℕ) → (opened ≡ false → was ≡ has) → (opened ≡ false → low ≡ high) →
    first_row ((opened, BadOrder) ∷ (was, RepeatedAccount) ∷ (nat_lt most_drops low, Total) ∷ [])
    ≡ first_row ((opened, BadOrder) ∷ (has, RepeatedAccount) ∷ (nat_lt most_drops high, Total) ∷ [])
same_fault true was has low high h k = refl
same_fault false was has low high h k =
    ap (λ b. first_row ((b, RepeatedAccount) ∷ (nat_lt most_drops low, Total) ∷ [])) (h refl)
    ∙ ap (λ n. first_row ((has, RepeatedAccount) ∷ (nat_lt most_drops n, Total) ∷ [])) (k refl)

same_account_fault : (order : Order) (s : State) (id : AccountId) (balance : ℕ) → Agrees order s →
    first_row (account_faults order id balance) ≡ first_row (account_rules s.ledger id balance)
same_account_fault order s id balance a =
    same_fault (nat_lt 0 order.seq) (is_among id order.accounts) (is_some (holding_at s.ledger.entries id))
    (order.total + balance) (opening_total s.ledger + balance)
    (λ none. a.accounts (no_ledger order.seq none) id)
    (λ none. ap (λ n. n + balance) (a.total (no_ledger order.seq none)))
    ∙ ap (λ n.
    first_row ((nat_lt 0 n, BadOrder)
    ∷ (is_some (holding_at s.ledger.entries id), RepeatedAccount)
    ∷ (nat_lt most_drops (opening_total s.ledger + balance), Total)
    ∷ [])) a.seq

-- a line that is refused by the order is wrong for the machine, and else both go on
same_unless : (found broken : Option Rule) (s : State) (order : Order) (line : InputLine) (next : State)
    (shown : List OutputLine) → found ≡ broken →
    right_step s line ≡ (next, shown) → (broken ≡ None → Agrees order next) →
    SameTurn Goes (turned replay_machine s (unless_refused found (takes order line)))
    (printed (unless_broken broken (goes next shown)))
same_unless found broken s order line next shown same does h =
    subst (λ f.
    SameTurn Goes (turned replay_machine s (unless_refused f (takes order line)))
    (printed (unless_broken broken (goes next shown)))) (sym same) (of broken h) where
      of : (broken : Option Rule) → (broken ≡ None → Agrees order next) →
          SameTurn Goes (turned replay_machine s (unless_refused broken (takes order line)))
          (printed (unless_broken broken (goes next shown)))
      of None h = ((ap (λ d. d.0) does, h refl), ap (λ d. texts d.1) does)
      of (Some rule) h = refl

account_agrees : (order : Order) (s : State) (id : AccountId) (balance sequence : ℕ) → Agrees order s →
    first_row (account_rules s.ledger id balance) ≡ None →
    Agrees (with_opened order id balance) (record s { ledger = with_account s.ledger id balance sequence })
account_agrees order s id balance sequence a right =
    let absent =
    is_none (holding_at s.ledger.entries id) (none_applies (account_rules s.ledger id balance) right).1.0 in
    let sum = sum_new s.ledger.entries id balance sequence absent in
    record {
      seq = a.seq;
      total = λ none. let total = a.total none in omega (arith, sum, total);
      accounts = λ none other. among_more s.ledger id balance sequence order.accounts other (a.accounts none other);
    }

-- no ledger has sequence 0
opened_seq : (seq old : ℕ) → first_row ((nat_le seq old, BadOrder) ∷ []) ≡ None → seq ≡ 0 → ⊥
opened_seq seq old h is =
    let above = leb-false seq old (none_applies ((nat_le seq old, BadOrder) ∷ []) h).0 in omega (arith, above, is)

in_ledger : (seq : ℕ) → first_row ((not (nat_lt 0 seq), BadOrder) ∷ []) ≡ None → seq ≡ 0 → ⊥
in_ledger zero h is = cc
in_ledger (suc seq) h is = cc

tx_agrees : (order : Order) (s : State) (verdict : Verdict) (blob : List ℕ) (count : ℕ) → Agrees order s →
    first_row (tx_rules s.ledger) ≡ None →
    Agrees order (record { ledger = (applied (engine_of native) s.ledger verdict blob).ledger; count = count })
tx_agrees order s verdict blob count a right =
    let never : order.seq ≡ 0 → ⊥ = λ none. in_ledger s.ledger.header.seq right (sym a.seq ∙ none) in
    record {
      seq = a.seq;
      total = λ none. absurd (never none);
      accounts = λ none. absurd (never none);
    }

-- settlements leave the header
entry_header : (e : Engine) (ledger : LedgerValue) (number : ℕ) (found : Option Entry) →
    (settled_entry e ledger number found).ledger.header ≡ ledger.header
entry_header e ledger number (Some (entry.Emitted blob hash first last callback)) = refl
entry_header e ledger number None = refl
entry_header e ledger number (Some other) = refl

all_header : (e : Engine) (ns : List ℕ) (ledger : LedgerValue) → (settled_all e ledger ns).ledger.header ≡ ledger.header
all_header e [] ledger = refl
all_header e (n ∷ ns) ledger =
    all_header e ns (settled e ledger n).ledger ∙ entry_header e ledger n (get ledger.entries (key.Emitted n))

opened_header : (ledger : LedgerValue) (header : Header) →
    (opened (engine_of native) ledger header).ledger.header.seq ≡ header.seq
opened_header ledger header =
    ap (λ (h : Header). h.seq)
    (all_header (engine_of native) (due (with_header ledger header)) (with_header ledger header))

ordered_same : (order : Order) (s : State) (line : InputLine) → Agrees order s →
    SameTurn Goes (turned replay_machine s (ordered order line)) (printed (step native s line))
ordered_same order s (Account id balance sequence) a =
    same_unless (first_row (account_faults order id balance)) (first_row (account_rules s.ledger id balance)) s
    (with_opened order id balance) (Account id balance sequence) _ []
    (same_account_fault order s id balance a) refl (account_agrees order s id balance sequence a)
ordered_same order s (Ledger seq time last_hash) a =
    same_unless (first_row (ledger_faults order seq)) (first_row (ledger_rules s.ledger seq)) s
    (record order { seq = seq }) (Ledger seq time last_hash) _ _
    (ap (λ n. first_row ((nat_le seq n, BadOrder) ∷ [])) a.seq) refl
    (λ right. record {
      seq = sym (opened_header s.ledger (record { seq = seq; time = time; last_hash = last_hash }));
      total = λ none. absurd (opened_seq seq s.ledger.header.seq right none);
      accounts = λ none. absurd (opened_seq seq s.ledger.header.seq right none);
    })
ordered_same order s (Tx verdict blob) a =
    same_unless (first_row (tx_faults order)) (first_row (tx_rules s.ledger)) s order (Tx verdict blob) _ _
    (ap (λ n. first_row ((not (nat_lt 0 n), BadOrder) ∷ [])) a.seq) refl
    (tx_agrees order s verdict blob (s.count + 1) a)
ordered_same order s (Hook code) a = refl
ordered_same order s End a = (refl, refl)

read_same : (order : Order) (s : State) (answer : Result InputLine LineFault) → Agrees order s →
    SameTurn Goes (turned replay_machine s (ordered_read order answer)) (replay_read s answer)
read_same order s (Ok line) a = ordered_same order s line a
read_same order s (Err fault) a = refl

replay_same : (p : Order × State) (s : State) (line : List ℕ) → Goes p s →
    SameTurn Goes (turn_of replay_machine replay_line p line) (replay_turn s line)
replay_same p s line (is, a) =
    subst (λ x. SameTurn Goes (turned replay_machine x (replay_line p.0 line)) (replay_turn s line)) (sym is)
    (read_same p.0 s (read_if (is_replay_line line) line) a)

start_agrees : Agrees no_lines start
start_agrees =
    let none = balances-empty in
    record {
      seq = refl;
      total = λ _. omega (arith, none);
      accounts = λ _ id. ap (λ found. is_some (as_holding found)) (sym (get-empty key_cmp (key.Account id)));
    }

pub replay_folds : ReplayFolds
replay_folds limit bytes close =
    sym (same_given Goes (turn_of replay_machine replay_line) replay_turn replay_same limit (no_lines, start) start
    bytes close (refl, start_agrees))
    ∙ fuses_law replay_line replay_machine limit no_lines start bytes close
