-- How many lines pass a test, as a sum over the entries of the ledger.
use Rattle.std.proofs.Common.{◌≡◌, ◌∙◌, ℕ, ◌+◌, ◌==◌, ◌<◌, ◌&&◌, sym, ap, arith, Bool, true, false, cond}
use Rattle.std.proofs.Common.{List, [], ◌∷◌, filter, length, replicate, Option, Some, None, if◌then◌else◌, refl}
use Rattle.std.proofs.lemmas.Bool.{and_right}
use Rattle.std.proofs.lemmas.List.Sums.{sum_by-append}
use Rattle.std.proofs.lemmas.Map.Text.{is_eq-slice_cmp}
use Rattle.std.specs.declared.cmp.Ordering.{Ordering}
use Rattle.std.specs.declared.cmp.Ordering.TheVariants.{Less, Equal, Greater}
use Rattle.std.specs.Ordering.{nat_cmp, is_le, ordering_then}
use Rattle.std.specs.Cmp.{ranked, unsigned_ties}
use Rattle.std.specs.List.{count_by}
use Rattle.std.specs.Str.{bytes_eq}
use Rattle.std.specs.FinMap.{get, entries, remove, empty, get-remove, get-empty}
use Rattle.hk_base.specs.declared.ids.AccountId.{AccountId}
use Rattle.hk_base.specs.declared.ids.Hash256.{Hash256}
use Rattle.hk_lines.specs.declared.output_line.OutputLine.{OutputLine}
use Rattle.hk_state.specs.declared.entry.Entry.{Entry}
use Rattle.hk_state.specs.declared.entry.Entry.TheVariants as entry
use Rattle.hk_state.specs.declared.key.Key.{Key}
use Rattle.hk_state.specs.declared.key.Key.TheVariants as key
use Rattle.hk_state.specs.Entries.{Entries}
use Rattle.hk_state.specs.Keys.{key_cmp, bytes_cmp, is_key, keys_total, itself, order_at}
use Rattle.hk_state.specs.Least.{is_from}
use Rattle.hk_state.specs.Ledger.{LedgerValue}
use Rattle.hk_state.specs.Reserves.{first_install, first_state, are_beside, is_own}
use Rattle.hk_state.specs.Sums.{sum, total, part, sum-total, sum-alike, sum-remove, sum-empty}
use Rattle.hk_final.specs.Final.{number_of, in_order, total_lines, final_lines}
use Rattle.hk_final.specs.Entered.{entry_line}
use Rattle.hk_final.specs.Counted.{is_install_of, is_state_of, is_queued, is_install, is_state}
use Rattle.hk_final.specs.Counted.{CountsHooks, CountsStates, QueueTold, waiting}
use Rattle.hk_final.proofs.Entered.{lines_of, all_kinds}

-- how many lines of an entry pass
abbrev counts : (OutputLine → Bool) → Entries → Key → Entry → ℕ
counts test m k e = count_by test (entry_line m k e)

by_entries : (test : OutputLine → Bool) (m : Entries) (es : List (Key × Entry)) →
    count_by test (lines_of (entry_line m) es) ≡ total (counts test m) es
by_entries test m [] = omega arith
by_entries test m (e ∷ es) =
    let parts = sum_by-append (λ line. cond (test line) 1 0) (entry_line m e.0 e.1) (lines_of (entry_line m) es) in
    let rest = by_entries test m es in
    omega (arith, parts, rest)

all_counts : (test : OutputLine → Bool) (ledger : LedgerValue) → count_by test (total_lines ledger) ≡ 0 →
    count_by test (final_lines ledger) ≡ sum (counts test ledger.entries) ledger.entries
all_counts test ledger none =
    let m = ledger.entries in
    let same = ap (count_by test) (all_kinds ledger) in
    let parts = sum_by-append (λ line. cond (test line) 1 0) (in_order (entry_line m) m) (total_lines ledger) in
    let each = by_entries test m (entries m) in
    let all = sum-total (counts test m) m in
    omega (arith, none, same, parts, each, all)

abbrev one_if : Bool → ℕ
one_if b = cond b 1 0

single : (b : Bool) → 0 + one_if b ≡ one_if b
single b = omega arith

abbrev one_own : Key → Key → Entry → ℕ
one_own first k e = one_if (is_own first k)

own_total : (first : Key) (es : List (Key × Entry)) →
    length (filter (λ e. is_own first e.0) es) ≡ total (one_own first) es
own_total first [] = refl
own_total first (e ∷ es) =
    let rest = own_total first es in
    elim (is_own first e.0) as (λ b.
    length (if b then e ∷ filter (λ x. is_own first x.0) es else filter (λ x. is_own first x.0) es)
    ≡ one_if b + total (one_own first) es) [
      | true ↦ omega (arith, rest)
      | false ↦ omega (arith, rest)
    ]

number_sum : (first : Key) (m : Entries) → sum (one_own first) m ≡ number_of first m
number_sum first m = sum-total (one_own first) m ∙ sym (own_total first (entries m))

-- a key of an account's Installs isn't below the first
low : (order : Ordering) (n : ℕ) → order ≡ nat_cmp 0 n → is_le order ≡ true
low Less n is = refl
low Equal n is = refl
low Greater n is = let below : n < 0 = ranked 0 n Greater is in absurd (omega (arith, below))

install_from : (id owner : AccountId) (position : ℕ) → bytes_eq id.0 owner.0 ≡ true →
    is_from (first_install id) (key.Install owner position) ≡ true
install_from id owner position same =
    let tie = order_at (bytes_cmp id.0 owner.0) (is_eq-slice_cmp id.0 owner.0 ∙ same) in
    ap (λ order. is_le (ordering_then order (nat_cmp 0 position))) tie ∙ low (nat_cmp 0 position) position refl

-- a key that isn't below the first of its account isn't below that of an equal id
state_from : (id owner : AccountId) (namespace q : Hash256) →
    is_from (first_state owner) (key.State owner namespace q) ≡ true → bytes_eq id.0 owner.0 ≡ true →
    is_from (first_state id) (key.State owner namespace q) ≡ true
state_from id owner namespace q from same =
    let least = replicate 32 0 in
    let tie = order_at (bytes_cmp id.0 owner.0) (is_eq-slice_cmp id.0 owner.0 ∙ same) in
    let itself = order_at (bytes_cmp owner.0 owner.0) (itself (key.Other owner.0)) in
    ap (λ order. is_le (ordering_then order (ordering_then (bytes_cmp least namespace.0) (bytes_cmp least q.0))))
    (tie ∙ sym itself)
    ∙ from

-- one where both tests pass
both_pass : (from same : Bool) → (same ≡ true → from ≡ true) → 0 + one_if same ≡ one_if (from && same)
both_pass true same h = single same
both_pass false true h = let differ = h refl in cc
both_pass false false h = refl

-- no line where the key isn't beside the first one
apart : (first k : Key) (e : Entry) (n : ℕ) → n ≡ 0 → are_beside first k ≡ false → n ≡ one_own first k e
apart first k e n none not = none ∙ sym (ap one_if (and_right (is_from first k) (are_beside first k) not))

installs_alike : (m : Entries) (id : AccountId) (k : Key) (e : Entry) →
    ((owner : AccountId) (position : ℕ) → k ≡ key.Install owner position → is_install e ≡ true) →
    counts (is_install_of id) m k e ≡ one_own (first_install id) k e
installs_alike m id (key.Install owner position) (entry.Install hash on namespace parameters grants) h =
    both_pass (is_from (first_install id) (key.Install owner position)) (bytes_eq id.0 owner.0)
    (install_from id owner position)
installs_alike m id (key.Install owner position) e h = let is = h owner position refl in cc
installs_alike m id (key.Account owner) (entry.Account b s) h =
    apart (first_install id) (key.Account owner) (entry.Account b s) 0 refl refl
installs_alike m id (key.State owner namespace q) (entry.State bytes) h =
    apart (first_install id) (key.State owner namespace q) (entry.State bytes) 0 refl refl
installs_alike m id (key.Emitted number) (entry.Emitted blob hash first last callback) h =
    apart (first_install id) (key.Emitted number) (entry.Emitted blob hash first last callback) 0 refl refl
installs_alike m id k e h = apart (first_install id) k e 0 refl refl

states_alike : (m : Entries) (id : AccountId) (k : Key) (e : Entry) →
    ((owner : AccountId) (namespace q : Hash256) → k ≡ key.State owner namespace q →
    (is_state e ≡ true) × (is_from (first_state owner) (key.State owner namespace q) ≡ true)) →
    counts (is_state_of id) m k e ≡ one_own (first_state id) k e
states_alike m id (key.State owner namespace q) (entry.State bytes) h =
    both_pass (is_from (first_state id) (key.State owner namespace q)) (bytes_eq id.0 owner.0)
    (state_from id owner namespace q (h owner namespace q refl).1)
states_alike m id (key.State owner namespace q) e h = let is = (h owner namespace q refl).0 in cc
states_alike m id (key.Account owner) (entry.Account b s) h =
    apart (first_state id) (key.Account owner) (entry.Account b s) 0 refl refl
states_alike m id (key.Install owner position) (entry.Install hash on namespace parameters grants) h =
    apart (first_state id) (key.Install owner position) (entry.Install hash on namespace parameters grants) 0 refl refl
states_alike m id (key.Emitted number) (entry.Emitted blob hash first last callback) h =
    apart (first_state id) (key.Emitted number) (entry.Emitted blob hash first last callback) 0 refl refl
states_alike m id k e h = apart (first_state id) k e 0 refl refl

-- two numbers that are the same at each entry that is there
same_there : (f g : Key → Entry → ℕ) (m : Entries) → ((k : Key) (e : Entry) → get m k ≡ Some e → f k e ≡ g k e) →
    sum f m ≡ sum g m
same_there f g m same = sum-alike f g m m (λ q.
    elim (get m q) as (λ found. get m q ≡ found → part f q found ≡ part g q found) [
      | None ↦ λ at. refl
      | Some e ↦ λ at. same q e at
    ] refl)

pub counts_hooks : CountsHooks
counts_hooks ledger id are =
    let m = ledger.entries in
    all_counts (is_install_of id) ledger refl
    ∙ same_there (counts (is_install_of id) m) (one_own (first_install id)) m (λ k e at.
    installs_alike m id k e (λ owner position is. are owner position e (ap (get m) (sym is) ∙ at)))
    ∙ number_sum (first_install id) m

pub counts_states : CountsStates
counts_states ledger id are =
    let m = ledger.entries in
    all_counts (is_state_of id) ledger refl
    ∙ same_there (counts (is_state_of id) m) (one_own (first_state id)) m (λ k e at.
    states_alike m id k e (λ owner namespace q is. are owner namespace q e (ap (get m) (sym is) ∙ at)))
    ∙ number_sum (first_state id) m

abbrev nothing : Key → Entry → ℕ
nothing k e = 0

no_part : (f : Key → Entry → ℕ) (q : Key) (found : Option Entry) → ((e : Entry) → f q e ≡ 0) → part f q found ≡ 0
no_part f q None none = refl
no_part f q (Some e) none = none e

none_but : (f : Key → Entry → ℕ) (k : Key) (m : Entries) → ((q : Key) (e : Entry) → is_key q k ≡ false → f q e ≡ 0) →
    (q : Key) → part f q (get (remove m k) q) ≡ part nothing q (get {R = key_cmp} empty q)
none_but f k m others q =
    ap (part f q) (get-remove keys_total m k q)
    ∙ elim (is_key q k) as (λ b. is_key q k ≡ b → part f q (cond b None (get m q)) ≡ 0) [
      | true ↦ λ same. refl
      | false ↦ λ apart. no_part f q (get m q) (λ e. others q e apart)
    ] refl
    ∙ sym (ap (part nothing q) (get-empty key_cmp q))

-- a sum to which one key alone adds
only_one : (f : Key → Entry → ℕ) (k : Key) (m : Entries) → ((q : Key) (e : Entry) → is_key q k ≡ false → f q e ≡ 0) →
    sum f m ≡ part f k (get m k)
only_one f k m others =
    let parts = sum-remove f m k in
    let rest : sum f (remove m k) ≡ 0 =
    sum-alike f nothing (remove m k) empty (none_but f k m others) ∙ sum-empty nothing in
    omega (arith, parts, rest)

not_this : (m : Entries) (n : ℕ) (k : Key) (e : Entry) → is_key k (key.Emitted n) ≡ false →
    counts (is_queued n) m k e ≡ 0
not_this m n (key.Emitted number) (entry.Emitted blob hash first last callback) apart =
    single (number == n) ∙ ap one_if (unsigned_ties number n ∙ apart)
not_this m n (key.Account id) (entry.Account balance sequence) apart = refl
not_this m n (key.Install id position) (entry.Install hash on namespace parameters grants) apart = refl
not_this m n (key.State id namespace q) (entry.State bytes) apart = refl
not_this m n k e apart = refl

this : (m : Entries) (n : ℕ) (found : Option Entry) →
    part (counts (is_queued n) m) (key.Emitted n) found ≡ waiting found
this m n None = refl
this m n (Some (entry.Emitted blob hash first last callback)) =
    single (n == n) ∙ ap one_if (unsigned_ties n n ∙ itself (key.Emitted n))
this m n (Some e) = refl

pub queue_told : QueueTold
queue_told ledger n =
    all_counts (is_queued n) ledger refl
    ∙ only_one (counts (is_queued n) ledger.entries) (key.Emitted n) ledger.entries (not_this ledger.entries n)
    ∙ this ledger.entries n (get ledger.entries (key.Emitted n))
