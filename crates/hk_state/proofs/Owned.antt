-- The units of what an account owns, by a walk over its entries.
use Rattle.std.proofs.Common.{◌≡◌, ◌∙◌, ℕ, ◌+◌, sym, ap, refl, arith, Bool, true, false, ◌&&◌, ◌||◌, if◌then◌else◌}
use Rattle.std.proofs.Common.{List, [], ◌∷◌}
use Rattle.std.specs.declared.cmp.Ordering.{Ordering}
use Rattle.std.specs.declared.cmp.Ordering.TheVariants.{Less, Equal, Greater}
use Rattle.std.specs.Ordering.{nat_cmp, is_le, is_eq, ordering_reverse, ordering_then}
use Rattle.std.specs.Str.{bytes_eq}
use Rattle.std.specs.List.{list_any}
use Rattle.std.specs.FinMap.{entries}
use Rattle.std.proofs.lemmas.Map.Text.{is_eq-slice_cmp}
use Rattle.hk_state.specs.declared.key.Key.{Key}
use Rattle.hk_state.specs.declared.key.Key.TheVariants.{Account, Install, Definition, State, Emitted, Other}
use Rattle.hk_state.specs.declared.entry.Entry.{Entry}
use Rattle.hk_state.specs.Keys.{key_cmp, bytes_cmp, keys_total, order_at}
use Rattle.hk_state.specs.Entries.{Entries}
use Rattle.hk_state.specs.Least.{is_from}
use Rattle.hk_state.specs.Reserves.{are_beside, is_own, own_units, units_in}
use Rattle.hk_state.specs.Sums.{sum, total, sum-total}
use Rattle.hk_state.proofs.Walks.{passing, run, own_in}

pub inside : (first k : Key) → is_own first k ≡ true → is_from first k ≡ true
inside first k h = front (is_from first k) (are_beside first k) h
  where
    front : (a b : Bool) → (a && b) ≡ true → a ≡ true
    front true b e = refl
    front false b e = e

-- two lists of bytes against each other, either way
turned_bytes : (a b : List ℕ) → key_cmp (Other a) (Other b) ≡ ordering_reverse (key_cmp (Other b) (Other a))
turned_bytes a b = keys_total.antisymm (Other a) (Other b)

-- what is not below a and not a is above a, and nothing of a comes after it
past : (order other : Ordering) (x y : Ordering) → other ≡ ordering_reverse order → is_eq order ≡ false →
    is_le (ordering_then order x) ≡ true → ordering_then other y ≡ Less → ⊥
past Less other x y turned not le lt = let differ : Greater ≡ Less = ap (λ o. ordering_then o y) (sym turned) ∙ lt in cc
past Equal other x y turned not le lt = cc
past Greater other x y turned not le lt = cc

-- after a key that isn't of a's, and that isn't below a's, comes none of a's
none_of : (a d b : List ℕ) (x y : Ordering) → bytes_eq a d ≡ false → is_le (ordering_then (bytes_cmp a d) x) ≡ true →
    ordering_then (bytes_cmp d b) y ≡ Less → bytes_eq a b ≡ false
none_of a d b x y not le lt =
    elim (bytes_eq a b) as (λ c. bytes_eq a b ≡ c → c ≡ false) [
      | true ↦ λ same.
          let tie = order_at (bytes_cmp a b) (is_eq-slice_cmp a b ∙ same) in
          let turned : bytes_cmp d b ≡ ordering_reverse (bytes_cmp a d) =
          turned_bytes d b ∙ ap ordering_reverse (sym (keys_total.congr (Other a) (Other b) (Other d) tie)) in
          absurd (past (bytes_cmp a d) (bytes_cmp d b) x y turned (is_eq-slice_cmp a d ∙ not) le lt)
      | false ↦ λ differ. refl
    ] refl

beside_later : (start k q : Key) → is_from start k ≡ true → are_beside start k ≡ false → key_cmp k q ≡ Less →
    are_beside start q ≡ false
beside_later (Install a m) (Account d) (Install b n) le not lt = cc
beside_later (Install a m) (Install d j) (Install b n) le not lt =
    none_of a.0 d.0 b.0 (nat_cmp m j) (nat_cmp j n) not le lt
beside_later (Install a m) (Definition h) (Install b n) le not lt = cc
beside_later (Install a m) (State d p r) (Install b n) le not lt = cc
beside_later (Install a m) (Emitted i) (Install b n) le not lt = cc
beside_later (Install a m) (Other bytes) (Install b n) le not lt = cc
beside_later (State a i j) (Account d) (State b s t) le not lt = cc
beside_later (State a i j) (Install d n) (State b s t) le not lt = cc
beside_later (State a i j) (Definition h) (State b s t) le not lt = cc
beside_later (State a i j) (State d p r) (State b s t) le not lt =
    none_of a.0 d.0 b.0 (ordering_then (bytes_cmp i.0 p.0) (bytes_cmp j.0 r.0))
    (ordering_then (bytes_cmp p.0 s.0) (bytes_cmp r.0 t.0)) not le lt
beside_later (State a i j) (Emitted n) (State b s t) le not lt = cc
beside_later (State a i j) (Other bytes) (State b s t) le not lt = cc
beside_later start k q le not lt = refl

pub and_last : (a b : Bool) → b ≡ false → (a && b) ≡ false
and_last true b h = h
and_last false b h = refl

pub but_last : (a b : Bool) → (a && b) ≡ false → a ≡ true → b ≡ false
but_last true b h is = h
but_last false b h is = cc

pub together : (start k q : Key) → is_from start k ≡ true → is_own start k ≡ false → key_cmp k q ≡ Less →
    is_own start q ≡ false
together start k q le not lt =
    and_last (is_from start q) (are_beside start q)
    (beside_later start k q le (but_last (is_from start k) (are_beside start k) not le) lt)

abbrev pub entry_units : Key → Entry → ℕ
entry_units k e = units_in e

by_entries : (start : Key) (es : List (Key × Entry)) →
    total (own_units start) es ≡ total entry_units (passing (is_own start) es)
by_entries start [] = refl
by_entries start (e ∷ es) =
    let rest = by_entries start es in
    elim (is_own start e.0) as (λ b.
    (if b then units_in e.1 else 0) + total (own_units start) es
    ≡ total entry_units (if b then e ∷ passing (is_own start) es else passing (is_own start) es)) [
      | true ↦ omega (arith, rest)
      | false ↦ omega (arith, rest)
    ]

-- the units that are counted so far, and those of the entries from the next one on
pub all_units : (m : Entries) (start : Key) →
    total entry_units (run (is_own start) (passing (is_from start) (entries m))) ≡ sum (own_units start) m
all_units m start =
    ap (total entry_units) (sym (own_in (is_own start) (is_from start) (inside start) (together start) m))
    ∙ sym (sum-total (own_units start) m ∙ by_entries start (entries m))

pub one_unit : (own : Key → Bool) (k : Key) (e : Entry) (es : List (Key × Entry)) → own k ≡ true →
    total entry_units (run own ((k, e) ∷ es)) ≡ units_in e + total entry_units (run own es)
one_unit own k e es is = ap (λ b. total entry_units (if b then (k, e) ∷ run own es else [])) is

pub no_unit : (own : Key → Bool) (k : Key) (e : Entry) (es : List (Key × Entry)) → own k ≡ false →
    total entry_units (run own ((k, e) ∷ es)) ≡ 0
no_unit own k e es not = ap (λ b. total entry_units (if b then (k, e) ∷ run own es else [])) not

plus : (f g : Key → Entry → ℕ) (es : List (Key × Entry)) → total (λ k e. f k e + g k e) es ≡ total f es + total g es
plus f g [] = refl
plus f g (e ∷ es) = let rest = plus f g es in omega (arith, rest)

pub sum_of_both : (f g : Key → Entry → ℕ) (m : Entries) → sum (λ k e. f k e + g k e) m ≡ sum f m + sum g m
sum_of_both f g m =
    let all = sum-total (λ k e. f k e + g k e) m in
    let one = sum-total f m in
    let other = sum-total g m in
    let parts = plus f g (entries m) in
    omega (arith, all, one, other, parts)

by_own : (own : Key → Bool) (p : Entry → Bool) (es : List (Key × Entry)) →
    list_any (λ e. own e.0 && p e.1) es ≡ list_any (λ e. p e.1) (passing own es)
by_own own p [] = refl
by_own own p (e ∷ es) =
    elim (own e.0) as (λ b.
    ((b && p e.1) || list_any (λ x. own x.0 && p x.1) es)
    ≡ list_any (λ x. p x.1) (if b then e ∷ passing own es else passing own es)) [
      | true ↦ ap (λ b. p e.1 || b) (by_own own p es)
      | false ↦ by_own own p es
    ]

-- a test of some entry beside a first key, by a walk from it
pub some_own : (m : Entries) (start : Key) (p : Entry → Bool) →
    list_any (λ e. p e.1) (run (is_own start) (passing (is_from start) (entries m)))
    ≡ list_any (λ e. is_own start e.0 && p e.1) (entries m)
some_own m start p =
    ap (list_any (λ e. p e.1)) (sym (own_in (is_own start) (is_from start) (inside start) (together start) m))
    ∙ sym (by_own (is_own start) p (entries m))

pub one_own : (own : Key → Bool) (p : Entry → Bool) (k : Key) (e : Entry) (es : List (Key × Entry)) → own k ≡ true →
    list_any (λ x. p x.1) (run own ((k, e) ∷ es)) ≡ (p e || list_any (λ x. p x.1) (run own es))
one_own own p k e es is = ap (λ b. list_any (λ x. p x.1) (if b then (k, e) ∷ run own es else [])) is

pub none_own : (own : Key → Bool) (p : Entry → Bool) (k : Key) (e : Entry) (es : List (Key × Entry)) → own k ≡ false →
    list_any (λ x. p x.1) (run own ((k, e) ∷ es)) ≡ false
none_own own p k e es not = ap (λ b. list_any (λ x. p x.1) (if b then (k, e) ∷ run own es else [])) not
