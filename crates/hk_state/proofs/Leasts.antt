-- Least entries, of a tree's range and of writes.
use Rattle.std.proofs.Common.{◌≡◌, ◌∙◌, sym, ap, subst, refl, T, Bool, true, false, cond, ◌&&◌, ◌||◌, if◌then◌else◌}
use Rattle.std.proofs.Common.{filter, List, [], ◌∷◌, Option, Some, None, is_some}
use Rattle.std.specs.List.{list_any, list_all}
use Rattle.std.specs.declared.cmp.Ordering.{Ordering}
use Rattle.std.specs.declared.cmp.Ordering.TheVariants.{Less, Equal, Greater}
use Rattle.std.specs.Ordering.{is_lt, is_eq, ordering_reverse}
use Rattle.std.specs.Option.{option_map}
use Rattle.std.specs.declared.ops.Bound.{Bound}
use Rattle.std.specs.declared.ops.Bound.TheVariants.{Unbounded}
use Rattle.std.specs.BTreeMap.Range.{entries_between, is_from_start}
use Rattle.std.specs.Map.Iter.{TakesFirst}
use Rattle.std.proofs.lemmas.Map.Iter.{rest_more, rest_all}
use Rattle.std.specs.FinMap.{get, find, is_sorted, from_entries, get-from_entries}
use Rattle.hk_state.specs.declared.key.Key.{Key}
use Rattle.hk_state.specs.declared.entry.Entry.{Entry}
use Rattle.hk_state.specs.Keys.{key_cmp, is_key, keys_total, itself, exact}
use Rattle.hk_state.specs.Entries.{Entries, with_all, change_or, get-with_all}
use Rattle.hk_state.specs.Least.{IsLeast, LeastOf, Least}
use Rattle.hk_state.specs.contracts.key.KeyOrd.TheImpl.{cmp-value}
use Rattle.hk_state.proofs.Kept.{derived}
use Rattle.hk_state.specs.LeastWrites.{unless_changed, put_of, lesser, with_put}
use Rattle.hk_state.specs.Sums.{less}

abbrev pub below : {X : Type 0} → Key → List (Key × X) → Bool
below k [] = true
below k (e ∷ es) = is_lt (key_cmp k e.0) && below k es

pub first : (a b : Bool) → T (a && b) → T a
first true b h = tt
first false b h = absurd h

pub second : (a b : Bool) → T (a && b) → T b
second true b h = h
second false b h = absurd h

both : (a b : Bool) → T a → T b → T (a && b)
both true b p q = q
both false b p q = absurd p

-- a key below all others isn't among them
pub none_below : {X : Type 0} (q k : Key) (es : List (Key × X)) → key_cmp q k ≡ Less → T (below k es) →
    find key_cmp q es ≡ None
none_below q k [] lt h = refl
none_below q k (e ∷ es) lt h =
    let further : key_cmp q e.0 ≡ Less = keys_total.trans q k e.0 lt (less (key_cmp k e.0) (first _ _ h)) in
    ap (λ order. cond (is_eq order) (Some e.1) (find key_cmp q es)) further
    ∙ none_below q k es lt (second (is_lt (key_cmp k e.0)) _ h)

module _ {X : Type 0} (p : Key → Bool) where
  abbrev passing : List (Key × X) → List (Key × X)
  passing es = filter (λ e. p e.0 && true) es

  below_passing : (k : Key) (es : List (Key × X)) → T (below k es) → T (below k (passing es))
  below_passing k [] h = tt
  below_passing k (e ∷ es) h =
      elim (p e.0) as (λ b. T (below k (if b && true then e ∷ passing es else passing es))) [
        | true ↦
            both (is_lt (key_cmp k e.0)) (below k (passing es)) (first (is_lt (key_cmp k e.0)) _ h)
            (below_passing k es (second (is_lt (key_cmp k e.0)) _ h))
        | false ↦ below_passing k es (second (is_lt (key_cmp k e.0)) _ h)
      ]

  sorted_passing : (es : List (Key × X)) → T (is_sorted key_cmp es) → T (is_sorted key_cmp (passing es))
  sorted_passing [] h = tt
  sorted_passing (e ∷ es) h =
      elim (p e.0) as (λ b. T (is_sorted key_cmp (if b && true then e ∷ passing es else passing es))) [
        | true ↦
            both (below e.0 (passing es)) (is_sorted key_cmp (passing es))
            (below_passing e.0 es (first (below e.0 es) _ h)) (sorted_passing es (second (below e.0 es) _ h))
        | false ↦ sorted_passing es (second (below e.0 es) _ h)
      ]

  all_passing : (es : List (Key × X)) → list_all (λ e. p e.0) (passing es) ≡ true
  all_passing [] = refl
  all_passing (e ∷ es) =
      elim (p e.0)
      as (λ b. p e.0 ≡ b → list_all (λ x. p x.0) (if b && true then e ∷ passing es else passing es) ≡ true) [
        | true ↦ λ is. ap (λ b. b && list_all (λ x. p x.0) (passing es)) is ∙ all_passing es
        | false ↦ λ is. all_passing es
      ] refl

  find_passing : (q : Key) (es : List (Key × X)) → p q ≡ true → find key_cmp q es ≡ find key_cmp q (passing es)
  find_passing q [] h = refl
  find_passing q (e ∷ es) h =
      elim (p e.0) as (λ b.
      p e.0 ≡ b →
      cond (is_key q e.0) (Some e.1) (find key_cmp q es)
      ≡ find key_cmp q (if b && true then e ∷ passing es else passing es)) [
        | true ↦ λ is. ap (cond (is_key q e.0) (Some e.1)) (find_passing q es h)
        | false ↦
            λ is.
            elim (is_key q e.0)
            as (λ b. is_key q e.0 ≡ b → cond b (Some e.1) (find key_cmp q es) ≡ find key_cmp q (passing es)) [
              | true ↦ λ same. let fails : p q ≡ false = ap p (exact q e.0 same) ∙ is in cc
              | false ↦ λ other. find_passing q es h
            ] refl
      ] refl

-- a walk over a range, which has passed entries that are changed, and has the rest before it
module _ (m : Entries) (changes : List (Key × Option Entry)) (test : Key → Bool) where
  pub record IsLeft (rest : List (Key × Entry)) : Type 0 where
    pub sorted : T (is_sorted key_cmp rest)
    pub passes : list_all (λ e. test e.0) rest ≡ true
    pub given : (q : Key) → test q ≡ true → find key_cmp q changes ≡ None → get m q ≡ find key_cmp q rest

  pub all_left : (es rest : List (Key × Entry)) → T (is_sorted key_cmp es) → from_entries es ≡ m →
      rest ≡ filter (λ e. test e.0 && true) es → IsLeft rest
  all_left es rest sorted view range =
      subst IsLeft (sym range) (record {
        sorted = sorted_passing test es sorted;
        passes = all_passing test es;
        given = λ q h none. ap (λ n. get n q) (sym view) ∙ get-from_entries keys_total es q ∙ find_passing test q es h;
      })

  and_true : (a b : Bool) → (a && b) ≡ true → (a ≡ true) × (b ≡ true)
  and_true true b h = (refl, h)
  and_true false b h = cc

  -- a changed entry is passed
  pub one_left : (rest more : List (Key × Entry)) (k : Key) (e : Entry) → rest ≡ (k, e) ∷ more →
      is_some (find key_cmp k changes) ≡ true → IsLeft rest → IsLeft more
  one_left rest more k e left changed is =
      let here = subst IsLeft left is in
      record {
        sorted = second (below k more) (is_sorted key_cmp more) here.sorted;
        passes = (and_true (test k) (list_all (λ x. test x.0) more) here.passes).1;
        given =
            λ q h none.
            here.given q h none
            ∙ elim (is_key q k) as (λ b. is_key q k ≡ b → cond b (Some e) (find key_cmp q more) ≡ find key_cmp q more) [
              | true ↦
                  λ same.
                  let fails : is_some (find key_cmp k changes) ≡ false =
                  ap is_some (ap (λ x. find key_cmp x changes) (sym (exact q k same)) ∙ none) in
                  cc
              | false ↦ λ other. refl
            ] refl;
      }

  by_change : (look : Option Entry) (q : Key) → (find key_cmp q changes ≡ None → look ≡ None) →
      unless_changed (find key_cmp q changes) look ≡ None
  by_change look q h =
      elim (find key_cmp q changes) as (λ found. find key_cmp q changes ≡ found → unless_changed found look ≡ None) [
        | None ↦ h
        | Some change ↦ λ is. refl
      ] refl

  -- an entry that isn't changed is the least
  pub least_left : (rest more : List (Key × Entry)) (k : Key) (e : Entry) → rest ≡ (k, e) ∷ more →
      find key_cmp k changes ≡ None → IsLeft rest →
      IsLeast (λ q. unless_changed (find key_cmp q changes) (get m q)) test k e
  least_left rest more k e left unchanged is =
      let here = subst IsLeft left is in
      let passes = (and_true (test k) (list_all (λ x. test x.0) more) here.passes).0 in
      record {
        there =
            ap (λ found. unless_changed found (get m k)) unchanged
            ∙ here.given k passes unchanged
            ∙ ap (λ b. cond b (Some e) (find key_cmp k more)) (itself k);
        passes = passes;
        none_before =
            λ q h lt.
            by_change (get m q) q
            (λ none. here.given q h none ∙ ap (λ order. cond (is_eq order) (Some e) (find key_cmp q more)) lt
            ∙ none_below q k more lt (first (below k more) (is_sorted key_cmp more) here.sorted));
      }

  pub none_left : (rest : List (Key × Entry)) → rest ≡ [] → IsLeft rest →
      LeastOf (λ q. unless_changed (find key_cmp q changes) (get m q)) test None
  none_left rest none is q h = by_change (get m q) q (λ unchanged. is.given q h unchanged ∙ ap (find key_cmp q) none)

-- the order behind a test that fails
before_both : (q k p : Key) → is_lt (key_cmp p k) ≡ false → key_cmp q k ≡ Less → key_cmp q p ≡ Less
before_both q k p fails lt =
    elim (key_cmp p k) as (λ order. key_cmp p k ≡ order → is_lt order ≡ false → key_cmp q p ≡ Less) [
      | Less ↦ λ is bad. cc
      | Equal ↦ λ is h. ap (key_cmp q) (exact p k (ap is_eq is)) ∙ lt
      | Greater ↦ λ is h. keys_total.trans q k p lt (keys_total.antisymm k p ∙ ap ordering_reverse is)
    ] refl fails

pub at_less : (order : Ordering) → is_lt order ≡ true → order ≡ Less
at_less Less h = refl
at_less Equal h = cc
at_less Greater h = cc

-- the lesser of two least ones, of look-ups that together are a third
module _ (one other look : Key → Option Entry) (test : Key → Bool)
    (neither : (q : Key) → one q ≡ None → other q ≡ None → look q ≡ None)
    (by_one : (q : Key) (e : Entry) → one q ≡ Some e → look q ≡ Some e)
    (by_other : (q : Key) (e : Entry) → other q ≡ Some e → look q ≡ Some e) where
  pub least_of_both : (a b : Option (Key × Entry)) → LeastOf one test a → LeastOf other test b →
      LeastOf look test (lesser a b)
  least_of_both None None l r = λ q h. neither q (l q h) (r q h)
  least_of_both None (Some b) l r = record {
    there = by_other b.0 b.1 r.there;
    passes = r.passes;
    none_before = λ q h lt. neither q (l q h) (r.none_before q h lt);
  }
  least_of_both (Some a) None l r = record {
    there = by_one a.0 a.1 l.there;
    passes = l.passes;
    none_before = λ q h lt. neither q (l.none_before q h lt) (r q h);
  }
  least_of_both (Some a) (Some b) l r =
      elim (is_lt (key_cmp b.0 a.0))
      as (λ c. is_lt (key_cmp b.0 a.0) ≡ c → LeastOf look test (if c then Some b else Some a)) [
        | true ↦
            λ is.
            record {
              there = by_other b.0 b.1 r.there;
              passes = r.passes;
              none_before =
                  λ q h lt.
                  neither q (l.none_before q h (keys_total.trans q b.0 a.0 lt (at_less _ is))) (r.none_before q h lt);
            }
        | false ↦
            λ fails.
            record {
              there = by_one a.0 a.1 l.there;
              passes = l.passes;
              none_before =
                  λ q h lt. neither q (l.none_before q h lt) (r.none_before q h (before_both q a.0 b.0 fails lt));
            }
      ] refl

no_change : (c : Option (Option Entry)) (old : Option Entry) → unless_changed c old ≡ None → put_of c ≡ None →
    change_or c old ≡ None
no_change None old kept put = kept
no_change (Some change) old kept put = put

kept_change : (c : Option (Option Entry)) (old : Option Entry) (e : Entry) → unless_changed c old ≡ Some e →
    change_or c old ≡ Some e
kept_change None old e is = is
kept_change (Some change) old e is = cc

put_change : (c : Option (Option Entry)) (old : Option Entry) (e : Entry) → put_of c ≡ Some e →
    change_or c old ≡ Some e
put_change None old e is = cc
put_change (Some change) old e is = is

-- of entries that no write changes and of those that writes put
pub least_written : (m : Entries) (changes : List (Key × Option Entry)) (test : Key → Bool) (a b : Option (Key × Entry))
    →
    LeastOf (λ q. unless_changed (find key_cmp q changes) (get m q)) test a →
    LeastOf (λ q. put_of (find key_cmp q changes)) test b → Least (with_all m changes) test (lesser a b)
least_written m changes test a b l r =
    subst (λ look. LeastOf look test (lesser a b)) (λ i q. sym (get-with_all m changes q) i)
    (least_of_both (λ q. unless_changed (find key_cmp q changes) (get m q)) (λ q. put_of (find key_cmp q changes))
    (λ q. change_or (find key_cmp q changes) (get m q)) test
    (λ q. no_change (find key_cmp q changes) (get m q)) (λ q. kept_change (find key_cmp q changes) (get m q))
    (λ q. put_change (find key_cmp q changes) (get m q)) a b l r)

-- a walk over writes, which has found the least of those before the rest
module _ (look : Key → Option Entry) (test : Key → Bool) where
  abbrev among : Key → List (Key × Option Entry) → Bool
  among q rest = list_any (λ w. is_key q w.0) rest

  pub record LeastSo (rest : List (Key × Option Entry)) (key : Key) (entry : Entry) : Type 0 where
    pub there : look key ≡ Some entry
    pub passes : test key ≡ true
    pub none_before : (q : Key) → test q ≡ true → among q rest ≡ false → key_cmp q key ≡ Less → look q ≡ None

  abbrev pub LeastBut : List (Key × Option Entry) → Option (Key × Entry) → Type 0
  LeastBut rest None = (q : Key) → test q ≡ true → among q rest ≡ false → look q ≡ None
  LeastBut rest (Some found) = LeastSo rest found.0 found.1

  pub none_so_far : (rest : List (Key × Option Entry)) → ((q : Key) → among q rest ≡ false → look q ≡ None) →
      LeastBut rest None
  none_so_far rest h q passes none = h q none

  pub all_so_far : (rest : List (Key × Option Entry)) (found : Option (Key × Entry)) → rest ≡ [] →
      LeastBut rest found → LeastOf look test found
  all_so_far rest None none is = λ q h. is q h (ap (among q) none)
  all_so_far rest (Some found) none is = record {
    there = is.there;
    passes = is.passes;
    none_before = λ q h lt. is.none_before q h (ap (among q) none) lt;
  }

  neither : (a b : Bool) → a ≡ false → b ≡ false → (a || b) ≡ false
  neither true b h i = cc
  neither false b h i = i

  module _ (rest more : List (Key × Option Entry)) (k : Key) (c : Option Entry) (left : rest ≡ (k, c) ∷ more)
      (at : look k ≡ c) where
    apart : (q : Key) → is_key q k ≡ false → among q more ≡ false → among q rest ≡ false
    apart q other none = ap (among q) left ∙ neither (is_key q k) (among q more) other none

    -- either a key is this one, or it was before the rest
    by_key : (q : Key) (P : Type 0) → among q more ≡ false → (q ≡ k → P) →
        (is_key q k ≡ false → among q rest ≡ false → P) → P
    by_key q P none here before =
        elim (is_key q k) as (λ b. is_key q k ≡ b → P) [
          | true ↦ λ is. here (exact q k is)
          | false ↦ λ fails. before fails (apart q fails none)
        ] refl

    -- nothing new is found
    kept_so_far : (found : Option (Key × Entry)) → ((q : Key) → q ≡ k → test q ≡ true → look q ≡ None) →
        LeastBut rest found → LeastBut more found
    kept_so_far None new is =
        λ q h none. by_key q (look q ≡ None) none (λ same. new q same h) (λ fails before. is q h before)
    kept_so_far (Some found) new is = record {
      there = is.there;
      passes = is.passes;
      none_before =
          λ q h none lt.
          by_key q (look q ≡ None) none (λ same. new q same h) (λ fails before. is.none_before q h before lt);
    }

    itself_not : (q : Key) → key_cmp q k ≡ Less → q ≡ k → look q ≡ None
    itself_not q lt same =
        let tie : is_key q k ≡ true = ap (is_key q) (sym same) ∙ itself q in
        let fails : is_key q k ≡ false = ap is_eq lt in
        cc

    put_so_far : (e : Entry) (found : Option (Key × Entry)) → c ≡ Some e → test k ≡ true → LeastBut rest found →
        LeastBut more (lesser found (Some (k, e)))
    put_so_far e None is passes before = record {
      there = at ∙ is;
      passes = passes;
      none_before =
          λ q h none lt. by_key q (look q ≡ None) none (itself_not q lt) (λ fails earlier. before q h earlier);
    }
    put_so_far e (Some found) is passes before =
        elim (is_lt (key_cmp k found.0))
        as (λ b. is_lt (key_cmp k found.0) ≡ b → LeastBut more (if b then Some (k, e) else Some found)) [
          | true ↦ λ lower. record {
            there = at ∙ is;
            passes = passes;
            none_before =
                λ q h none lt.
                by_key q (look q ≡ None) none (itself_not q lt)
                (λ fails earlier. before.none_before q h earlier (keys_total.trans q k found.0 lt (at_less _ lower)));
          }
          | false ↦ λ higher. record {
            there = before.there;
            passes = before.passes;
            none_before =
                λ q h none lt.
                by_key q (look q ≡ None) none (λ same.
                let fails : is_lt (key_cmp q found.0) ≡ false = ap (λ x. is_lt (key_cmp x found.0)) same ∙ higher in
                let holds : is_lt (key_cmp q found.0) ≡ true = ap is_lt lt in
                cc) (λ fails earlier. before.none_before q h earlier lt);
          }
        ] refl

    pub one_so_far : (found : Option (Key × Entry)) → LeastBut rest found → LeastBut more (with_put test found k c)
    one_so_far found is = by c refl
      where
        by : (change : Option Entry) → c ≡ change → LeastBut more (with_put test found k change)
        by None none = kept_so_far found (λ q same h. ap look same ∙ at ∙ none) is
        by (Some e) some =
            elim (test k) as (λ b. test k ≡ b → LeastBut more (if b then lesser found (Some (k, e)) else found)) [
              | true ↦ λ passes. put_so_far e found some passes is
              | false ↦
                  λ fails. kept_so_far found (λ q same h. let fails : test q ≡ false = ap test same ∙ fails in cc) is
            ] refl

-- what a range of a tree answers first
pub least_first : {A : Type 0} (m : Entries) (test : Key → Bool) (shows : A → Key × Entry)
    (rest more : List (Key × Entry)) (r : Option A) →
    TakesFirst shows rest r more → IsLeft m [] test rest → Least m test (option_map shows r)
least_first m test shows rest more r takes is =
    elim r as (λ found. r ≡ found → Least m test (option_map shows found)) [
      | None ↦ λ none. none_left m [] test rest (rest_all shows rest more r none takes) is
      | Some x ↦
          λ some.
          least_left m [] test rest more (shows x).0 (shows x).1 (rest_more shows rest more r x some takes) refl is
    ] refl

-- a range of a tree from a bound on
pub in_range : (m : Entries) (changes : List (Key × Option Entry)) (start : Bound Key) (es rest : List (Key × Entry)) →
    T (is_sorted key_cmp es) → from_entries es ≡ m → rest ≡ entries_between cmp-value.it start Unbounded es →
    IsLeft m changes (is_from_start key_cmp start) rest
in_range m changes start es rest sorted view range =
    all_left m changes (is_from_start key_cmp start) es rest sorted view
    (range ∙ (λ i. entries_between (λ a b. derived a b i) start Unbounded es))

pub nothing_put : (q : Key) (ws : List (Key × Option Entry)) → list_any (λ w. is_key q w.0) ws ≡ false →
    put_of (find key_cmp q ws) ≡ None
nothing_put q [] h = refl
nothing_put q (w ∷ ws) h =
    elim (is_key q w.0)
    as (λ b. (b || list_any (λ x. is_key q x.0) ws) ≡ false → put_of (cond b (Some w.1) (find key_cmp q ws)) ≡ None) [
      | true ↦ λ bad. cc
      | false ↦ λ none. nothing_put q ws none
    ] h
