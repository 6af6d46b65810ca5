-- What a map's look-ups say of the list of its entries.
use Rattle.std.proofs.Common.{◌≡◌, ◌∙◌, sym, ap, T, true, false, cond, List, [], ◌∷◌, Some, None, refl}
use Rattle.std.specs.Ordering.{is_lt, is_eq}
use Rattle.std.specs.List.{AllByRecursion}
use Rattle.std.specs.FinMap.{find, is_sorted, get, entries, get-entries, entries_sorted}
use Rattle.hk_state.specs.declared.key.Key.{Key}
use Rattle.hk_state.specs.declared.entry.Entry.{Entry}
use Rattle.hk_state.specs.Keys.{key_cmp, is_key, itself, exact}
use Rattle.hk_state.specs.Entries.{Entries}
use Rattle.hk_state.specs.Sums.{less}
use Rattle.hk_state.proofs.Leasts.{none_below, first, second, below}

-- a key that all keys are above has no entry there
none_at : (k : Key) (es : List (Key × Entry)) → T (below k es) → T (is_sorted key_cmp es) → find key_cmp k es ≡ None
none_at k [] low sorted = refl
none_at k (e ∷ es) low sorted =
    let lower = less (key_cmp k e.0) (first (is_lt (key_cmp k e.0)) (below k es) low) in
    ap (λ order. cond (is_eq order) (Some e.1) (find key_cmp k es)) lower
    ∙ none_below k e.0 es lower (first (below e.0 es) (is_sorted key_cmp es) sorted)

module _ (P : Key → Entry → Type 0) where
  -- what holds of each entry that is found holds of each in the list
  each_found : (es : List (Key × Entry)) → T (is_sorted key_cmp es) →
      ((k : Key) (x : Entry) → find key_cmp k es ≡ Some x → P k x) → AllByRecursion (λ e. P e.0 e.1) es
  each_found [] sorted holds = tt
  each_found (e ∷ es) sorted holds =
      let low = first (below e.0 es) (is_sorted key_cmp es) sorted in
      let rest = second (below e.0 es) (is_sorted key_cmp es) sorted in (
        holds e.0 e.1 (ap (λ b. cond b (Some e.1) (find key_cmp e.0 es)) (itself e.0)),
        each_found es rest (λ k x at. elim (is_key k e.0) as (λ b. is_key k e.0 ≡ b → P k x) [
          | true ↦ λ same.
              let none = ap (λ q. find key_cmp q es) (exact k e.0 same) ∙ none_at e.0 es low rest in
              let differ : Some x ≡ None = sym at ∙ none in cc
          | false ↦ λ other. holds k x (ap (λ b. cond b (Some e.1) (find key_cmp k es)) other ∙ at)
        ] refl),
      )

  pub each_entry : (m : Entries) → ((k : Key) (x : Entry) → get m k ≡ Some x → P k x) →
      AllByRecursion (λ e. P e.0 e.1) (entries m)
  each_entry m holds = each_found (entries m) (entries_sorted m) (λ k x at. holds k x (get-entries m k ∙ at))
