-- The entries of a `BTreeMap` are in the order of keys.
use Rattle.std.proofs.Common.{◌≡◌, ◌∙◌, sym, subst, T, Bool, true, false, ◌&&◌, List, [], ◌∷◌}
use Rattle.std.specs.Ordering.{is_lt}
use Rattle.std.specs.Map.{keys_of}
use Rattle.std.specs.List.{AllByRecursion}
use Rattle.std.specs.List.Sorted.{IsStrictlySortedBy}
use Rattle.std.proofs.lemmas.Map.Keys.{sorted_head, sorted_tail}
use Rattle.std.specs.declared.cmp.Ordering.TheVariants.{Less}
use Rattle.std.specs.FinMap.{is_sorted}
use Rattle.hk_state.specs.declared.key.Key.{Key}
use Rattle.hk_state.specs.contracts.key.KeyOrd.TheImpl.{cmp-value}
use Rattle.hk_state.specs.Keys.{key_cmp}
use Rattle.hk_state.proofs.Kept.{derived}

both : (a b : Bool) → T a → T b → T (a && b)
both true b p q = q
both false b p q = absurd p

module _ {X : Type 0} where
  abbrev below : Key → List (Key × X) → Bool
  below k [] = true
  below k (e ∷ es) = is_lt (key_cmp k e.0) && below k es

  all_below : (k : Key) (es : List (Key × X)) → AllByRecursion (λ y. cmp-value.it k y ≡ Less) (keys_of es) →
      T (below k es)
  all_below k [] h = tt
  all_below k (e ∷ es) h =
      both (is_lt (key_cmp k e.0)) (below k es) (subst (λ order. T (is_lt order)) (sym h.0 ∙ derived k e.0) tt)
      (all_below k es h.1)

  pub in_order : (es : List (Key × X)) → IsStrictlySortedBy cmp-value.it (keys_of es) → T (is_sorted key_cmp es)
  in_order [] h = tt
  in_order (e ∷ es) h =
      both (below e.0 es) (is_sorted key_cmp es) (all_below e.0 es (sorted_head cmp-value.it e.0 (keys_of es) h))
      (in_order es (sorted_tail cmp-value.it e.0 (keys_of es) h))
