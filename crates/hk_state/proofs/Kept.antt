-- The maps that the entries of a `BTreeMap` and of an `IndexMap` make, and what their calls do to them.
use Rattle.std.proofs.Common.{◌≡◌, ◌∙◌, ℕ, ◌==◌, arith, sym, ap, refl, List, [], ◌∷◌, Bool, cond, ◌&&◌, Some, None}
use Rattle.std.specs.declared.cmp.Ordering.{Ordering}
use Rattle.std.specs.declared.cmp.Ordering.TheVariants.{Less, Equal, Greater}
use Rattle.std.specs.Ordering.{nat_cmp, is_eq, ordering_then}
use Rattle.std.specs.Map.{lookup}
use Rattle.std.specs.BTreeMap.{is_at}
use Rattle.std.specs.FinMap.{get, insert, remove, from_entries, find, same_map, get-insert, get-remove}
use Rattle.std.specs.FinMap.{get-from_entries}
use Rattle.std.specs.Cmp.{eq_by_cmp_equiv}
use Rattle.std.proofs.lemmas.Map.Text.{is_eq-slice_cmp}
use Rattle.std.proofs.lemmas.Bool.Decides.{nat_tests}
use Rattle.hk_state.specs.declared.key.Key.{Key}
use Rattle.hk_state.specs.declared.key.Key.TheVariants.{Account, Install, Definition, State, Emitted, Other}
use Rattle.hk_state.specs.contracts.key.KeyOrd.TheImpl.{cmp-value}
use Rattle.hk_state.specs.contracts.key.KeyPartialEq.TheImpl.{eq-value}
use Rattle.hk_state.specs.Keys.{key_cmp, is_key, keys_total, exact_keys, bytes_cmp}

pub derived : (a b : Key) → cmp-value.it a b ≡ key_cmp a b
derived (Account a) (Account b) = refl
derived (Install a m) (Install b n) = refl
derived (Definition a) (Definition b) = refl
derived (State a m j) (State b n k) = refl
derived (Emitted m) (Emitted n) = refl
derived (Other a) (Other b) = refl
derived a b = refl

both : (first second : Ordering) → is_eq (ordering_then first second) ≡ (is_eq first && is_eq second)
both Less second = refl
both Equal second = refl
both Greater second = refl

-- the other way round
pub flipped : (a b : Key) → is_key a b ≡ is_key b a
flipped a b = (eq_by_cmp_equiv keys_total).symm a b

-- as a tree's look-ups compare keys
abbrev pub at : Key → Key → Bool
at k q = is_at (cmp-value.it k) q

pub ordered : (k q : Key) → at k q ≡ is_key k q
ordered k q = ap is_eq (derived k q)

numbers_alike : (m n : ℕ) → is_eq (nat_cmp m n) ≡ (m == n)
numbers_alike m n = grind (arith, nat_tests)

pub alike : (a b : Key) → eq-value.it a b ≡ is_key a b
alike (Account a) (Account b) = sym (is_eq-slice_cmp a.0 b.0)
alike (Install a m) (Install b n) =
    sym (both (bytes_cmp a.0 b.0) (nat_cmp m n) ∙ (λ i. is_eq-slice_cmp a.0 b.0 i && numbers_alike m n i))
alike (Definition a) (Definition b) = sym (is_eq-slice_cmp a.0 b.0)
alike (State a m j) (State b n k) =
    sym (both (bytes_cmp a.0 b.0) (ordering_then (bytes_cmp m.0 n.0) (bytes_cmp j.0 k.0))
    ∙ ap (λ rest. is_eq (bytes_cmp a.0 b.0) && rest) (both (bytes_cmp m.0 n.0) (bytes_cmp j.0 k.0))
    ∙ (λ i. is_eq-slice_cmp a.0 b.0 i && (is_eq-slice_cmp m.0 n.0 i && is_eq-slice_cmp j.0 k.0 i)))
alike (Emitted m) (Emitted n) = sym (numbers_alike m n)
alike (Other a) (Other b) = sym (is_eq-slice_cmp a b)
alike a b = refl

module _ {X : Type 0} (test : Key → Key → Bool) (agrees : (a b : Key) → test a b ≡ is_key a b) where
  pub find_kept : (es : List (Key × X)) (q : Key) → find key_cmp q es ≡ lookup (test q) es
  find_kept [] q = refl
  find_kept (e ∷ es) q = (λ i. cond (sym (agrees q e.0) i) (Some e.1) (find_kept es q i))

  pub get_kept : (es : List (Key × X)) (q : Key) → get (from_entries {R = key_cmp} es) q ≡ lookup (test q) es
  get_kept es q = get-from_entries keys_total es q ∙ find_kept es q

  pub put_kept : (es fs : List (Key × X)) (k : Key) (v : X) →
      ((q : Key) → lookup (test q) fs ≡ cond (test k q) (Some v) (lookup (test q) es)) →
      from_entries {R = key_cmp} fs ≡ insert (from_entries es) k v
  put_kept es fs k v h = same_map keys_total exact_keys _ _ (λ q.
      get_kept fs q ∙ h q ∙ ap (λ b. cond b (Some v) (lookup (test q) es)) (agrees k q ∙ flipped k q)
      ∙ sym (get-insert keys_total (from_entries es) k v q ∙ ap (cond (is_key q k) (Some v)) (get_kept es q)))

  pub cut_kept : (es fs : List (Key × X)) (k : Key) →
      ((q : Key) → lookup (test q) fs ≡ cond (test k q) None (lookup (test q) es)) →
      from_entries {R = key_cmp} fs ≡ remove (from_entries es) k
  cut_kept es fs k h = same_map keys_total exact_keys _ _ (λ q.
      get_kept fs q ∙ h q ∙ ap (λ b. cond b None (lookup (test q) es)) (agrees k q ∙ flipped k q)
      ∙ sym (get-remove keys_total (from_entries es) k q ∙ ap (cond (is_key q k) None) (get_kept es q)))

  pub same_kept : (es fs : List (Key × X)) → ((q : Key) → lookup (test q) fs ≡ lookup (test q) es) →
      from_entries {R = key_cmp} fs ≡ from_entries es
  same_kept es fs h = same_map keys_total exact_keys _ _ (λ q. get_kept fs q ∙ h q ∙ sym (get_kept es q))
