-- A deleted namespace has no entries.
use Rattle.std.proofs.Common.{inl, inr, ◌≡◌, Bool, true, false, cond, ◌||◌, if◌then◌else◌, List, [], ◌∷◌, refl, sym, ap}
use Rattle.std.proofs.Common.{◌∙◌, Option, Some, None}
use Rattle.std.specs.List.{filter_map, cons_option}
use Rattle.std.specs.FinMap.{get, find, entries, get-remove, get-entries}
use Rattle.std.proofs.lemmas.Bool.{or_cases, or_right}
use Rattle.hk_state.specs.declared.entry.Entry.{Entry}
use Rattle.hk_state.specs.declared.key.Key.{Key}
use Rattle.hk_state.specs.declared.key.StateKey.{StateKey}
use Rattle.hk_state.specs.Keys.{key_cmp, is_key, as_key, keys_total, exact, itself}
use Rattle.hk_draft.specs.Draft.{Draft, is_listed, erased}
use Rattle.hk_events.specs.Items.{is_in, key_in, keys_in, all_erased}
use Rattle.hk_events.specs.Laws.{NamespacesEmptied}

cut_at : (b : Bool) (found : Option Entry) → b ≡ true → cond b None found ≡ None
cut_at true found h = refl
cut_at false found h = cc

pub cut_none : (b : Bool) (found : Option Entry) → found ≡ None → cond b None found ≡ None
cut_none true found h = refl
cut_none false found h = h

module _ (q : StateKey) where
  stays_none : (qs : List StateKey) (d : Draft) → get d.entries (as_key q) ≡ None →
      get (all_erased qs d).entries (as_key q) ≡ None
  stays_none [] d h = h
  stays_none (p ∷ qs) d h =
      stays_none qs (erased p d)
      (get-remove keys_total d.entries (as_key p) (as_key q)
      ∙ cut_none (is_key (as_key q) (as_key p)) (get d.entries (as_key q)) h)

  listed_gone : (qs : List StateKey) (d : Draft) → is_listed q qs ≡ true →
      get (all_erased qs d).entries (as_key q) ≡ None
  listed_gone [] d h = cc
  listed_gone (p ∷ qs) d h =
      elim (or_cases (is_key (as_key q) (as_key p)) (is_listed q qs) h)
      as (λ _. get (all_erased (p ∷ qs) d).entries (as_key q) ≡ None) [
        | inl here ↦
            stays_none qs (erased p d)
            (get-remove keys_total d.entries (as_key p) (as_key q)
            ∙ cut_at (is_key (as_key q) (as_key p)) (get d.entries (as_key q)) here)
        | inr later ↦ listed_gone qs (erased p d) later
      ]

  module _ (is : is_in q.owner q.namespace (as_key q) ≡ true) where
    own_key : (k : Key) → is_key (as_key q) k ≡ true → key_in q.owner q.namespace k ≡ Some q
    own_key k same =
        ap (key_in q.owner q.namespace) (sym (exact (as_key q) k same))
        ∙ ap (λ b. if b then Some q else None) is

    more_listed : (o : Option StateKey) (qs : List StateKey) → is_listed q qs ≡ true →
        is_listed q (cons_option o qs) ≡ true
    more_listed None qs h = h
    more_listed (Some p) qs h = or_right (is_key (as_key q) (as_key p)) (is_listed q qs) h

    first_listed : (o : Option StateKey) (qs : List StateKey) → o ≡ Some q → is_listed q (cons_option o qs) ≡ true
    first_listed o qs h = ap (λ p. is_listed q (cons_option p qs)) h ∙ ap (λ b. b || is_listed q qs) (itself (as_key q))

    found_by : (e : Key × Entry) (es : List (Key × Entry)) (x : Entry) (b : Bool) → is_key (as_key q) e.0 ≡ b →
        cond b (Some e.1) (find key_cmp (as_key q) es) ≡ Some x →
        (find key_cmp (as_key q) es ≡ Some x → is_listed q (filter_map (λ f. key_in q.owner q.namespace f.0) es) ≡ true)
        →
        is_listed q (filter_map (λ f. key_in q.owner q.namespace f.0) (e ∷ es)) ≡ true
    found_by e es x true same at later =
        first_listed (key_in q.owner q.namespace e.0) (filter_map (λ f. key_in q.owner q.namespace f.0) es)
        (own_key e.0 same)
    found_by e es x false other at later =
        more_listed (key_in q.owner q.namespace e.0) (filter_map (λ f. key_in q.owner q.namespace f.0) es) (later at)

    found_listed : (es : List (Key × Entry)) (x : Entry) → find key_cmp (as_key q) es ≡ Some x →
        is_listed q (filter_map (λ f. key_in q.owner q.namespace f.0) es) ≡ true
    found_listed [] x at = cc
    found_listed (e ∷ es) x at = found_by e es x (is_key (as_key q) e.0) refl at (found_listed es x)

    gone_by : (d : Draft) (found : Option Entry) → get d.entries (as_key q) ≡ found →
        get (all_erased (keys_in q.owner q.namespace d.entries) d).entries (as_key q) ≡ None
    gone_by d None at = stays_none (keys_in q.owner q.namespace d.entries) d at
    gone_by d (Some x) at =
        listed_gone (keys_in q.owner q.namespace d.entries) d
        (found_listed (entries d.entries) x (sym (get-entries d.entries (as_key q)) ∙ at))

pub emptied_law : NamespacesEmptied
emptied_law e position q d is = gone_by q is d (get d.entries (as_key q)) refl
