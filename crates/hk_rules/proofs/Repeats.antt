-- Names of exports that were met before.
use Rattle.std.proofs.Common.{ℕ, ◌≡◌, ◌+◌, ◌<◌, ◌≤◌, ◌||◌, not, suc, List, [], ◌∷◌, ◌++◌, ◌∙◌, Bool, true, false, refl}
use Rattle.std.proofs.Common.{sym, ap, ap₂, length, get_or, take, drop, drop-cons, take-add, take-append-drop, take_all}
use Rattle.std.proofs.Common.{arith}
use Rattle.std.specs.Borrow.{Bor}
use Rattle.std.specs.List.{list_any}
use Rattle.std.specs.Str.{bytes_eq}
use Rattle.std.specs.Ordering.{is_eq, match_ordering, nat_cmp}
use Rattle.std.specs.Cmp.Lexicographic.{slice_cmp}
use Rattle.std.specs.declared.cmp.Ordering.{Ordering}
use Rattle.std.specs.declared.cmp.Ordering.TheVariants.{Less, Equal, Greater}
use Rattle.std.specs.BTreeSet.{insert_key}
use Rattle.std.proofs.lemmas.Bool.Decides.{Decides-like, same_from_decides}
use Rattle.std.proofs.lemmas.List.Folds.{list_any-append}
use Rattle.std.proofs.lemmas.Map.Lookups.{exact_bytes}
use Rattle.std.proofs.lemmas.Map.Text.{is_eq-slice_cmp}
use Rattle.std.proofs.lemmas.Slice.Eq.{bytes_eq-Decides}
use Rattle.wa_ops.specs.declared.modules.ModuleExport.{ModuleExport}
use Rattle.wa_ops.specs.HookRules.{has_repeats}

bytes_flip : (xs ys : List ℕ) → bytes_eq xs ys ≡ bytes_eq ys xs
bytes_flip xs ys =
    same_from_decides (bytes_eq xs ys) (bytes_eq ys xs) (bytes_eq-Decides xs ys)
    (Decides-like (bytes_eq ys xs) (λ e. sym e) (λ e. sym e) (bytes_eq-Decides ys xs))

-- an export before has this name
abbrev pub has_name : List ℕ → List ModuleExport → Bool
has_name name exports = list_any (λ export. bytes_eq export.name name) exports

-- a name that was met
abbrev pub is_met : List ℕ → List (Bor (List ℕ)) → Bool
is_met name keys = list_any (λ key. bytes_eq key.now name) keys

or_again : (a b : Bool) → (a || b) ≡ (a || (a || b))
or_again true b = refl
or_again false b = refl

or_swap : (a b c : Bool) → (a || (b || c)) ≡ (b || (a || c))
or_swap true true c = refl
or_swap true false c = refl
or_swap false true c = refl
or_swap false false c = refl

or_join : (a b c d : Bool) → ((a || b) || (c || d)) ≡ ((a || c) || (b || d))
or_join true b c d = refl
or_join false true true d = refl
or_join false true false d = refl
or_join false false c d = refl

abbrev by_bytes : Bor (List ℕ) → Bor (List ℕ) → Ordering
by_bytes x y = slice_cmp nat_cmp x.now y.now

-- one name more
met_more : (name : List ℕ) (key : Bor (List ℕ)) (keys : List (Bor (List ℕ))) →
    is_met name (insert_key by_bytes keys key) ≡ (bytes_eq key.now name || is_met name keys)
met_more name key [] = refl
met_more name key (x ∷ xs) = at (met_more name key xs) (by_bytes key x) refl
  where
    at : is_met name (insert_key by_bytes xs key) ≡ (bytes_eq key.now name || is_met name xs) → (o : Ordering) →
        by_bytes key x ≡ o
        → is_met name (match_ordering o (key ∷ x ∷ xs) (x ∷ xs) (x ∷ insert_key by_bytes xs key))
        ≡ (bytes_eq key.now name || (bytes_eq x.now name || is_met name xs))
    at more Less e = refl
    at more Equal e =
        let same : key.now ≡ x.now = exact_bytes key.now x.now e in
        or_again (bytes_eq x.now name) (is_met name xs)
        ∙ ap (λ n. bytes_eq n name || (bytes_eq x.now name || is_met name xs)) (sym same)
    at more Greater e =
        ap (λ b. bytes_eq x.now name || b) more ∙ or_swap (bytes_eq x.now name) (bytes_eq key.now name) (is_met name xs)

pub contains_met : (key : Bor (List ℕ)) (keys : List (Bor (List ℕ))) →
    list_any (λ k. is_eq (by_bytes key k)) keys ≡ is_met key.now keys
contains_met key [] = refl
contains_met key (x ∷ xs) =
    ap₂ (λ a b. a || b) (is_eq-slice_cmp key.now x.now ∙ bytes_flip key.now x.now) (contains_met key xs)

-- one export more repeats a name where it has one that was met
repeats_push : (front : List ModuleExport) (x : ModuleExport) →
    has_repeats (front ++ x ∷ []) ≡ (has_repeats front || has_name x.name front)
repeats_push [] x = refl
repeats_push (y ∷ ys) x =
    ap₂ (λ a b. a || b) (list_any-append (λ other. bytes_eq y.name other.name) ys (x ∷ [])) (repeats_push ys x)
    ∙ at (list_any (λ other. bytes_eq y.name other.name) ys) (bytes_eq y.name x.name) (has_repeats ys)
    (has_name x.name ys)
  where
    at : (a b c d : Bool) → ((a || (b || false)) || (c || d)) ≡ ((a || c) || (b || d))
    at true b c d = refl
    at false true true d = refl
    at false true false d = refl
    at false false c d = refl

or_true : (b : Bool) → (b || true) ≡ true
or_true true = refl
or_true false = refl

repeats_front : (front back : List ModuleExport) → has_repeats front ≡ true → has_repeats (front ++ back) ≡ true
repeats_front [] back e = absurd (cc e)
repeats_front (y ∷ ys) back e = at (repeats_front ys back) (list_any (λ other. bytes_eq y.name other.name) ys) refl e
  where
    at : (has_repeats ys ≡ true → has_repeats (ys ++ back) ≡ true) → (b : Bool) →
        list_any (λ other. bytes_eq y.name other.name) ys ≡ b → (b || has_repeats ys) ≡ true
        → (list_any (λ other. bytes_eq y.name other.name) (ys ++ back) || has_repeats (ys ++ back)) ≡ true
    at more true h k =
        ap (λ b. b || has_repeats (ys ++ back))
        (list_any-append (λ other. bytes_eq y.name other.name) ys back
        ∙ ap (λ b. b || list_any (λ other. bytes_eq y.name other.name) back) h)
    at more false h k =
        ap (λ b. list_any (λ other. bytes_eq y.name other.name) (ys ++ back) || b) (more k)
        ∙ or_true (list_any (λ other. bytes_eq y.name other.name) (ys ++ back))

-- the names of the exports so far were met, each once
pub record Met (exports : List ModuleExport) (place : ℕ) (keys : List (Bor (List ℕ))) : Type 0 where
  pub names : (name : List ℕ) → is_met name keys ≡ has_name name (take place exports)
  pub once : has_repeats (take place exports) ≡ false

pub none_met : (exports : List ModuleExport) → Met exports 0 []
none_met exports = record { names = λ name. refl; once = refl }

take_more : (exports : List ModuleExport) (place : ℕ) (x : ModuleExport) → place < length exports →
    x ≡ get_or exports place x → take (place + 1) exports ≡ take place exports ++ x ∷ []
take_more exports place x within is =
    take-add place 1 exports
    ∙ ap (λ xs. take place exports ++ take 1 xs)
    (drop-cons exports place x within ∙ ap (λ y. y ∷ drop (suc place) exports) (sym is))

-- whether the name of this export was met
was_met : (exports : List ModuleExport) (place : ℕ) (x : ModuleExport) (key : Bor (List ℕ))
    (keys : List (Bor (List ℕ))) → key.now ≡ x.name → Met exports place keys
    → list_any (λ k. is_eq (by_bytes key k)) keys ≡ has_name x.name (take place exports)
was_met exports place x key keys same met =
    contains_met key keys ∙ met.names key.now ∙ ap (λ n. has_name n (take place exports)) same

pub met_next : (exports : List ModuleExport) (place : ℕ) (x : ModuleExport) (key : Bor (List ℕ))
    (keys new : List (Bor (List ℕ))) → place < length exports → x ≡ get_or exports place x
    → key.now ≡ x.name → true ≡ not (list_any (λ k. is_eq (by_bytes key k)) keys) → new ≡ insert_key by_bytes keys key →
    Met exports place keys → Met exports (place + 1) new
met_next exports place x key keys new within is same added inserted met = record {
  names = λ name.
      ap (is_met name) inserted ∙ met_more name key keys ∙ ap₂ (λ n b. bytes_eq n name || b) same (met.names name)
      ∙ or_last (bytes_eq x.name name) (has_name name (take place exports))
      ∙ sym (list_any-append (λ export. bytes_eq export.name name) (take place exports) (x ∷ []))
      ∙ ap (has_name name) (sym (take_more exports place x within is));
  once = ap has_repeats (take_more exports place x within is) ∙ repeats_push (take place exports) x
      ∙ ap₂ (λ a b. a || b) met.once
      (sym (was_met exports place x key keys same met) ∙ not_true (list_any (λ k. is_eq (by_bytes key k)) keys) added);
}
  where
    or_last : (a b : Bool) → (a || b) ≡ (b || (a || false))
    or_last true true = refl
    or_last true false = refl
    or_last false true = refl
    or_last false false = refl

    not_true : (b : Bool) → true ≡ not b → b ≡ false
    not_true true e = absurd (cc e)
    not_true false e = refl

pub met_again : (exports : List ModuleExport) (place : ℕ) (x : ModuleExport) (key : Bor (List ℕ))
    (keys : List (Bor (List ℕ))) → place < length exports → x ≡ get_or exports place x
    → key.now ≡ x.name → false ≡ not (list_any (λ k. is_eq (by_bytes key k)) keys) → Met exports place keys →
    true ≡ has_repeats exports
met_again exports place x key keys within is same added met =
    let here : has_repeats (take (place + 1) exports) ≡ true =
    ap has_repeats (take_more exports place x within is) ∙ repeats_push (take place exports) x
    ∙ ap₂ (λ a b. a || b) met.once
    (sym (was_met exports place x key keys same met) ∙ not_false (list_any (λ k. is_eq (by_bytes key k)) keys) added) in
    sym (ap has_repeats (sym (take-append-drop (place + 1) exports))
    ∙ repeats_front (take (place + 1) exports) (drop (place + 1) exports) here)
  where
    not_false : (b : Bool) → false ≡ not b → b ≡ true
    not_false true e = refl
    not_false false e = absurd (cc e)

pub all_met : (exports : List ModuleExport) (place : ℕ) (keys : List (Bor (List ℕ))) → length exports ≤ place →
    Met exports place keys → false ≡ has_repeats exports
all_met exports place keys past met = sym (ap has_repeats (sym (take_all place exports past)) ∙ met.once)
