-- From the least place to the first rule that is broken.
use Rattle.std.proofs.Common.{subst, ℕ, ◌≡◌, ◌<◌, ◌≤◌, inl, inr, List, [], ◌∷◌, ◌++◌, length, Bool, true, false, Some}
use Rattle.std.proofs.Common.{refl, sym, ap, ◌∙◌, arith}
use Rattle.std.specs.Prelude.{slice_get, Result, Ok, Err, IsErrAnd, IfErr, ◌≢◌}
use Rattle.wa_ops.specs.declared.rule_fault.RuleFault.TheVariants.{NoMemory}
use Rattle.std.proofs.lemmas.Result.{err_from_is_err_and}
use Rattle.hk_rules.specs.Answers.{Judges}
use Rattle.std.specs.Option.{option_map_or}
use Rattle.std.proofs.lemmas.Option.{slice_get_past}
use Rattle.wa_ops.specs.declared.rule_fault.RuleFault.{RuleFault}
use Rattle.wa_ops.specs.HookRules.{Rule, passes, item_rule, code_rule, module_rule, IsFirst, AreKept, Precedes}

-- what a test says of the item at an index
pub passes_at : {A : Type 0} (test : A → Bool) (xs : List A) (i : ℕ) (x : A) → slice_get xs i ≡ Some x →
    passes test xs i ≡ test x
passes_at test xs i x e = ap (λ o. option_map_or test o false) e

pub passes_past : {A : Type 0} (test : A → Bool) (xs : List A) (i : ℕ) → length xs ≤ i → passes test xs i ≡ false
passes_past test xs i past = ap (λ o. option_map_or test o false) (slice_get_past xs i past)

pub item_found : (fault_of : ℕ → RuleFault) (broken : ℕ → Bool) (i : ℕ) → broken i ≡ true →
    ((j : ℕ) → j < i → broken j ≡ false)
    → IsFirst (item_rule fault_of broken ∷ []) (fault_of i)
item_found fault_of broken i here before =
    inl (record { index = i; place = 0; least = record { here = here; before = earlier }; is = refl })
  where
    earlier : (j place : ℕ) → Precedes j place i 0 → broken j ≡ false
    earlier j place (inl less) = before j less
    earlier j place (inr same) = absurd (omega (arith, same.1))

pub code_found : (fault_of : ℕ → ℕ → RuleFault) (broken : ℕ → ℕ → Bool) (i at : ℕ) → broken i at ≡ true
    → ((p : ℕ) → p < at → broken i p ≡ false) → ((j : ℕ) → j < i → (p : ℕ) → broken j p ≡ false)
    → IsFirst (code_rule fault_of broken ∷ []) (fault_of i at)
code_found fault_of broken i at here before others =
    inl (record { index = i; place = at; least = record { here = here; before = earlier }; is = refl })
  where
    earlier : (j p : ℕ) → Precedes j p i at → broken j p ≡ false
    earlier j p (inl less) = others j less p
    earlier j p (inr same) = ap (λ k. broken k p) same.0 ∙ before p same.1

-- a rule that is broken, and one that is kept, in front of others
pub at_once : (rule : Rule) (rules : List Rule) (found : RuleFault) → IsFirst (rule ∷ []) found →
    IsFirst (rule ∷ rules) found
at_once rule rules found (inl fault) = inl fault
at_once rule rules found (inr more) = absurd more.1

pub later : (rule : Rule) (rules : List Rule) (found : RuleFault) → AreKept (rule ∷ []) → IsFirst rules found →
    IsFirst (rule ∷ rules) found
later rule rules found kept first = inr (kept.0, first)

pub judges_later : {A : Type 0} (rule : Rule) (rules : List Rule) (r : Result A RuleFault) → AreKept (rule ∷ []) →
    Judges rules r → Judges (rule ∷ rules) r
judges_later rule rules (Ok x) kept judged = (kept.0, judged)
judges_later rule rules (Err found) kept judged = later rule rules found kept judged

-- the exit of a `?` at the first rule
pub exits : {A : Type 0} {Q : RuleFault → Type 0} (rule : Rule) (rules : List Rule) (found : RuleFault)
    (r : Result A RuleFault)
    → IsErrAnd r Q → ((e : RuleFault) → Q e → e ≡ found) → IsFirst (rule ∷ []) found → Judges (rule ∷ rules) r
exits rule rules found r is same first =
    let p = err_from_is_err_and r is in
    let e : r ≡ Err found = p.1 ∙ ap Err (same p.0 p.2) in
    let P : Result _ RuleFault → Type 0 = Judges (rule ∷ rules) in subst P (sym e) (at_once rule rules found first)

-- a rule about the module
pub module_found : (found : RuleFault) (broken : Bool) → broken ≡ true → IsFirst (module_rule found broken ∷ []) found
module_found found broken here =
    inl
    (record { index = 0; place = 0; least = record { here = here; before = λ j place h. none j place h }; is = refl })
  where
    none : (j place : ℕ) → Precedes j place 0 0 → broken ≡ false
    none j place (inl less) = absurd (omega (arith, less))
    none j place (inr same) = absurd (omega (arith, same.1))

pub module_kept : (found : RuleFault) (broken : Bool) → broken ≡ false → AreKept (module_rule found broken ∷ [])
module_kept found broken kept = (λ i at. kept, tt)

-- lists of rules, one behind another
pub first_front : (front rules : List Rule) (found : RuleFault) → IsFirst front found → IsFirst (front ++ rules) found
first_front [] rules found first = absurd first
first_front (rule ∷ front) rules found (inl fault) = inl fault
first_front (rule ∷ front) rules found (inr more) = inr (more.0, first_front front rules found more.1)

pub first_behind : (front rules : List Rule) (found : RuleFault) → AreKept front → IsFirst rules found →
    IsFirst (front ++ rules) found
first_behind [] rules found kept first = first
first_behind (rule ∷ front) rules found kept first = inr (kept.0, first_behind front rules found kept.1 first)

pub kept_both : (front rules : List Rule) → AreKept front → AreKept rules → AreKept (front ++ rules)
kept_both [] rules kept others = others
kept_both (rule ∷ front) rules kept others = (kept.0, kept_both front rules kept.1 others)

abbrev pub head_rules : List Rule → List Rule
head_rules [] = []
head_rules (rule ∷ rules) = rule ∷ []

abbrev pub tail_rules : List Rule → List Rule
tail_rules [] = []
tail_rules (rule ∷ rules) = rules

-- the first of some rules is kept, and the others are judged so
pub judges_tail : {A : Type 0} (rules : List Rule) (r : Result A RuleFault) → AreKept (head_rules rules) →
    Judges (tail_rules rules) r → Judges rules r
judges_tail [] r kept judged = judged
judges_tail (rule ∷ rules) r kept judged = judges_later rule rules r kept judged

-- the exit of a `?` at the first of some rules
pub exits_at : {A : Type 0} {Q : RuleFault → Type 0} (rules : List Rule) (found : RuleFault) (r : Result A RuleFault)
    → IsErrAnd r Q → ((e : RuleFault) → Q e → e ≡ found) → IsFirst (head_rules rules) found → Judges rules r
exits_at [] found r is same first = absurd first
exits_at (rule ∷ rules) found r is same first = exits rule rules found r is same first

-- the rules in front are kept, and the others are judged so
pub judges_behind : {A : Type 0} (front rules : List Rule) (r : Result A RuleFault) → AreKept front → Judges rules r →
    Judges (front ++ rules) r
judges_behind front rules (Ok x) kept judged = kept_both front rules kept judged
judges_behind front rules (Err found) kept judged = first_behind front rules found kept judged

-- the exit of a `?` at the rules in front
pub exits_front : {A : Type 0} {Q : RuleFault → Type 0} (front rules : List Rule) (found : RuleFault)
    (r : Result A RuleFault)
    → IsErrAnd r Q → ((e : RuleFault) → Q e → e ≡ found) → IsFirst front found → Judges (front ++ rules) r
exits_front front rules found r is same first =
    let p = err_from_is_err_and r is in
    let e : r ≡ Err found = p.1 ∙ ap Err (same p.0 p.2) in
    let P : Result _ RuleFault → Type 0 = Judges (front ++ rules) in
    subst P (sym e) (first_front front rules found first)

-- the exit of a `?` of a call that may want memory
pub exits_known : {A : Type 0} {Q : RuleFault → Type 0} (rules : List Rule) (found : RuleFault) (r : Result A RuleFault)
    → IsErrAnd r Q → ((e : RuleFault) → Q e → e ≡ found) → (found ≢ NoMemory → IsFirst rules found)
    → IfErr r (λ e. e ≢ NoMemory → IsFirst rules e)
exits_known rules found r is same first =
    let p = err_from_is_err_and r is in
    let e : r ≡ Err found = p.1 ∙ ap Err (same p.0 p.2) in
    let P : Result _ RuleFault → Type 0 = λ x. IfErr x (λ e. e ≢ NoMemory → IsFirst rules e) in subst P (sym e) first
