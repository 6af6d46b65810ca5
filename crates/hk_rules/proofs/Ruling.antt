-- The test of the rules says what the rules say.
use Rattle.std.proofs.Common.{ℕ, zero, suc, ◌≡◌, ◌+◌, ◌<◌, ◌≤◌, inl, inr, ◌∙◌, List, [], ◌∷◌, Bool, true, false, Option}
use Rattle.std.proofs.Common.{Some, None, length, refl, sym, ap, subst, arith}
use Rattle.std.proofs.lemmas.Bool.{or_from as neither}
use Rattle.std.proofs.lemmas.Bool.{or_right as or_back}
use Rattle.std.proofs.lemmas.Bool.{or_left as or_front}
use Rattle.std.specs.Prelude.{◌&&◌, ◌||◌, nat_lt, not, slice_get, sum_by}
use Rattle.std.specs.Option.{option_map_or}
use Rattle.std.proofs.lemmas.Bool.{and_from, and_parts, ltb-true}
use Rattle.std.proofs.lemmas.Bool.Decides.{leb_tells}
use Rattle.std.proofs.lemmas.List.Sums.{sum_by-cons}
use Rattle.std.proofs.lemmas.Option.{slice_get_within}
use Rattle.wa_ops.specs.declared.modules.Code.{Code}
use Rattle.wa_ops.specs.declared.modules.Module.{Module}
use Rattle.wa_ops.specs.declared.op.Op.{Op}
use Rattle.wa_ops.specs.declared.rule_fault.RuleFault.{RuleFault}
use Rattle.wa_ops.specs.HookRules.{AreKept, IsFault, IsFirst, IsNowhere, Precedes, Rule, hook_rules, in_code, passes}
use Rattle.hk_rules.specs.Ruling.{RulesDecided, any_below, breaks, is_ruled, keeps_all, size_of}

-- ---- a test below a number

or_last : (a b : Bool) → b ≡ false → (a || b) ≡ true → a ≡ true
or_last true b none e = refl
or_last false b none e = let h : true ≡ false = sym e ∙ none in absurd (cc h)

-- what isn't true is false
refuted : (b : Bool) → (b ≡ true → ⊥) → b ≡ false
refuted false none = refl
refuted true none = absurd (none refl)

clash : (b : Bool) → b ≡ true → b ≡ false → ⊥
clash b t f = let h : true ≡ false = sym t ∙ f in absurd (cc h)

found_below : (n : ℕ) (test : ℕ → Bool) (i : ℕ) → i < n → test i ≡ true → any_below n test ≡ true
unfolding any_below
found_below zero test i less here = absurd (omega (arith, less))
found_below (suc n) test i less here =
    elim (leb_tells (i + 1) n) [
      | inl earlier ↦
          let within = earlier.1 in
          or_back (test n) (any_below n test) (found_below n test i (omega (arith, within)) here)
      | inr last ↦ let past = last.1 in
          let same : i ≡ n = omega (arith, less, past) in
          or_front (test n) (any_below n test) (subst (λ k. test k ≡ true) same here)
    ]

none_below : (n : ℕ) (test : ℕ → Bool) → ((i : ℕ) → test i ≡ false) → any_below n test ≡ false
unfolding any_below
none_below zero test none = refl
none_below (suc n) test none = neither (test n) (any_below n test) (none n) (none_below n test none)

none_before : (n : ℕ) (test : ℕ → Bool) → any_below n test ≡ false → (j : ℕ) → j < n → test j ≡ false
none_before n test none j less =
    refuted (test j) (λ here. clash (any_below n test) (found_below n test j less here) none)

-- the least number of which the test holds
record HasLeast (test : ℕ → Bool) : Type 0 where
  pub number : ℕ
  pub here : test number ≡ true
  pub before : (j : ℕ) → j < number → test j ≡ false

least_below : (n : ℕ) (test : ℕ → Bool) → any_below n test ≡ true → HasLeast test
unfolding any_below
least_below zero test h = absurd (cc h)
least_below (suc n) test h = by (any_below n test) refl (λ e. least_below n test e)
  where
    by : (b : Bool) → any_below n test ≡ b → (any_below n test ≡ true → HasLeast test) → HasLeast test
    by true e earlier = earlier e
    by false e earlier = record {
      number = n;
      here = or_last (test n) (any_below n test) e h;
      before = none_before n test e;
    }

-- ---- a rule whose every break is below a number

-- an index with a break has one at a place below the number, and then an index below it has one
record Witnessed (size : ℕ) (broken : ℕ → ℕ → Bool) : Type 0 where
  pub places : (i at : ℕ) → broken i at ≡ true → any_below size (broken i) ≡ true
  pub indices : (i at : ℕ) → broken i at ≡ true → breaks size broken ≡ true

abbrev AllWitnessed : ℕ → List Rule → Type 0
AllWitnessed size [] = Unit {0}
AllWitnessed size (rule ∷ rules) = Witnessed size rule.broken × AllWitnessed size rules

-- the index of a break is below the number, and so is a place of the same index
record IsBelow (size : ℕ) (broken : ℕ → ℕ → Bool) (i : ℕ) : Type 0 where
  pub index : i < size
  pub place : ℕ
  pub less : place < size
  pub here : broken i place ≡ true

witnessed : (size : ℕ) (broken : ℕ → ℕ → Bool) → ((i at : ℕ) → broken i at ≡ true → IsBelow size broken i) →
    Witnessed size broken
witnessed size broken below = record {
  places = λ i at here. let w = below i at here in found_below size (broken i) w.place w.less w.here;
  indices = λ i at here. let w = below i at here in
      found_below size (λ j. any_below size (broken j)) i w.index (found_below size (broken i) w.place w.less w.here);
}

-- of the items of a list
items : {A : Type 0} (size : ℕ) (test : ℕ → A → Bool) (xs : List A) → length xs < size →
    Witnessed size (λ index at. passes (test index) xs index)
items {A = A} size test xs few =
    witnessed size (λ index at. passes (test index) xs index) (λ i at here. by i (slice_get xs i) refl here)
  where
    by : (i : ℕ) (o : Option A) → slice_get xs i ≡ o → option_map_or (test i) o false ≡ true →
        IsBelow size (λ index at. passes (test index) xs index) i
    by i None e h = absurd (cc h)
    by i (Some x) e h =
        let within : i < length xs = slice_get_within xs i x e in
        record {
          index = omega (arith, within, few);
          place = 0;
          less = omega (arith, few);
          here = ap (λ o. option_map_or (test i) o false) e ∙ h;
        }

-- of the module
whole : (size : ℕ) (broken : Bool) → 0 < size → Witnessed size (λ index at. broken)
whole size broken some = record {
  places = λ i at here. found_below size (λ place. broken) 0 some here;
  indices =
      λ i at here.
      found_below size (λ index. any_below size (λ place. broken)) 0 some
      (found_below size (λ place. broken) 0 some here);
}

-- a body is no longer than all bodies together
within_all : (codes : List Code) (func : ℕ) (code : Code) → slice_get codes func ≡ Some code →
    length code.ops ≤ sum_by (λ c. length c.ops) codes
within_all [] func code e = absurd (cc e)
within_all (first ∷ codes) zero code e =
    let same : first ≡ code = cc e in
    let size : length first.ops ≡ length code.ops = ap (λ (c : Code). length c.ops) same in
    let sum = sum_by-cons (λ (c : Code). length c.ops) first codes in omega (arith, size, sum)
within_all (first ∷ codes) (suc func) code e =
    let more = within_all codes func code e in
    let sum = sum_by-cons (λ (c : Code). length c.ops) first codes in omega (arith, more, sum)

-- of the instructions of functions
instructions : (size : ℕ) (test : List Op → ℕ → Bool) (codes : List Code) → length codes < size →
    sum_by (λ code. length code.ops) codes < size → Witnessed size (in_code test codes)
instructions size test codes few short =
    witnessed size (in_code test codes) (λ func at here. by func at (slice_get codes func) refl here)
  where
    by : (func at : ℕ) (o : Option Code) → slice_get codes func ≡ o →
        option_map_or (λ code. nat_lt at (length code.ops) && test code.ops at) o false ≡ true
        → IsBelow size (in_code test codes) func
    by func at None e h = absurd (cc h)
    by func at (Some code) e h =
        let place : at < length code.ops =
        ltb-true at (length code.ops) (and_parts (nat_lt at (length code.ops)) (test code.ops at) h).0 in
        let within : func < length codes = slice_get_within codes func code e in
        let most = within_all codes func code e in
        record {
          index = omega (arith, within, few);
          place = at;
          less = omega (arith, place, most, short);
          here = ap (λ o. option_map_or (λ c. nat_lt at (length c.ops) && test c.ops at) o false) e ∙ h;
        }

-- ---- all rules

not_true : (b : Bool) → not b ≡ true → b ≡ false
not_true false e = refl
not_true true e = absurd (cc e)

not_false : (b : Bool) → b ≡ false → not b ≡ true
not_false false e = refl
not_false true e = absurd (cc e)

kept_back : (size : ℕ) (broken : ℕ → ℕ → Bool) → Witnessed size broken → breaks size broken ≡ false → IsNowhere broken
kept_back size broken seen none i at =
    refuted (broken i at) (λ here. clash (breaks size broken) (seen.indices i at here) none)

all_back : (size : ℕ) (rules : List Rule) → AllWitnessed size rules → keeps_all size rules ≡ true → AreKept rules
unfolding keeps_all
all_back size [] seen h = tt
all_back size (rule ∷ rules) seen h =
    let parts = and_parts (not (breaks size rule.broken)) (keeps_all size rules) h in
    (kept_back size rule.broken seen.0 (not_true (breaks size rule.broken) parts.0), all_back size rules seen.1 parts.1)

all_forth : (size : ℕ) (rules : List Rule) → AreKept rules → keeps_all size rules ≡ true
unfolding keeps_all
all_forth size [] kept = refl
all_forth size (rule ∷ rules) kept =
    and_from (not (breaks size rule.broken)) (keeps_all size rules)
    (not_false (breaks size rule.broken)
    (none_below size (λ i. any_below size (rule.broken i)) (λ i. none_below size (rule.broken i) (λ at. kept.0 i at))))
    (all_forth size rules kept.1)

-- each rule's breaks are below the module's size
seen : (m : Module) → AllWitnessed (size_of m) (hook_rules m)
seen m = (
  items (size_of m) _ m.types (omega arith),
  (
    items (size_of m) _ m.globals (omega arith),
    (
      items (size_of m) _ m.codes (omega arith),
      (
        instructions (size_of m) _ m.codes (omega arith) (omega arith),
        (
          items (size_of m) _ m.imports (omega arith),
          (
            items (size_of m) _ m.types (omega arith),
            (
              items (size_of m) _ m.functions (omega arith),
              (
                whole (size_of m) _ (omega arith),
                (
                  whole (size_of m) _ (omega arith),
                  (
                    items (size_of m) _ m.globals (omega arith),
                    (
                      whole (size_of m) _ (omega arith),
                      (
                        whole (size_of m) _ (omega arith),
                        (
                          whole (size_of m) _ (omega arith),
                          (
                            items (size_of m) _ m.segments (omega arith),
                            (
                              items (size_of m) _ m.codes (omega arith),
                              (
                                instructions (size_of m) _ m.codes (omega arith) (omega arith),
                                (
                                  instructions (size_of m) _ m.codes (omega arith) (omega arith),
                                  (
                                    instructions (size_of m) _ m.codes (omega arith) (omega arith),
                                    (
                                      instructions (size_of m) _ m.codes (omega arith) (omega arith),
                                      (instructions (size_of m) _ m.codes (omega arith) (omega arith), tt),
                                    ),
                                  ),
                                ),
                              ),
                            ),
                          ),
                        ),
                      ),
                    ),
                  ),
                ),
              ),
            ),
          ),
        ),
      ),
    ),
  ),
)

-- ---- the first rule that is broken

-- no place of this index
none_there : (size : ℕ) (broken : ℕ → ℕ → Bool) (i : ℕ) → Witnessed size broken → any_below size (broken i) ≡ false →
    (at : ℕ) → broken i at ≡ false
none_there size broken i seen none at =
    refuted (broken i at) (λ here. clash (any_below size (broken i)) (seen.places i at here) none)

fault_found : (size : ℕ) (rule : Rule) → Witnessed size rule.broken → breaks size rule.broken ≡ true →
    (found : RuleFault) × IsFault rule found
fault_found size rule seen h =
    let index = least_below size (λ i. any_below size (rule.broken i)) h in
    let place = least_below size (rule.broken index.number) index.here in (
      rule.fault index.number place.number,
      record {
        index = index.number;
        place = place.number;
        least = record { here = place.here; before = earlier index.number place.number index.before place.before };
        is = refl;
      },
    )
  where
    earlier : (i at : ℕ) → ((j : ℕ) → j < i → any_below size (rule.broken j) ≡ false) →
        ((p : ℕ) → p < at → rule.broken i p ≡ false)
        → (j p : ℕ) → Precedes j p i at → rule.broken j p ≡ false
    earlier i at indices places j p (inl less) = none_there size rule.broken j seen (indices j less) p
    earlier i at indices places j p (inr same) = ap (λ k. rule.broken k p) same.0 ∙ places p same.1

first_found : (size : ℕ) (rules : List Rule) → AllWitnessed size rules → keeps_all size rules ≡ false →
    (found : RuleFault) × IsFirst rules found
unfolding keeps_all
first_found size [] seen h = absurd (cc h)
first_found size (rule ∷ rules) seen h = by (breaks size rule.broken) refl (λ k. first_found size rules seen.1 k) h
  where
    by : (b : Bool) → breaks size rule.broken ≡ b →
        (keeps_all size rules ≡ false → (found : RuleFault) × IsFirst rules found)
        → (not b && keeps_all size rules) ≡ false → (found : RuleFault) × IsFirst (rule ∷ rules) found
    by true e later k = let f = fault_found size rule seen.0 e in (f.0, inl f.1)
    by false e later k = let f = later k in (f.0, inr (kept_back size rule.broken seen.0 e, f.1))

-- where the rules aren't met, there is a first that is broken
pub some_first : (m : Module) → is_ruled m ≡ false → (found : RuleFault) × IsFirst (hook_rules m) found
unfolding is_ruled
some_first m h = first_found (size_of m) (hook_rules m) (seen m) h

pub rules_decided : RulesDecided
unfolding is_ruled
rules_decided m = (all_back (size_of m) (hook_rules m) (seen m), all_forth (size_of m) (hook_rules m))
