-- What a function finds is what a relation holds of.
use Rattle.std.proofs.Common.{◌≡◌, ℕ, ◌<◌, ◌≤◌, ◌==◌, Bool, true, false, List, refl, ap, subst, ◌∙◌, arith, Option}
use Rattle.std.proofs.Common.{Some, None, nat_lt, nat_le}
use Rattle.std.specs.Prelude.{bytes_eq, Decides}
use Rattle.std.specs.Option.{option_and_then, option_map}
use Rattle.std.proofs.lemmas.Bool.Decides.{nat_tests, Decides-eqb, Decides-ltb}
use Rattle.std.proofs.lemmas.Slice.Eq.{bytes_eq-Decides}
use Rattle.xo_fields.proofs.Cases.{some_same, none_some}
use Rattle.hk_reading.specs.Amounts.{only_if}

-- a value is found exactly where the relation holds of it, and so of no other
pub record Finds {A : Type 0} (P : A → Type 0) (o : Option A) : Type 0 where
  pub sound : (x : A) → o ≡ Some x → P x
  pub complete : (x : A) → P x → o ≡ Some x

-- what can't be isn't found
pub unfound : {A : Type 0} (P : A → Type 0) (o : Option A) → Finds P o → ((x : A) → P x → ⊥) → o ≡ None
unfound P None f never = refl
unfound P (Some x) f never = absurd (never x (f.sound x refl))

pub only_if_some : {A : Type 0} (b : Bool) (o : Option A) (x : A) → only_if b o ≡ Some x → (b ≡ true) × (o ≡ Some x)
only_if_some true o x e = (refl, e)
only_if_some false o x e = none_some x e

-- one value, where a test passes
pub finds_one : {A T : Type 0} (P : A → Type 0) (b : Bool) (x : A) → Decides b T → (T → P x) →
    ((y : A) → P y → T × (x ≡ y)) → Finds P (only_if b (Some x))
finds_one {A} {T} P b x d sound complete = record {
  sound = λ y e. there b refl y e;
  complete = λ y p. elsewhere y (complete y p);
}
  where
    there : (c : Bool) → b ≡ c → (y : A) → only_if c (Some x) ≡ Some y → P y
    there true e y h = subst P (some_same x y h) (sound (d.0 e))
    there false e y h = none_some y h

    elsewhere : (y : A) → T × (x ≡ y) → only_if b (Some x) ≡ Some y
    elsewhere y (t, e) = ap (λ c. only_if c (Some x)) (d.1 t) ∙ ap Some e

-- what is found, where a test passes
pub finds_if : {A T : Type 0} (P Q : A → Type 0) (b : Bool) (o : Option A) → Decides b T → Finds P o →
    ((x : A) → T → P x → Q x) → ((x : A) → Q x → T × P x) → Finds Q (only_if b o)
finds_if {A} {T} P Q b o d f sound complete = record {
  sound = λ x e. there b refl x e;
  complete = λ x q. elsewhere x (complete x q);
}
  where
    there : (c : Bool) → b ≡ c → (x : A) → only_if c o ≡ Some x → Q x
    there true e x h = sound x (d.0 e) (f.sound x h)
    there false e x h = none_some x h

    elsewhere : (x : A) → T × P x → only_if b o ≡ Some x
    elsewhere x (t, p) = ap (λ c. only_if c o) (d.1 t) ∙ f.complete x p

-- what is found from what is found
pub finds_then : {A B : Type 0} (P : A → Type 0) (R : A → B → Type 0) (Q : B → Type 0) (o : Option A)
    (f : A → Option B) → Finds P o → ((x : A) → P x → Finds (R x) (f x)) → ((x : A) (y : B) → P x → R x y → Q y) →
    ((y : B) → Q y → (x : A) × P x × R x y) → Finds Q (option_and_then f o)
finds_then {A} {B} P R Q o f first next sound complete = record {
  sound = λ y e. there o refl y e;
  complete = λ y q. elsewhere y (complete y q);
}
  where
    there : (p : Option A) → o ≡ p → (y : B) → option_and_then f p ≡ Some y → Q y
    there None e y h = none_some y h
    there (Some x) e y h = sound x y (first.sound x e) ((next x (first.sound x e)).sound y h)

    elsewhere : (y : B) → ((x : A) × P x × R x y) → option_and_then f o ≡ Some y
    elsewhere y (x, p, r) = ap (option_and_then f) (first.complete x p) ∙ (next x p).complete y r

pub finds_map : {A B : Type 0} (P : A → Type 0) (Q : B → Type 0) (o : Option A) (f : A → B) → Finds P o →
    ((x : A) → P x → Q (f x)) → ((y : B) → Q y → (x : A) × P x × (f x ≡ y)) → Finds Q (option_map f o)
finds_map {A} {B} P Q o f first sound complete = record {
  sound = λ y e. there o refl y e;
  complete = λ y q. elsewhere y (complete y q);
}
  where
    there : (p : Option A) → o ≡ p → (y : B) → option_map f p ≡ Some y → Q y
    there None e y h = none_some y h
    there (Some x) e y h = subst Q (some_same (f x) y h) (sound x (first.sound x e))

    elsewhere : (y : B) → ((x : A) × P x × (f x ≡ y)) → option_map f o ≡ Some y
    elsewhere y (x, p, e) = ap (option_map f) (first.complete x p) ∙ ap Some e

pub finds_like : {A : Type 0} (P Q : A → Type 0) (o : Option A) → Finds P o → ((x : A) → P x → Q x) →
    ((x : A) → Q x → P x) → Finds Q o
finds_like P Q o f there back = record {
  sound = λ x e. there x (f.sound x e);
  complete = λ x q. f.complete x (back x q);
}

pub finds_none : {A : Type 0} (P : A → Type 0) → ((x : A) → P x → ⊥) → Finds P None
finds_none P never = record { sound = λ x e. none_some x e; complete = λ x p. absurd (never x p) }

-- tests
pub nat_same : (m n : ℕ) → Decides (m == n) (m ≡ n)
nat_same m n = Decides-eqb m n

pub nat_below : (m n : ℕ) → Decides (nat_lt m n) (m < n)
nat_below m n = Decides-ltb m n

pub nat_up_to : (m n : ℕ) → Decides (nat_le m n) (m ≤ n)
nat_up_to m n = (λ e. grind (arith, nat_tests), λ h. grind (arith, nat_tests))

pub always : Decides true (Unit {0})
always = (λ e. tt, λ t. refl)

pub lists_same : (xs ys : List ℕ) → Decides (bytes_eq xs ys) (xs ≡ ys)
lists_same xs ys = bytes_eq-Decides xs ys
