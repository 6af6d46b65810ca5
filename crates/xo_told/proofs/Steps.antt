-- What is told step by step.
use Rattle.std.proofs.Common.{◌&&◌, Bool, true, false, ◌≡◌, ◌⊎◌, inl, inr, refl, Ok, Err, Option, Some, None}
use Rattle.std.specs.Option.{option_and_then, option_map}
use Rattle.xo_told.specs.declared.fault.JsonFault.{JsonFault}
use Rattle.xo_told.specs.Told.{Told, told_then, told_map}

abbrev pub kept : {A : Type 0} → A → Told A
kept x = Ok x

abbrev pub refused : (A : Type 0) → JsonFault → Told A
refused A fault = Err fault

pub ok_same : {A : Type 0} (x y : A) → kept x ≡ kept y → x ≡ y
ok_same x y e = cc e

pub err_same : (A : Type 0) (f g : JsonFault) → refused A f ≡ refused A g → f ≡ g
err_same A f g e = cc e

pub ok_err : {A P : Type 0} (x : A) (f : JsonFault) → kept x ≡ refused A f → P
ok_err x f e = cc e

pub err_ok : {A P : Type 0} (x : A) (f : JsonFault) → refused A f ≡ kept x → P
err_ok x f e = cc e

pub then_ok : {A B : Type 0} (next : A → Told B) (r : Told A) (y : B) → told_then next r ≡ Ok y →
    (x : A) × (r ≡ Ok x) × (next x ≡ Ok y)
then_ok next (Ok x) y e = (x, refl, e)
then_ok next (Err f) y e = err_ok y f e

pub then_err : {A B : Type 0} (next : A → Told B) (r : Told A) (f : JsonFault) → told_then next r ≡ Err f →
    (r ≡ Err f) ⊎ ((x : A) × (r ≡ Ok x) × (next x ≡ Err f))
then_err next (Ok x) f e = inr (x, refl, e)
then_err {A} {B} next (Err g) f e = inl (λ i. Err (err_same B g f e i))

pub map_ok : {A B : Type 0} (f : A → B) (r : Told A) (y : B) → told_map f r ≡ Ok y → (x : A) × (r ≡ Ok x) × (f x ≡ y)
map_ok f (Ok x) y e = (x, refl, ok_same (f x) y e)
map_ok f (Err g) y e = err_ok y g e

pub map_err : {A B : Type 0} (f : A → B) (r : Told A) (g : JsonFault) → told_map f r ≡ Err g → r ≡ Err g
map_err f (Ok x) g e = ok_err (f x) g e
map_err {A} {B} f (Err h) g e = λ i. Err (err_same B h g e i)

-- tests
pub both : (a b : Bool) → a && b ≡ true → (a ≡ true) × (b ≡ true)
both true b e = (refl, e)
both false b e = cc e

pub never : (b : Bool) → b ≡ true → b ≡ false → ⊥
never true t e = cc e
never false t e = cc t
