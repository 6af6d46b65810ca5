-- Lists of fields, cut at a field's number.
use Rattle.std.proofs.Common.{◌≡◌, ℕ, ◌<◌, ◌≤◌, true, false, List, [], ◌∷◌, ◌++◌, refl, ap, ◌∙◌, arith, Some, None}
use Rattle.std.proofs.Common.{if◌then◌else◌, nat_lt}
use Rattle.std.proofs.lemmas.Bool.Decides.{nat_tests}
use Rattle.xo_fields.specs.declared.field.FieldId.{FieldId}
use Rattle.xo_fields.specs.Field.{number}
use Rattle.xo_list.specs.Item.{Item, is_same, lookup, without, with_item}
use Rattle.xo_list.specs.Located.{AllBelow, AllAbove}

pub same_field : (f g : FieldId) → f.code < 256 → g.code < 256 → number f ≡ number g → f ≡ g
same_field f g fc gc e =
    let kinds : f.kind ≡ g.kind = omega arith in
    let codes : f.code ≡ g.code = omega arith in
    ap (λ k. made k f.code) kinds ∙ ap (λ n. made g.kind n) codes
  where
    made : ℕ → ℕ → FieldId
    made k n = record { kind = k; code = n }

pub AllBelow-append : (n : ℕ) (a b : List Item) → AllBelow n a → AllBelow n b → AllBelow n (a ++ b)
AllBelow-append n [] b h k = k
AllBelow-append n (x ∷ xs) b h k = (h.0, AllBelow-append n xs b h.1 k)

differs_below : (f g : FieldId) → number f < number g → is_same f g ≡ false
differs_below f g h = grind (arith, nat_tests)

differs_above : (f g : FieldId) → number g < number f → is_same f g ≡ false
differs_above f g h = grind (arith, nat_tests)

pub same_itself : (f : FieldId) → is_same f f ≡ true
same_itself f = grind (arith, nat_tests)

-- the value of a field
pub lookup_below : (f : FieldId) (a b : List Item) → AllBelow (number f) a → lookup f (a ++ b) ≡ lookup f b
lookup_below f [] b h = refl
lookup_below f (x ∷ xs) b h =
    ap (λ same. if same then Some x.value else lookup f (xs ++ b)) (differs_below x.field f h.0)
    ∙ lookup_below f xs b h.1

pub lookup_above : (f : FieldId) (b : List Item) → AllAbove (number f) b → lookup f b ≡ None
lookup_above f [] h = refl
lookup_above f (x ∷ xs) h =
    ap (λ same. if same then Some x.value else lookup f xs) (differs_above x.field f h.0) ∙ lookup_above f xs h.1

pub lookup_at : (f : FieldId) (value : List ℕ) (a b : List Item) → AllBelow (number f) a →
    lookup f (a ++ record { field = f; value = value } ∷ b) ≡ Some value
lookup_at f value a b below =
    lookup_below f a (record { field = f; value = value } ∷ b) below
    ∙ ap (λ same. if same then Some value else lookup f b) (same_itself f)

pub lookup_absent : (f : FieldId) (a b : List Item) → AllBelow (number f) a → AllAbove (number f) b →
    lookup f (a ++ b) ≡ None
lookup_absent f a b below above = lookup_below f a b below ∙ lookup_above f b above

-- the list without a field
without_below : (f : FieldId) (a b : List Item) → AllBelow (number f) a → without f (a ++ b) ≡ a ++ without f b
without_below f [] b h = refl
without_below f (x ∷ xs) b h =
    ap (λ same. if same then without f (xs ++ b) else x ∷ without f (xs ++ b)) (differs_below x.field f h.0)
    ∙ ap (λ t. x ∷ t) (without_below f xs b h.1)

without_above : (f : FieldId) (b : List Item) → AllAbove (number f) b → without f b ≡ b
without_above f [] h = refl
without_above f (x ∷ xs) h =
    ap (λ same. if same then without f xs else x ∷ without f xs) (differs_above x.field f h.0)
    ∙ ap (λ t. x ∷ t) (without_above f xs h.1)

pub without_at : (f : FieldId) (value : List ℕ) (a b : List Item) → AllBelow (number f) a → AllAbove (number f) b →
    without f (a ++ record { field = f; value = value } ∷ b) ≡ a ++ b
without_at f value a b below above =
    without_below f a (record { field = f; value = value } ∷ b) below
    ∙ ap (λ t. a ++ t)
    (ap (λ same. if same then without f b else record { field = f; value = value } ∷ without f b) (same_itself f)
    ∙ without_above f b above)

-- the list with a field put in its place
less_is : (m n : ℕ) → m < n → nat_lt m n ≡ true
less_is m n h = grind (arith, nat_tests)

not_less_is : (m n : ℕ) → n ≤ m → nat_lt m n ≡ false
not_less_is m n h = grind (arith, nat_tests)

with_below : (x : Item) (a b : List Item) → AllBelow (number x.field) a → with_item x (a ++ b) ≡ a ++ with_item x b
with_below x [] b h = refl
with_below x (y ∷ ys) b h =
    ap (λ less.
    if less then x ∷ y ∷ (ys ++ b) else if nat_lt (number y.field) (number x.field) then y ∷ with_item x (ys ++ b)
    else x ∷ (ys ++ b)) (not_less_is (number x.field) (number y.field) (omega (arith, h.0)))
    ∙ ap (λ less. if less then y ∷ with_item x (ys ++ b) else x ∷ (ys ++ b))
    (less_is (number y.field) (number x.field) h.0)
    ∙ ap (λ t. y ∷ t) (with_below x ys b h.1)

with_above : (x : Item) (b : List Item) → AllAbove (number x.field) b → with_item x b ≡ x ∷ b
with_above x [] h = refl
with_above x (y ∷ ys) h =
    ap (λ less.
    if less then x ∷ y ∷ ys else if nat_lt (number y.field) (number x.field) then y ∷ with_item x ys else x ∷ ys)
    (less_is (number x.field) (number y.field) h.0)

with_over : (x y : Item) (b : List Item) → y.field ≡ x.field → with_item x (y ∷ b) ≡ x ∷ b
with_over x y b e =
    let same : number y.field ≡ number x.field = ap number e in
    ap
    (λ less. if less then x ∷ y ∷ b else if nat_lt (number y.field) (number x.field) then y ∷ with_item x b else x ∷ b)
    (not_less_is (number x.field) (number y.field) (omega arith))
    ∙ ap (λ less. if less then y ∷ with_item x b else x ∷ b)
    (not_less_is (number y.field) (number x.field) (omega arith))

pub with_new : (x : Item) (a b : List Item) → AllBelow (number x.field) a → AllAbove (number x.field) b →
    with_item x (a ++ b) ≡ a ++ x ∷ b
with_new x a b below above = with_below x a b below ∙ ap (λ t. a ++ t) (with_above x b above)

pub with_present : (x y : Item) (a b : List Item) → y.field ≡ x.field → AllBelow (number x.field) a →
    with_item x (a ++ y ∷ b) ≡ a ++ x ∷ b
with_present x y a b e below = with_below x a (y ∷ b) below ∙ ap (λ t. a ++ t) (with_over x y b e)
