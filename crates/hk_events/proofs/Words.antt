-- Words over lists: joined lists, and items of a kind.
use Rattle.std.proofs.Common.{◌≡◌, ◌+◌, Bool, false, List, [], ◌∷◌, ◌++◌, refl, sym, ap, ◌∙◌, arith, Option, Some, None}
use Rattle.std.specs.Option.{option_or}
use Rattle.hk_draft.specs.Lists.{Each}
use Rattle.hk_events.specs.Lists.{one_if, counted, last_of}

pub counted-append : {X : Type 0} (test : X → Bool) (xs ys : List X) →
    counted test (xs ++ ys) ≡ counted test xs + counted test ys
counted-append test [] ys = omega arith
counted-append test (x ∷ xs) ys = let rest = counted-append test xs ys in omega (arith, rest)

pub or_none : {Y : Type 0} (o : Option Y) → option_or o None ≡ o
or_none None = refl
or_none (Some y) = refl

or_or : {Y : Type 0} (a b c : Option Y) → option_or (option_or a b) c ≡ option_or a (option_or b c)
or_or None b c = refl
or_or (Some y) b c = refl

pub last_of-append : {X Y : Type 0} (f : X → Option Y) (xs ys : List X) →
    last_of f (xs ++ ys) ≡ option_or (last_of f ys) (last_of f xs)
last_of-append f [] ys = sym (or_none (last_of f ys))
last_of-append f (x ∷ xs) ys =
    ap (λ o. option_or o (f x)) (last_of-append f xs ys) ∙ or_or (last_of f ys) (last_of f xs) (f x)

pub each-map : {X : Type 0} (P Q : X → Type 0) → ((x : X) → P x → Q x) → (xs : List X) → Each P xs → Each Q xs
each-map P Q f [] h = tt
each-map P Q f (x ∷ xs) h = (f x h.0, each-map P Q f xs h.1)

-- items of which f gives nothing, or that don't pass
pub none_last : {X Y : Type 0} (f : X → Option Y) (xs : List X) → Each (λ x. f x ≡ None) xs → last_of f xs ≡ None
none_last f [] h = refl
none_last f (x ∷ xs) h = ap (λ o. option_or o (f x)) (none_last f xs h.1) ∙ h.0

pub none_counted : {X : Type 0} (test : X → Bool) (xs : List X) → Each (λ x. test x ≡ false) xs → counted test xs ≡ 0
none_counted test [] h = refl
none_counted test (x ∷ xs) h =
    let here = ap one_if h.0 in let rest = none_counted test xs h.1 in omega (arith, here, rest)
