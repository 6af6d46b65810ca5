-- What a step after an optional value was given.
use Rattle.std.proofs.Common.{◌≡◌, Option, Some, None, refl}
use Rattle.std.specs.Option.{option_and_then, option_map}

-- two steps that gave a value
pub and_then_some : {A B : Type 0} (next : A → Option B) (first : Option A) (last : B) →
    option_and_then next first ≡ Some last →
    (value : A) × (first ≡ Some value) × (next value ≡ Some last)
and_then_some next (Some value) last h = (value, refl, h)
and_then_some next None last h = cc h

-- a value that was made of another
pub map_some : {A B : Type 0} (make : A → B) (first : Option A) (last : B) → option_map make first ≡ Some last →
    (value : A) × (first ≡ Some value) × (make value ≡ last)
map_some make (Some value) last h = (value, refl, cc h)
map_some make None last h = cc h
