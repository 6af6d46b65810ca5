-- How many bytes spell a module at most.
use Rattle.std.proofs.Common.{◌≡◌, ℕ, zero, suc, ◌+◌, ◌*◌, ◌/◌, ◌%◌, ◌≤◌, ℤ, Bool, true, false, nat_lt, if◌then◌else◌}
use Rattle.std.proofs.Common.{List, [], ◌∷◌, ◌++◌, length, flat_map, option_map, Option, Some, None, length-append}
use Rattle.std.proofs.Common.{arith}
use Rattle.wa_ops.specs.declared.modules.Module.{Module}
use Rattle.wa_encode.specs.Modules.{func_type, limits, table, import, global, export, element, code, segment, filled}
use Rattle.wa_encode.specs.Modules.{contents, section, sections, encoded}
use Rattle.wa_encode.specs.Numbers.{is_short, low_bits, high_bits, shortest, shortest_signed, number, signed}
use Rattle.wa_encode.specs.Vectors.{vector, text}

-- ---- numbers

shortest_size : (more n : ℕ) → length (shortest more n) ≤ more + 1
unfolding shortest
shortest_size zero n = omega arith
shortest_size (suc more) n = split (nat_lt n 128) (shortest_size more (n / 128))
  where
    split : (t : Bool) → length (shortest more (n / 128)) ≤ more + 1 →
        length (if t then n ∷ [] else (128 + n % 128) ∷ shortest more (n / 128)) ≤ suc more + 1
    split true h = omega arith
    split false h = omega (arith, h)

shortest_signed_size : (more : ℕ) (z : ℤ) → length (shortest_signed more z) ≤ more + 1
unfolding shortest_signed
shortest_signed_size zero z = omega arith
shortest_signed_size (suc more) z = split (is_short z) (shortest_signed_size more (high_bits z))
  where
    split : (t : Bool) → length (shortest_signed more (high_bits z)) ≤ more + 1 →
        length (if t then low_bits z ∷ [] else (128 + low_bits z) ∷ shortest_signed more (high_bits z)) ≤ suc more + 1
    split true h = omega arith
    split false h = omega (arith, h)

pub number_size : (n : ℕ) → length (number n) ≤ 10
number_size n = shortest_size 9 n

pub signed_size : (z : ℤ) → length (signed z) ≤ 10
signed_size z = shortest_signed_size 9 z

-- ---- lists

pub text_size : (bytes : List ℕ) → length (text bytes) ≤ 10 + length bytes
text_size bytes = omega (arith, length-append (number (length bytes)) bytes, number_size (length bytes))

pub vector_size : {A : Type 0} (spell : A → List ℕ) (xs : List A) →
    length (vector spell xs) ≤ 10 + length (flat_map spell xs)
vector_size spell xs = omega (arith, length-append (number (length xs)) (flat_map spell xs), number_size (length xs))

-- items of a few bytes each
pub items_size : {A : Type 0} (spell : A → List ℕ) (most : ℕ) → ((x : A) → length (spell x) ≤ most) → (xs : List A) →
    length (flat_map spell xs) ≤ most * length xs
items_size spell most h [] = omega arith
items_size spell most h (x ∷ xs) =
    omega (arith, length-append (spell x) (flat_map spell xs), h x, items_size spell most h xs)

-- an item more
pub more_size : {A : Type 0} (spell : A → List ℕ) (xs : List A) (x : A) →
    length (flat_map spell (xs ++ x ∷ [])) ≡ length (flat_map spell xs) + length (spell x)
more_size spell [] x = omega (arith, length-append (spell x) [])
more_size spell (y ∷ ys) x =
    omega (
      arith,
      length-append (spell y) (flat_map spell (ys ++ x ∷ [])),
      length-append (spell y) (flat_map spell ys),
      more_size spell ys x,
    )

-- ---- modules

abbrev inner_size : Option (List ℕ) → ℕ
inner_size None = 0
inner_size (Some inside) = length inside

filled_size : {A : Type 0} (spell : A → List ℕ) (xs : List A) →
    inner_size (filled spell xs) ≤ 10 + length (flat_map spell xs)
filled_size spell [] = omega arith
filled_size spell (x ∷ xs) = vector_size spell (x ∷ xs)

start_size : (start : Option ℕ) → inner_size (option_map number start) ≤ 10
start_size None = omega arith
start_size (Some index) = number_size index

section_size : (id : ℕ) (inside : Option (List ℕ)) → length (section id inside) ≤ 11 + inner_size inside
section_size id None = omega arith
section_size id (Some inside) = omega (arith, text_size inside)

abbrev total_size : List (Option (List ℕ)) → ℕ
total_size [] = 0
total_size (inside ∷ others) = 11 + inner_size inside + total_size others

sections_size : (id : ℕ) (bodies : List (Option (List ℕ))) → length (sections id bodies) ≤ total_size bodies
sections_size id [] = omega arith
sections_size id (inside ∷ others) =
    omega (
      arith,
      length-append (section id inside) (sections (suc id) others),
      section_size id inside,
      sections_size (suc id) others,
    )

-- the bytes of all items of a module
abbrev pub weight : Module → ℕ
weight m =
    length (flat_map func_type m.types)
    + length (flat_map import m.imports)
    + length (flat_map number m.functions)
    + length (flat_map table m.tables)
    + length (flat_map limits m.memories)
    + length (flat_map global m.globals)
    + length (flat_map export m.exports)
    + length (flat_map element m.elements)
    + length (flat_map code m.codes)
    + length (flat_map segment m.segments)

pub encoded_size : (m : Module) → length (encoded m) ≤ 239 + weight m
encoded_size m =
    let whole : length (sections 1 (contents m)) ≤ total_size (contents m) = sections_size 1 (contents m) in
    omega (
      arith,
      whole,
      filled_size func_type m.types,
      filled_size import m.imports,
      filled_size number m.functions,
      filled_size table m.tables,
      filled_size limits m.memories,
      filled_size global m.globals,
      filled_size export m.exports,
      start_size m.start,
      filled_size element m.elements,
      filled_size code m.codes,
      filled_size segment m.segments,
    )
