-- How often a run passed each guard: counters that are a digital search tree (Coffman and Eve, 1970), the lowest bit of
-- an id first.
use Rattle.std.specs.Prelude.{ℕ, zero, suc, ◌≡◌, ◌+◌, ◌<◌, ◌==◌, ◌++◌, ◌/◌, ◌%◌, ◌⊎◌, List, [], ◌∷◌, Some}
use Rattle.std.specs.Prelude.{if◌then◌else◌, length, slice_get, slice_set}
use Rattle.wa_run.specs.declared.counter.Counter.{Counter}
use Rattle.wa_run.specs.declared.counter.Spot.{Spot}

-- the counters, and how many there is room for
pub record Guards : Type 0 where
  pub items : List Counter
  pub room : ℕ

abbrev pub passed_by : Counter → ℕ → ℕ
passed_by counter id = if counter.id == id then counter.passes else 0

-- how often an id was passed, by the counters that have it
abbrev pub passes_of : List Counter → ℕ → ℕ
passes_of [] id = 0
passes_of (counter ∷ counters) id = passed_by counter id + passes_of counters id

-- the counter that a search begins with
abbrev pub first_counter : Counter
first_counter = record { id = 0; passes = 0; even = 0; odd = 0 }

-- where ids with these bits left go on from a counter; 0 for nowhere
abbrev pub child : Counter → ℕ → ℕ
child counter bits = if bits % 2 == 0 then counter.even else counter.odd

abbrev pub with_child : Counter → ℕ → ℕ → Counter
with_child counter bits place =
    if bits % 2 == 0 then record counter { even = place } else record counter { odd = place }

-- with a counter for this id, which was passed once, behind the one at this spot
abbrev pub with_counter : List Counter → Spot → Counter → ℕ → List Counter
with_counter counters spot counter id =
    slice_set counters spot.place (with_child counter spot.bits (length counters)) ++
    record { id = id; passes = 1; even = 0; odd = 0 } ∷ []

-- the search for an id, at this place with these bits left, meets other ids so many times and then the id's counter at
-- that place
abbrev pub Finds : List Counter → ℕ → ℕ → ℕ → ℕ → ℕ → Type 0
Finds counters id zero place bits found =
    (place ≡ found) × ((counter : Counter) × (slice_get counters place ≡ Some counter) × (counter.id ≡ id))
Finds counters id (suc more) place bits found =
    (counter : Counter) × (slice_get counters place ≡ Some counter) × (counter.id ≡ id → ⊥)
    × (child counter bits ≡ 0 → ⊥) × Finds counters id more (child counter bits) (bits / 2) found

-- nowhere, or further on among so many counters
abbrev pub IsAhead : ℕ → ℕ → ℕ → Type 0
IsAhead size place next = (next ≡ 0) ⊎ ((place < next) × (next < size))

-- each counter is found by its own id, and searches go on towards the end
pub record IsTree (counters : List Counter) : Type 0 where
  pub some : 0 < length counters
  pub ahead : (place : ℕ) (counter : Counter) → slice_get counters place ≡ Some counter →
      IsAhead (length counters) place counter.even × IsAhead (length counters) place counter.odd
  pub found : (place : ℕ) (counter : Counter) → slice_get counters place ≡ Some counter →
      (more : ℕ) × Finds counters counter.id more 0 counter.id place

-- these counters have at each place the same id, and go on as those do
abbrev pub Extends : List Counter → List Counter → Type 0
Extends counters others =
    (place : ℕ) (counter : Counter) → slice_get counters place ≡ Some counter →
    (other : Counter) × (slice_get others place ≡ Some other) × (other.id ≡ counter.id)
    × ((bits : ℕ) → (child counter bits ≡ 0 → ⊥) → child other bits ≡ child counter bits)

-- from this place, with these bits left, the search for an id finds each counter that has it
abbrev pub FindsAll : List Counter → ℕ → ℕ → ℕ → Type 0
FindsAll counters id place bits =
    (found : ℕ) (counter : Counter) → slice_get counters found ≡ Some counter → counter.id ≡ id →
    (more : ℕ) × Finds counters id more place bits found

-- the search for an id comes to this place, with these bits left
abbrev pub ComesTo : List Counter → ℕ → ℕ → ℕ → Type 0
ComesTo counters id place bits =
    (others : List Counter) (found more : ℕ) → Extends counters others → Finds others id more place bits found →
    (steps : ℕ) × Finds others id steps 0 id found

-- where the search for an id ends: at its counter, or where it goes on nowhere
pub record IsSpot (counters : List Counter) (id : ℕ) (spot : Spot) : Type 0 where
  pub counter : Counter
  pub got : slice_get counters spot.place ≡ Some counter
  pub stops : (counter.id ≡ id) ⊎ (child counter spot.bits ≡ 0)
  pub finds : FindsAll counters id spot.place spot.bits
  pub comes : ComesTo counters id spot.place spot.bits
