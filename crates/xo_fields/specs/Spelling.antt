-- What a reader finds at the front of bytes that go on as they may (this project's own words).
use Rattle.std.specs.Prelude.{◌≡◌, ℕ, List, ◌++◌}

-- the bytes begin with a spelling
abbrev pub Begins : (List ℕ → Type 0) → List ℕ → Type 0
Begins spells bytes = (front : List ℕ) × (rest : List ℕ) × spells front × (bytes ≡ front ++ rest)

-- they begin with none, and are the beginning of one
abbrev pub IsCut : (List ℕ → Type 0) → List ℕ → Type 0
IsCut spells bytes = (Begins spells bytes → ⊥) × ((more : List ℕ) × spells (bytes ++ more))

-- neither: however the bytes go on, they begin with no spelling
abbrev pub IsBad : (List ℕ → Type 0) → List ℕ → Type 0
IsBad spells bytes = (Begins spells bytes → ⊥) × ((more : List ℕ) → spells (bytes ++ more) → ⊥)
