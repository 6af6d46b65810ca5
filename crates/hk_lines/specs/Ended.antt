-- That every input gives something (this project's own).
use Rattle.std.specs.Prelude.{◌≡◌, ℕ, List, Some}
use Rattle.hk_lines.specs.Given.{Given, Turn, gives}
use Rattle.hk_lines.specs.declared.status.Status.{Status}

-- a status is given
abbrev pub HasStatus : Given → Type 0
HasStatus given = (status : Status) × (given.status ≡ Some status)

-- all bytes, with the end of input behind them, give a text and a status
abbrev pub GivesStatus : {S : Type 0} → (S → List ℕ → Turn S) → Type 0
GivesStatus {S} turn = (limit : ℕ) (start : S) (bytes : List ℕ) → HasStatus (gives turn limit start bytes)
