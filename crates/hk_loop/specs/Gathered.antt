-- What was taken from a source when all of its bytes were asked for, or as many as may be (this project's own).
use Rattle.std.specs.Prelude.{◌≡◌, ◌≤◌, ◌<◌, ◌⊎◌, ℕ, List, length, Option}
use Rattle.std.specs.Io.KnownBytes.{Consumes, IsAtEnd}
use Rattle.hk_lines.specs.declared.status.Status.{Status}
use Rattle.hk_lines.specs.declared.status.Status.TheVariants.{ReadFault, NoMemory}

-- these bytes were taken: at most as many as may be, and fewer only where nothing is left
pub record Gathered (limit : ℕ) (bytes : List ℕ) (left left' : Option (List ℕ)) : Type 0 where
  pub consumed : Consumes left left' bytes
  pub few : length bytes ≤ limit
  pub whole : length bytes < limit → IsAtEnd left'

-- a read failed, or there was want of memory for what it read, when some bytes were taken
pub record Halted (limit : ℕ) (status : Status) (left left' : Option (List ℕ)) : Type 0 where
  pub taken : List ℕ
  pub consumed : Consumes left left' taken
  pub few : length taken ≤ limit
  pub why : (status ≡ ReadFault) ⊎ (status ≡ NoMemory)
