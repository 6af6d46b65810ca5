-- Statuses that are answers to the input, and no accidents.
use Rattle.std.specs.Prelude.{◌≡◌, ◌≢◌, ◌++◌, ℕ, List, Option, Some}
use Rattle.std.specs.Io.KnownBytes.{Appends}
use Rattle.hk_lines.specs.Given.{Given}
use Rattle.hk_lines.specs.declared.status.Status.{Status}
use Rattle.hk_lines.specs.declared.status.Status.TheVariants.{Done, Usage, BadInput, ReadFault, WriteFault, NoMemory}
use Rattle.hk_lines.specs.declared.status.Status.TheVariants.{HookRefused, TooLong}

abbrev pub IsAnswer : Status → Type 0
IsAnswer Done = Unit {0}
IsAnswer Usage = Unit {0}
IsAnswer BadInput = Unit {0}
IsAnswer HookRefused = Unit {0}
IsAnswer TooLong = Unit {0}
IsAnswer ReadFault = ⊥
IsAnswer WriteFault = ⊥
IsAnswer NoMemory = ⊥

-- statuses with which a line ends a command: that the input is too long, or that the words are no command, isn't for a
-- line to say
abbrev pub IsEnd : Status → Type 0
IsEnd status = IsAnswer status × (status ≢ TooLong) × (status ≢ Usage)

-- the front of a text was written
pub record WroteFront (text : List ℕ) (before now : Option (List ℕ)) : Type 0 where
  pub front : List ℕ
  pub more : List ℕ
  pub whole : text ≡ front ++ more
  pub wrote : Appends before now front

-- the text of what is given was written, and the status is its status
pub record Gave (given : Given) (status : Status) (before now : Option (List ℕ)) : Type 0 where
  pub wrote : Appends before now given.text
  pub ended : given.status ≡ Some status
