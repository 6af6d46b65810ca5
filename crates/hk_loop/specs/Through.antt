-- What a command writes and answers when it has gone through its input, or was stopped (this project's own).
use Rattle.std.specs.Prelude.{◌≡◌, ◌≤◌, ◌⊎◌, ℕ, List, [], ◌∷◌, ◌++◌, length, Option, Some, None}
use Rattle.std.specs.Io.KnownBytes.{Appends}
use Rattle.hk_lines.specs.Given.{Close, opened, ended, Turn, given, gives, so_far, IsFront}
use Rattle.hk_lines.specs.Reached.{reached}
use Rattle.hk_lines.specs.declared.status.Status.{Status}
use Rattle.hk_loop.specs.Answers.{IsAnswer, Gave}
use Rattle.hk_lines.specs.declared.status.Status.TheVariants.{Done, ReadFault, NoMemory, TooLong}

-- where nothing is left the input ends
abbrev pub close_at : List ℕ → Close
close_at [] = ended
close_at (byte ∷ rest) = opened

-- some bytes were taken and a text was written, when a command answered this status
pub record Leaves {S : Type 0} (turn : S → List ℕ → Turn S) (keeps : S → S → Type 0) (limit : ℕ) (start : S)
    (bytes : List ℕ) (status : Status) (final : S) (left before now : Option (List ℕ)) : Type 0 where
  pub taken : List ℕ
  pub rest : List ℕ
  pub front : List ℕ
  pub split : bytes ≡ taken ++ rest
  pub told : left ≡ Some rest
  pub wrote : Appends before now front
  -- no more bytes were taken than may be, and as many where the input is too long
  pub few : length taken ≤ limit
  pub full : status ≡ TooLong → length taken ≡ limit
  -- an answer is that of the bytes that were taken
  pub answered : IsAnswer status → Gave (given turn limit start taken (close_at rest)) status before now
  -- where the command is done, it keeps what it says of the state that these bytes lead to
  pub kept : status ≡ Done → keeps (reached turn limit start taken) final
  -- no more was written than is due for the bytes that were taken
  pub due : IsFront front (given turn limit start taken (close_at rest)).text
  -- no less was written than is due for all of them but the last 65,536
  pub prompt : (early late : List ℕ) → taken ≡ early ++ late → 65536 ≤ length late →
      IsFront (so_far turn limit start early) front
  -- these hadn't ended
  pub goes : (early late : List ℕ) → taken ≡ early ++ late → 65536 ≤ length late →
      (given turn limit start early opened).status ≡ None
  -- where a read failed, all that is due was written, and no end of input was taken for granted
  pub failed : status ≡ ReadFault → front ≡ so_far turn limit start taken

-- where no call failed, the status is that of all bytes, unless there was want of memory
abbrev pub IsExact : {S : Type 0} → (S → List ℕ → Turn S) → ℕ → S → List ℕ → Status → Type 0
IsExact turn limit start bytes status = ((gives turn limit start bytes).status ≡ Some status) ⊎ (status ≡ NoMemory)
