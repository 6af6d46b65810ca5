-- What one read does to a command, its source and its sink (this project's own).
use Rattle.std.specs.Prelude.{◌≡◌, ◌≢◌, ◌≤◌, ◌<◌, ◌+◌, ◌⊎◌, ℕ, List, [], length, Option}
use Rattle.std.specs.Io.KnownBytes.{Appends, Consumes, IsAtEnd}
use Rattle.hk_lines.specs.Cut.{Cut, behind, cut, begun, joined}
use Rattle.hk_lines.specs.Cutting.{IsUnfinished}
use Rattle.hk_lines.specs.Given.{Close, ended, Turn, given_from}
use Rattle.hk_lines.specs.Reached.{state_last, state_from}
use Rattle.hk_lines.specs.declared.status.Status.{Status}
use Rattle.hk_lines.specs.declared.status.Status.TheVariants.{Done, ReadFault, TooLong}
use Rattle.hk_loop.specs.Answers.{IsAnswer, WroteFront, Gave}
use Rattle.hk_loop.specs.Turned.{Went}

-- so many bytes were taken, and what they give was written
pub record GoesOn {S : Type 0} (turn : S → List ℕ → Turn S) (count room : ℕ)
    (state : S) (number : ℕ) (held : List ℕ) (left before : Option (List ℕ))
    (next : S) (number' : ℕ) (held' : List ℕ) (left' now : Option (List ℕ)) : Type 0 where
  pub taken : List ℕ
  pub consumed : Consumes left left' taken
  pub size : length taken ≡ count
  pub some : 0 < count
  pub most : count ≤ room
  pub few : count ≤ 65536
  pub unfinished : IsUnfinished held'
  pub number_grows : number' ≤ number + count
  pub went : Went turn state number held taken before next number' held' now

-- the input ended: all that it gives was written, or its front
pub record EndsAt {S : Type 0} (turn : S → List ℕ → Turn S) (keeps : S → S → Type 0) (status : Status)
    (state : S) (number : ℕ) (held taken : List ℕ) (next : S) (left' before now : Option (List ℕ)) : Type 0 where
  pub nothing : taken ≡ []
  pub at_end : IsAtEnd left'
  pub answered : IsAnswer status → Gave (given_from turn state number (behind held) ended) status before now
  pub stopped : (IsAnswer status → ⊥) → WroteFront (given_from turn state number (behind held) ended).text before now
  pub kept : status ≡ Done → keeps (state_last turn state held) next
  pub no_read_fault : status ≢ ReadFault

-- a piece ended the command: all that is given was written, whatever comes behind, or its front
pub record BreaksAt {S : Type 0} (turn : S → List ℕ → Turn S) (keeps : S → S → Type 0) (status : Status)
    (state : S) (number : ℕ) (held taken : List ℕ) (next : S) (before now : Option (List ℕ)) : Type 0 where
  pub answered : IsAnswer status → (more : Cut) (close : Close) →
      Gave (given_from turn state number (begun held (joined (cut taken) more)) close) status before now
  pub stopped : (IsAnswer status → ⊥) → (more : Cut) (close : Close) →
      WroteFront (given_from turn state number (begun held (joined (cut taken) more)) close).text before now
  pub kept : status ≡ Done → (more : Cut) → keeps (state_from turn state (begun held (joined (cut taken) more))) next
  pub no_read_fault : status ≢ ReadFault

-- the read failed: nothing was taken, and nothing written
pub record FailsAt (status : Status) (taken : List ℕ) (before now : Option (List ℕ)) : Type 0 where
  pub failed : status ≡ ReadFault
  pub nothing : taken ≡ []
  pub still : Appends before now []

-- bytes were taken, and there it stopped
pub record StopsAt {S : Type 0} (turn : S → List ℕ → Turn S) (keeps : S → S → Type 0) (status : Status) (room : ℕ)
    (state : S) (number : ℕ) (held : List ℕ) (left before : Option (List ℕ))
    (next : S) (left' now : Option (List ℕ)) : Type 0 where
  pub taken : List ℕ
  pub consumed : Consumes left left' taken
  pub most : length taken ≤ room
  pub few : length taken ≤ 65536
  pub not_full : status ≢ TooLong
  pub why :
      EndsAt turn keeps status state number held taken next left' before now
      ⊎ (BreaksAt turn keeps status state number held taken next before now ⊎ FailsAt status taken before now)
