-- What the body of a command did with a line (this project's own).
use Rattle.std.specs.Prelude.{◌≡◌, ◌++◌, ℕ, List, Option, Some, None}
use Rattle.std.specs.Io.KnownBytes.{Appends}
use Rattle.hk_lines.specs.Cut.{Cut, cut, begun, joined}
use Rattle.hk_lines.specs.Given.{Close, Given, after, Turn, goes, ends, wrong, given_from}
use Rattle.hk_lines.specs.Reached.{state_from}
use Rattle.hk_lines.specs.declared.status.Status.{Status}
use Rattle.hk_lines.specs.declared.status.Status.TheVariants.{Done}
use Rattle.hk_loop.specs.Answers.{IsEnd}
use Rattle.hk_lines.specs.declared.turned.Turned.{Turned}
use Rattle.hk_lines.specs.declared.turned.Turned.TheVariants.{Goes, Ends, Wrong}

-- a turn was done: the state, and the text behind what was there before
abbrev pub Did : {S : Type 0} → Turn S → Turned → S → List ℕ → List ℕ → Type 0
Did (goes state text) Goes now before later = (now ≡ state) × (later ≡ before ++ text)
Did (ends text status) (Ends answer) now before later = (answer ≡ status) × (later ≡ before ++ text) × IsEnd answer
Did (wrong rule) (Wrong answer) now before later = (answer ≡ rule) × (later ≡ before)
Did turn turned now before later = ⊥

-- a text, and then the end with this status, or what more gives
abbrev pub led : Option Status → List ℕ → Given → Given
led None text more = after text more
led (Some status) text more = record { text = text; status = Some status }

-- where it stops, a line ended the command
abbrev pub StopsWell : Option Status → Type 0
StopsWell None = Unit {0}
StopsWell (Some status) = IsEnd status

-- where the lines go on, they lead to the state from which they do; where they are done, the command keeps what it
-- says of the state that they led to
abbrev pub LeadsOn : {S : Type 0} → (S → S → Type 0) → Option Status → S → S → S → Type 0
LeadsOn keeps None reached later now = reached ≡ later
LeadsOn keeps (Some status) reached later now = status ≡ Done → keeps reached now

-- a piece was taken and its text written: what is given from before it is that text, and what is given from there on,
-- whatever comes behind
pub record Went {S : Type 0} (turn : S → List ℕ → Turn S)
    (state : S) (number : ℕ) (held piece : List ℕ) (before : Option (List ℕ))
    (next : S) (number' : ℕ) (held' : List ℕ) (now : Option (List ℕ)) : Type 0 where
  pub text : List ℕ
  pub wrote : Appends before now text
  pub given : (more : Cut) (close : Close) →
      given_from turn state number (begun held (joined (cut piece) more)) close
      ≡ after text (given_from turn next number' (begun held' more) close)
  pub reached : (more : Cut) →
      state_from turn state (begun held (joined (cut piece) more)) ≡ state_from turn next (begun held' more)
