-- What was taken from a source and written to a sink when a call of the program ended (this project's own).
use Rattle.std.specs.Prelude.{ℕ, ◌≡◌, ◌≤◌, ◌⊎◌, List, [], ◌++◌, length, Option, Some, None}
use Rattle.std.specs.Io.KnownBytes.{Appends}
use Rattle.hk_lines.specs.Given.{Close, opened, IsFront}
use Rattle.hk_lines.specs.declared.status.Status.{Status}
use Rattle.hk_lines.specs.declared.status.Status.TheVariants.{Done, Usage, WriteFault, NoMemory, TooLong}
use Rattle.hk_loop.specs.Answers.{IsAnswer, WroteFront}
use Rattle.hk_loop.specs.Through.{close_at}
use Rattle.hk_replay.specs.declared.command.Command.{Command}
use Rattle.hk_replay.specs.declared.command.Command.TheVariants.{Hook, Replay, Demo, Asm, Json, Unjson, Other}
use Rattle.hk_replay.specs.declared.command.Question.{Question}
use Rattle.hk_asm.specs.Assembling.{asm_given}
use Rattle.hk_demo.specs.Summary.{demo_line}
use Rattle.hk_replay.specs.Answers.{GivesFor, IsReply, hook_code, hook_lines, json_lines, limit_of, replay_lines}
use Rattle.hk_replay.specs.Answers.{unjson_lines, usage_line}

-- a text was written that is given with this status
pub record Answered (command : Command) (bytes : List ℕ) (status : Status) (before now : Option (List ℕ))
    : Type 0 where
  pub text : List ℕ
  pub given : GivesFor command bytes text status
  pub wrote : Appends before now text

-- the text that lines with one hook make due: nothing while they go on, then what they are answered
abbrev pub RepliesDue : Question → List ℕ → Option Status → List ℕ → List ℕ → Type 0
RepliesDue question code (Some Done) shown text = (status : Status) × IsReply question code text status
RepliesDue question code (Some other) shown text = text ≡ shown
RepliesDue question code None shown text = text ≡ []

-- the text that is due once these bytes were taken, by what comes behind them
abbrev pub DueFor : Command → List ℕ → Close → List ℕ → Type 0
DueFor (Hook question) bytes close text =
    RepliesDue question (hook_code bytes) (hook_lines bytes close).status (hook_lines bytes close).text text
DueFor Replay bytes close text = text ≡ (replay_lines bytes close).text
DueFor (Demo payments) bytes close text = text ≡ demo_line payments
DueFor Asm bytes close text = text ≡ (asm_given bytes close).text
DueFor Json bytes close text = text ≡ (json_lines bytes close).text
DueFor Unjson bytes close text = text ≡ (unjson_lines bytes close).text
DueFor Other bytes close text = text ≡ usage_line

-- these bytes end nothing, so the command reads on; a demo, and words that are no command, read nothing
abbrev pub ReadsOn : Command → List ℕ → Type 0
ReadsOn (Hook question) bytes = (hook_lines bytes opened).status ≡ None
ReadsOn Replay bytes = (replay_lines bytes opened).status ≡ None
ReadsOn (Demo payments) bytes = ⊥
ReadsOn Asm bytes = (asm_given bytes opened).status ≡ None
ReadsOn Json bytes = (json_lines bytes opened).status ≡ None
ReadsOn Unjson bytes = (unjson_lines bytes opened).status ≡ None
ReadsOn Other bytes = ⊥

-- the command takes nothing from its source
abbrev pub ReadsNothing : Command → Type 0
ReadsNothing (Demo payments) = Unit {0}
ReadsNothing Other = Unit {0}
ReadsNothing command = ⊥

-- a front of a text that is due was written, if anything was
pub record WroteDue (command : Command) (bytes : List ℕ) (close : Close) (front : List ℕ) : Type 0 where
  pub text : List ℕ
  pub due : DueFor command bytes close text
  pub is : IsFront front text

-- some bytes were taken and a text was written when the program answered this status
pub record Stops (command : Command) (bytes : List ℕ) (status : Status) (left before now : Option (List ℕ))
    : Type 0 where
  pub taken : List ℕ
  pub rest : List ℕ
  pub front : List ℕ
  pub split : bytes ≡ taken ++ rest
  pub told : left ≡ Some rest
  pub wrote : Appends before now front
  -- no more bytes were taken than may be, and as many where the input is too long
  pub few : length taken ≤ limit_of command
  pub full : status ≡ TooLong → length taken ≡ limit_of command
  -- no more was written than is due for the bytes that were taken
  pub due : (front ≡ []) ⊎ WroteDue command taken (close_at rest) front
  -- no less was written than is due for all of them but the last 65,536
  pub prompt : (early late text : List ℕ) → taken ≡ early ++ late → 65536 ≤ length late →
      DueFor command early opened text → IsFront text front
  -- and these had ended nothing: behind the end or a wrong line no more is taken than that
  pub reads_on : (early late : List ℕ) → taken ≡ early ++ late → 65536 ≤ length late → ReadsOn command early

-- for words that are no command: the usage line, or its front and why no more of it was written
abbrev pub TellsUsage : Status → Option (List ℕ) → Option (List ℕ) → Type 0
TellsUsage Usage before now = Appends before now usage_line
TellsUsage WriteFault before now = WroteFront usage_line before now
TellsUsage NoMemory before now = WroteFront usage_line before now
TellsUsage status before now = ⊥

-- a code's answer was written, or a front of it, if anything was
pub record Tells (question : Question) (code : List ℕ) (status : Status) (before now : Option (List ℕ)) : Type 0 where
  pub front : List ℕ
  pub wrote : Appends before now front
  pub answered : IsAnswer status → IsReply question code front status
  pub due : (front ≡ []) ⊎ ((text : List ℕ) × (other : Status) × IsReply question code text other × IsFront front text)
