-- What the program prints and answers, by its words and the bytes of its input (this project's own).
use Rattle.std.specs.Prelude.{ℕ, ◌≡◌, ◌≢◌, ◌≤◌, List, [], ◌∷◌, ◌++◌, codes, if◌then◌else◌, Option, Some, None}
use Rattle.std.specs.Str.{bytes_eq}
use Rattle.hk_base.specs.declared.outcome.Outcome.{Outcome}
use Rattle.wa_ops.specs.HookRules.{is_hook}
use Rattle.wa_machine.specs.Runs.{IsRun}
use Rattle.hk_api.specs.HostState.{HostState}
use Rattle.hk_chain.specs.Calls.{hook_meaning}
use Rattle.hk_alone.specs.Context as alone
use Rattle.hk_bound.specs.Checks.{Held, Holds, IsRefused}
use Rattle.hk_bound.specs.declared.fault.CheckFault.{CheckFault}
use Rattle.hk_bound.specs.declared.fault.CheckFault.TheVariants as fault
use Rattle.hk_lines.specs.Given.{Close, ended, Given, given}
use Rattle.hk_lines.specs.Numbers.{longest_input}
use Rattle.hk_lines.specs.Reached.{reached}
use Rattle.hk_lines.specs.OutputForms.{line_text}
use Rattle.hk_lines.specs.Words.{number_of}
use Rattle.hk_lines.specs.declared.output_line.OutputLine.TheVariants as printed
use Rattle.hk_lines.specs.declared.status.Status.{Status}
use Rattle.hk_lines.specs.declared.status.Status.TheVariants.{Done, Usage, BadInput, ReadFault, WriteFault}
use Rattle.hk_lines.specs.declared.status.Status.TheVariants.{NoMemory, HookRefused, TooLong}
use Rattle.hk_ledger.specs.Machine as machine
use Rattle.hk_demo.specs.Summary.{demo_line}
use Rattle.hk_asm.specs.Assembling.{asm_given, longest_text}
use Rattle.hk_json.specs.Turns.{json_turn, unjson_turn}
use Rattle.hk_replay.specs.declared.command.Command.{Command}
use Rattle.hk_replay.specs.declared.command.Command.TheVariants.{Hook, Replay, Demo, Asm, Json, Unjson, Other}
use Rattle.hk_replay.specs.declared.command.Question.{Question}
use Rattle.hk_replay.specs.declared.command.Task.{Task}
use Rattle.hk_replay.specs.declared.command.Task.TheVariants.{Check, Run}
use Rattle.hk_replay.specs.declared.command.Version.{Version}
use Rattle.hk_replay.specs.declared.command.Version.TheVariants.{Zero, One}
use Rattle.hk_replay.specs.HookLines.{hook_turn}
use Rattle.hk_replay.specs.VerdictLines.{accepted_line, refused_line}
use Rattle.hk_replay.specs.Replaying.{replay_turn}

-- the command that does this with a hook's code, in this version of the machine
abbrev pub hook : Task → Version → Command
hook task version = Hook (record { task = task; version = version })

-- the command that one word names
abbrev pub word_command : List ℕ → Command
word_command word =
    if bytes_eq word (codes "check") then hook Check Zero
    else if bytes_eq word (codes "run") then hook Run Zero
    else if bytes_eq word (codes "check1") then hook Check One
    else if bytes_eq word (codes "run1") then hook Run One
    else if bytes_eq word (codes "replay") then Replay
    else if bytes_eq word (codes "asm") then Asm
    else if bytes_eq word (codes "json") then Json
    else if bytes_eq word (codes "unjson") then Unjson
    else Other

-- how many Payments a demo has, by its second word
abbrev pub payments_of : List ℕ → Option ℕ
payments_of word = number_of 1 100000 word

abbrev pub demo_command : Option ℕ → Command
demo_command None = Other
demo_command (Some payments) = Demo payments

-- the command that the words name
abbrev pub command_of : List (List ℕ) → Command
command_of (word ∷ []) = word_command word
command_of (word ∷ count ∷ []) = if bytes_eq word (codes "demo") then demo_command (payments_of count) else Other
command_of words = Other

-- a demo has no more Payments than may be
abbrev pub IsInRange : Command → Type 0
IsInRange (Demo payments) = payments ≤ 100000
IsInRange command = Unit {0}

abbrev pub usage_line : List ℕ
usage_line = codes "usage: hooks check | run | check1 | run1 | replay | demo N | asm | json | unjson" ++ 10 ∷ []

-- the number of a version of the machine
abbrev pub number : Version → ℕ
number Zero = 0
number One = 1

-- the code is accepted in a version, and told so
pub record IsAccepted (version : ℕ) (code text : List ℕ) : Type 0 where
  pub held : Held
  pub holds : Holds version code held
  pub line : text ≡ accepted_line held

-- the code is accepted, and the line is that of its `hook`, run with argument 0 to its end over the calls of hooks, on
-- a ledger of its own
pub record IsRunOf (version : ℕ) (code text : List ℕ) : Type 0 where
  pub held : Held
  pub holds : Holds version code held
  pub outcome : Outcome
  pub count : ℕ
  pub after : HostState
  pub run : IsRun hook_meaning held.wasm is_hook 0 (alone.host code held) outcome count after
  pub line : text ≡ line_text (printed.Run outcome count held.bound_hook)

-- a run's printed count is at most its printed bound
abbrev pub PrintedCounts : Type 0
PrintedCounts =
    (version : ℕ) (code text : List ℕ) (answer : IsRunOf version code text) → answer.count ≤ answer.held.bound_hook

-- the code is refused in a version, and told so
pub record IsRefusal (version : ℕ) (code text : List ℕ) : Type 0 where
  pub found : CheckFault
  pub refused : IsRefused version code found
  pub named : found ≢ fault.NoMemory
  pub line : text ≡ refused_line found

abbrev pub Accepts : Task → ℕ → List ℕ → List ℕ → Type 0
Accepts Check version code text = IsAccepted version code text
Accepts Run version code text = IsRunOf version code text

-- what a code is answered
abbrev pub IsReply : Question → List ℕ → List ℕ → Status → Type 0
IsReply question code text Done = Accepts question.task (number question.version) code text
IsReply question code text HookRefused = IsRefusal (number question.version) code text
IsReply question code text status = ⊥

-- the lines of `check`, `run`, `check1` and `run1`, which print nothing while they are right
abbrev pub hook_lines : List ℕ → Close → Given
hook_lines bytes close = given hook_turn longest_input None bytes close

-- the lines of `replay`, which give what the ledger machine prints
abbrev pub replay_lines : List ℕ → Close → Given
replay_lines bytes close = given replay_turn longest_input machine.start bytes close

-- the lines of `json`, which show objects, and of `unjson`, which are shown some
abbrev pub json_lines : List ℕ → Close → Given
json_lines bytes close = given json_turn longest_input tt bytes close

abbrev pub unjson_lines : List ℕ → Close → Given
unjson_lines bytes close = given unjson_turn longest_input tt bytes close

-- the code of the hook line, once there is one
abbrev pub code_of : Option (List ℕ) → List ℕ
code_of None = []
code_of (Some code) = code

-- the code to which these lines lead
abbrev pub hook_code : List ℕ → List ℕ
hook_code bytes = code_of (reached hook_turn longest_input None bytes)

-- right lines are answered by their code, and others by what they give
abbrev pub Replies : Question → List ℕ → Option Status → List ℕ → List ℕ → Status → Type 0
Replies question code (Some Done) shown text status = IsReply question code text status
Replies question code (Some other) shown text status = (text ≡ shown) × (status ≡ other)
Replies question code None shown text status = ⊥

-- the text and the status that a command gives for this input
abbrev pub GivesFor : Command → List ℕ → List ℕ → Status → Type 0
GivesFor (Hook question) bytes text status =
    Replies question (hook_code bytes) (hook_lines bytes ended).status (hook_lines bytes ended).text text status
GivesFor Replay bytes text status =
    (text ≡ (replay_lines bytes ended).text) × ((replay_lines bytes ended).status ≡ Some status)
GivesFor (Demo payments) bytes text status = (text ≡ demo_line payments) × (status ≡ Done)
GivesFor Asm bytes text status = (text ≡ (asm_given bytes ended).text) × ((asm_given bytes ended).status ≡ Some status)
GivesFor Json bytes text status =
    (text ≡ (json_lines bytes ended).text) × ((json_lines bytes ended).status ≡ Some status)
GivesFor Unjson bytes text status =
    (text ≡ (unjson_lines bytes ended).text) × ((unjson_lines bytes ended).status ≡ Some status)
GivesFor Other bytes text status = (text ≡ usage_line) × (status ≡ Usage)

abbrev pub Gives : List (List ℕ) → List ℕ → List ℕ → Status → Type 0
Gives words bytes text status = GivesFor (command_of words) bytes text status

-- the bytes of input that are taken at most
abbrev pub limit_of : Command → ℕ
limit_of Asm = longest_text
limit_of command = longest_input

-- the exit status of the process
abbrev pub exit_status : Status → ℕ
exit_status Done = 0
exit_status Usage = 2
exit_status BadInput = 3
exit_status ReadFault = 4
exit_status WriteFault = 5
exit_status NoMemory = 6
exit_status HookRefused = 7
exit_status TooLong = 8

-- words and an input have one text and one status
pub record IsSame (first second : List ℕ) (status other : Status) : Type 0 where
  pub text : first ≡ second
  pub answer : status ≡ other

abbrev pub OneAnswer : Type 0
OneAnswer = (words : List (List ℕ)) (bytes first second : List ℕ) (status other : Status) →
    Gives words bytes first status → Gives words bytes second other → IsSame first second status other

-- words and an input have some text and some status
abbrev pub SomeAnswer : Type 0
SomeAnswer = (words : List (List ℕ)) (bytes : List ℕ) →
    (text : List ℕ) × (status : Status) × Gives words bytes text status
