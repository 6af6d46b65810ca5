-- Words and an input have some text and some status.
use Rattle.std.proofs.Common.{inl, inr, ℕ, ◌≤◌, List, Option, Some, None, refl, sym, subst, arith}
use Rattle.wa_exec.specs.Runs.{RunsWithin, named}
use Rattle.hk_bound.specs.Checks.{Held, Holds, IsHeld}
use Rattle.hk_bound.specs.declared.fault.Export.{Export}
use Rattle.hk_bound.specs.declared.fault.Export.TheVariants as «export»
use Rattle.hk_api.specs.HostState.{HostState}
use Rattle.hk_chain.specs.Calls.{hook_meaning}
use Rattle.hk_alone.specs.Context as alone
use Rattle.hk_lines.specs.Ended.{HasStatus}
use Rattle.hk_lines.specs.Given.{ended}
use Rattle.hk_lines.specs.Numbers.{longest_input}
use Rattle.hk_lines.specs.declared.status.Status.{Status}
use Rattle.hk_lines.specs.declared.status.Status.TheVariants.{Done, Usage, HookRefused}
use Rattle.hk_lines.specs.OutputForms.{line_text}
use Rattle.hk_lines.specs.declared.output_line.OutputLine.TheVariants as printed
use Rattle.hk_lines.proofs.Ending.{gives_status_law}
use Rattle.hk_ledger.specs.Machine as machine
use Rattle.hk_demo.specs.Summary.{demo_line}
use Rattle.hk_asm.specs.Assembling.{asm_given}
use Rattle.hk_asm.proofs.Telling.{gives_status}
use Rattle.hk_replay.proofs.Deciding.{held_verdict}
use Rattle.hk_replay.specs.declared.command.Command.{Command}
use Rattle.hk_replay.specs.declared.command.Command.TheVariants.{Hook, Replay, Demo, Asm, Json, Unjson, Other}
use Rattle.hk_replay.specs.declared.command.Question.{Question}
use Rattle.hk_replay.specs.declared.command.Task.{Task}
use Rattle.hk_replay.specs.declared.command.Task.TheVariants.{Check, Run}
use Rattle.hk_replay.specs.declared.command.Version.{Version}
use Rattle.hk_replay.specs.declared.command.Version.TheVariants.{Zero, One}
use Rattle.hk_replay.specs.Answers.{number, SomeAnswer, Accepts, IsReply, Replies, GivesFor, hook_code}
use Rattle.hk_json.specs.Turns.{json_turn, unjson_turn}
use Rattle.hk_replay.specs.Answers.{hook_lines, json_lines, replay_lines, unjson_lines, usage_line, command_of}
use Rattle.hk_replay.specs.HookLines.{hook_turn}
use Rattle.hk_replay.specs.VerdictLines.{accepted_line, refused_line}
use Rattle.hk_replay.specs.Verdicts.{HasVerdict}
use Rattle.hk_replay.specs.Replaying.{replay_turn}

-- what is held of a code in a version is held in its own
pub held_so : (version : ℕ) (code : List ℕ) (held : Held) → Holds version code held → IsHeld held
held_so version code held holds =
    record { code = code; holds = subst (λ own. Holds own code held) (sym holds.version_is) holds }

-- each run of a hook has an ending
abbrev pub EachRun : Type 0
EachRun = (held : Held) → IsHeld held → (which : Export) → RunsWithin HostState held.wasm (named which)

-- an accepted code has some answer
some_accepted : EachRun → (task : Task) (version : ℕ) (code : List ℕ) (held : Held) → Holds version code held →
    (text : List ℕ) × Accepts task version code text
some_accepted law Check version code held holds =
    (accepted_line held, record { held = held; holds = holds; line = refl })
some_accepted law Run version code held holds =
    let most =
    law held (held_so version code held holds) «export».Hook version hook_meaning 0 (alone.host code held)
    held.bound_hook (omega arith) holds.bound_hook in (
      line_text (printed.Run most.outcome most.count held.bound_hook),
      record {
        held = held;
        holds = holds;
        outcome = most.outcome;
        count = most.count;
        after = most.after;
        run = most.run;
        line = refl;
      },
    )

-- a code has some answer
some_reply : EachRun → (question : Question) (code : List ℕ) → HasVerdict (number question.version) code →
    (text : List ℕ) × (status : Status) × IsReply question code text status
some_reply law question code (inl (held, holds)) =
    let some = some_accepted law question.task (number question.version) code held holds in (some.0, Done, some.1)
some_reply law question code (inr (found, refused, named)) =
    (refused_line found, HookRefused, record { found = found; refused = refused; named = named; line = refl })

-- so have lines
some_replies : EachRun → (question : Question) (code shown : List ℕ) (status : Status) →
    HasVerdict (number question.version) code →
    (text : List ℕ) × (answer : Status) × Replies question code (Some status) shown text answer
some_replies law question code shown Done verdict = some_reply law question code verdict
some_replies law question code shown other verdict = (shown, other, (refl, refl))

known : (version : Version) → number version ≤ 1
known Zero = omega arith
known One = omega arith

some_for : EachRun → (command : Command) (bytes : List ℕ) →
    (text : List ℕ) × (status : Status) × GivesFor command bytes text status
some_for law (Hook question) bytes =
    let verdict = held_verdict (number question.version) (hook_code bytes) (known question.version) in
    let has : HasStatus (hook_lines bytes ended) = gives_status_law hook_turn longest_input None bytes in
    let some = some_replies law question (hook_code bytes) (hook_lines bytes ended).text has.0 verdict in
    let replies : Option Status → Type 0 =
    λ found. Replies question (hook_code bytes) found (hook_lines bytes ended).text some.0 some.1 in
    (some.0, some.1, subst replies (sym has.1) some.2)
some_for law Replay bytes =
    let has : HasStatus (replay_lines bytes ended) = gives_status_law replay_turn longest_input machine.start bytes in
    ((replay_lines bytes ended).text, has.0, (refl, has.1))
some_for law (Demo payments) bytes = (demo_line payments, Done, (refl, refl))
some_for law Asm bytes = let has = gives_status bytes in ((asm_given bytes ended).text, has.0, (refl, has.1))
some_for law Json bytes =
    let has : HasStatus (json_lines bytes ended) = gives_status_law json_turn longest_input tt bytes in
    ((json_lines bytes ended).text, has.0, (refl, has.1))
some_for law Unjson bytes =
    let has : HasStatus (unjson_lines bytes ended) = gives_status_law unjson_turn longest_input tt bytes in
    ((unjson_lines bytes ended).text, has.0, (refl, has.1))
some_for law Other bytes = (usage_line, Usage, (refl, refl))

pub some_answer : EachRun → SomeAnswer
some_answer law words bytes = some_for law (command_of words) bytes
