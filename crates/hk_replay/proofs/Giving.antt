-- Words and an input have one text and one status.
use Rattle.std.proofs.Common.{◌≡◌, ℕ, ◌⊎◌, inl, inr, List, [], ◌∷◌, ◌++◌, Option, Some, None, ap, sym, subst, ◌∙◌}
use Rattle.std.proofs.Common.{refl}
use Rattle.std.specs.Prelude.{codes}
use Rattle.std.specs.Fmt.{decimal}
use Rattle.hk_base.specs.Hexadecimal.{hex_text}
use Rattle.hk_base.specs.declared.ids.Hash256.{Hash256}
use Rattle.wa_ops.specs.HookRules.{is_hook}
use Rattle.wa_exec.specs.Runs.{OneEnding}
use Rattle.wa_machine.specs.Runs.{IsRun}
use Rattle.hk_api.specs.HostState.{HostState}
use Rattle.hk_chain.specs.Calls.{hook_meaning}
use Rattle.hk_alone.specs.Context as alone
use Rattle.hk_alone.proofs.OneHost.{one_host}
use Rattle.hk_lines.specs.Given.{ended}
use Rattle.hk_asm.specs.Assembling.{asm_given}
use Rattle.hk_lines.specs.OutputForms.{line_text}
use Rattle.hk_lines.specs.declared.output_line.OutputLine.TheVariants as printed
use Rattle.hk_lines.specs.declared.status.Status.{Status}
use Rattle.hk_lines.specs.declared.status.Status.TheVariants.{Done, ReadFault, WriteFault, NoMemory, HookRefused}
use Rattle.hk_loop.specs.Answers.{IsAnswer}
use Rattle.hk_replay.specs.declared.command.Command.{Command}
use Rattle.hk_replay.specs.declared.command.Command.TheVariants.{Hook, Replay, Demo, Asm, Json, Unjson, Other}
use Rattle.hk_replay.specs.declared.command.Question.{Question}
use Rattle.hk_replay.specs.declared.command.Task.{Task}
use Rattle.hk_replay.specs.declared.command.Task.TheVariants.{Check, Run}
use Rattle.hk_replay.specs.Answers.{number, IsAccepted, IsRunOf, IsRefusal, Accepts, IsReply, Replies}
use Rattle.hk_replay.specs.Answers.{hook_code, hook_lines, json_lines, replay_lines, unjson_lines, GivesFor, command_of}
use Rattle.hk_replay.specs.Answers.{IsSame, OneAnswer}
use Rattle.hk_replay.specs.VerdictLines.{cbak_text, refused_line}
use Rattle.hk_replay.specs.Moved.{Answered}
use Rattle.hk_bound.proofs.Verdicts.{one_refusal, holds_or_refused, one_module_held, one_hash, one_hook_bound}
use Rattle.hk_bound.proofs.Verdicts.{one_cbak_bound}

-- an accepted code has one line
accepted_once : (version : ℕ) (code first second : List ℕ) → IsAccepted version code first →
    IsAccepted version code second → first ≡ second
accepted_once version code first second x y =
    x.line
    ∙ ap (λ hash. line_of hash x.held.bound_hook x.held.bound_cbak)
    (one_hash version code x.held y.held x.holds y.holds)
    ∙ ap (λ bound. line_of y.held.hash bound x.held.bound_cbak)
    (one_hook_bound version code x.held y.held x.holds y.holds)
    ∙ ap (λ bound. line_of y.held.hash y.held.bound_hook bound)
    (one_cbak_bound version code x.held y.held x.holds y.holds)
    ∙ sym y.line where
      line_of : Hash256 → ℕ → Option ℕ → List ℕ
      line_of hash bound cbak =
          codes "ok " ++
          (hex_text hash.0 ++ (codes " hook " ++ (decimal bound ++ (codes " cbak " ++ (cbak_text cbak ++ 10 ∷ [])))))

-- and its run has one
run_once : OneEnding HostState → (version : ℕ) (code first second : List ℕ) → IsRunOf version code first →
    IsRunOf version code second → first ≡ second
run_once law version code first second x y =
    let run =
    subst (λ m. IsRun hook_meaning m is_hook 0 (alone.host code x.held) x.outcome x.count x.after)
    (one_module_held version code x.held y.held x.holds y.holds) x.run in
    let from =
    subst (λ h. IsRun hook_meaning y.held.wasm is_hook 0 h x.outcome x.count x.after)
    (one_host version code x.held y.held x.holds y.holds) run in
    let same =
    law hook_meaning y.held.wasm is_hook 0 (alone.host code y.held) x.outcome y.outcome x.count y.count
    x.after y.after from y.run in
    x.line
    ∙ ap (λ outcome. line_text (printed.Run outcome x.count x.held.bound_hook)) same.0
    ∙ ap (λ count. line_text (printed.Run y.outcome count x.held.bound_hook)) same.1
    ∙ ap (λ bound. line_text (printed.Run y.outcome y.count bound))
    (one_hook_bound version code x.held y.held x.holds y.holds)
    ∙ sym y.line

accepts_once : OneEnding HostState → (task : Task) (version : ℕ) (code first second : List ℕ) →
    Accepts task version code first → Accepts task version code second → first ≡ second
accepts_once law Check version code first second x y = accepted_once version code first second x y
accepts_once law Run version code first second x y = run_once law version code first second x y

-- a code is accepted or refused
accepted_not_refused : (task : Task) (version : ℕ) (code first second : List ℕ) → Accepts task version code first →
    IsRefusal version code second → ⊥
accepted_not_refused Check version code first second x y =
    holds_or_refused version code x.held y.found x.holds y.refused y.named
accepted_not_refused Run version code first second x y =
    holds_or_refused version code x.held y.found x.holds y.refused y.named

-- a code has one answer
one_reply : OneEnding HostState → (question : Question) (code first second : List ℕ) (status other : Status) →
    IsReply question code first status → IsReply question code second other →
    IsSame first second status other
one_reply law question code first second Done Done x y =
    record { text = accepts_once law question.task (number question.version) code first second x y; answer = refl }
one_reply law question code first second Done HookRefused x y =
    absurd (accepted_not_refused question.task (number question.version) code first second x y)
one_reply law question code first second Done other x y = absurd y
one_reply law question code first second HookRefused Done x y =
    absurd (accepted_not_refused question.task (number question.version) code second first y x)
one_reply law question code first second HookRefused HookRefused x y =
    let same = one_refusal (number question.version) code x.found y.found x.refused y.refused x.named y.named in
    record { text = x.line ∙ ap refused_line same ∙ sym y.line; answer = refl }
one_reply law question code first second HookRefused other x y = absurd y
one_reply law question code first second status other x y = absurd x

-- so have lines
one_replies : OneEnding HostState → (question : Question) (code : List ℕ) (found : Option Status)
    (shown first second : List ℕ) (status other : Status) →
    Replies question code found shown first status → Replies question code found shown second other →
    IsSame first second status other
one_replies law question code (Some Done) shown first second status other x y =
    one_reply law question code first second status other x y
one_replies law question code (Some found) shown first second status other x y =
    record { text = x.0 ∙ sym y.0; answer = x.1 ∙ sym y.1 }
one_replies law question code None shown first second status other x y = absurd x

same_status : (found : Option Status) (status other : Status) → found ≡ Some status → found ≡ Some other →
    status ≡ other
same_status found status other x y = cc

one_for : OneEnding HostState → (command : Command) (bytes first second : List ℕ) (status other : Status) →
    GivesFor command bytes first status → GivesFor command bytes second other → IsSame first second status other
one_for law (Hook question) bytes first second status other x y =
    one_replies law question (hook_code bytes) (hook_lines bytes ended).status
    (hook_lines bytes ended).text first second status other x y
one_for law Replay bytes first second status other x y =
    record { text = x.0 ∙ sym y.0; answer = same_status (replay_lines bytes ended).status status other x.1 y.1 }
one_for law (Demo payments) bytes first second status other x y =
    record { text = x.0 ∙ sym y.0; answer = x.1 ∙ sym y.1 }
one_for law Asm bytes first second status other x y =
    record { text = x.0 ∙ sym y.0; answer = same_status (asm_given bytes ended).status status other x.1 y.1 }
one_for law Json bytes first second status other x y =
    record { text = x.0 ∙ sym y.0; answer = same_status (json_lines bytes ended).status status other x.1 y.1 }
one_for law Unjson bytes first second status other x y =
    record { text = x.0 ∙ sym y.0; answer = same_status (unjson_lines bytes ended).status status other x.1 y.1 }
one_for law Other bytes first second status other x y = record { text = x.0 ∙ sym y.0; answer = x.1 ∙ sym y.1 }

pub one_answer : OneEnding HostState → OneAnswer
one_answer law words bytes first second status other x y =
    one_for law (command_of words) bytes first second status other x y

-- what is given is the answer, but for want of memory
pub exact_answer : OneEnding HostState → (command : Command) (bytes text : List ℕ) (result status : Status)
    (before now : Option (List ℕ)) →
    (IsAnswer result → Answered command bytes result before now) → (result ≡ ReadFault → ⊥) →
    (result ≡ WriteFault → ⊥) →
    GivesFor command bytes text status → (result ≡ status) ⊎ (result ≡ NoMemory)
exact_answer law command bytes text ReadFault status before now answered no_read no_write given = absurd (no_read refl)
exact_answer law command bytes text WriteFault status before now answered no_read no_write given =
    absurd (no_write refl)
exact_answer law command bytes text NoMemory status before now answered no_read no_write given = inr refl
exact_answer law command bytes text result status before now answered no_read no_write given =
    let mine = answered tt in inl (one_for law command bytes mine.text text result status mine.given given).answer
