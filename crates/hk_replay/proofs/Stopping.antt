-- What was taken and written when a command answered.
use Rattle.std.proofs.Common.{◌≡◌, ◌≢◌, ◌≤◌, ℕ, ◌⊎◌, inl, inr, List, [], ◌∷◌, ◌++◌, length, Option, Some, None, ap, sym}
use Rattle.std.proofs.Common.{subst, ◌∙◌, refl, arith, append-nil, length-append}
use Rattle.std.specs.Io.KnownBytes.{Appends}
use Rattle.std.proofs.KnownBytes.{Appends-nil}
use Rattle.hk_lines.specs.Given.{Close, opened, ended, Turn, Given, given, gives, IsFront}
use Rattle.hk_lines.specs.Numbers.{longest_input}
use Rattle.hk_lines.specs.Reached.{reached}
use Rattle.hk_lines.specs.declared.status.Status.{Status}
use Rattle.hk_lines.specs.declared.status.Status.TheVariants.{Done, Usage, BadInput, ReadFault, WriteFault, NoMemory}
use Rattle.hk_lines.specs.declared.status.Status.TheVariants.{HookRefused, TooLong}
use Rattle.hk_loop.specs.Answers.{IsAnswer, WroteFront, Gave}
use Rattle.hk_loop.specs.Through.{close_at, Leaves}
use Rattle.hk_loop.proofs.Exits.{wrote_front}
use Rattle.hk_loop.proofs.Moves.{writes_more}
use Rattle.hk_replay.specs.declared.command.Command.{Command}
use Rattle.hk_replay.specs.declared.command.Command.TheVariants.{Hook, Demo, Other}
use Rattle.hk_replay.specs.declared.command.Question.{Question}
use Rattle.hk_replay.specs.HookLines.{hook_turn}
use Rattle.hk_replay.proofs.HookFolding.{IsRight, hook_silent}
use Rattle.hk_replay.specs.Answers.{GivesFor, IsReply, Replies, code_of, hook_code, hook_lines, limit_of, usage_line}
use Rattle.hk_replay.specs.Moved.{Answered, RepliesDue, DueFor, ReadsOn, WroteDue, Stops, Tells, TellsUsage}

-- ---- a command that answers its lines one by one

module _ {S : Type 0} (command : Command) (turn : S → List ℕ → Turn S) (first : S)
    (most : limit_of command ≡ longest_input)
    (gives_so : (bytes text : List ℕ) (status : Status) → text ≡ (given turn longest_input first bytes ended).text →
    (given turn longest_input first bytes ended).status ≡ Some status → GivesFor command bytes text status)
    (due_so : (bytes text : List ℕ) (close : Close) → text ≡ (given turn longest_input first bytes close).text →
    DueFor command bytes close text)
    (due_is : (bytes text : List ℕ) → DueFor command bytes opened text →
    text ≡ (given turn longest_input first bytes opened).text)
    (reads_so : (bytes : List ℕ) → (given turn longest_input first bytes opened).status ≡ None →
    ReadsOn command bytes) where
  pub each_answered : (start : S) (bytes : List ℕ) (status : Status) (before now : Option (List ℕ)) → start ≡ first →
      Gave (gives turn longest_input start bytes) status before now → Answered command bytes status before now
  each_answered start bytes status before now is gave =
      let g : Gave (given turn longest_input first bytes ended) status before now =
      subst (λ s. Gave (gives turn longest_input s bytes) status before now) is gave in
      let text : List ℕ = (given turn longest_input first bytes ended).text in
      record { text = text; given = gives_so bytes text status refl g.ended; wrote = g.wrote }

  each_left : {keeps : S → S → Type 0} {final : S} (bytes : List ℕ) (status : Status)
      (left before now : Option (List ℕ)) →
      Leaves turn keeps longest_input first bytes status final left before now →
      Stops command bytes status left before now
  each_left bytes status left before now l = record {
    taken = l.taken;
    rest = l.rest;
    front = l.front;
    split = l.split;
    told = l.told;
    wrote = l.wrote;
    few = subst (λ n. length l.taken ≤ n) (sym most) l.few;
    full = λ long. l.full long ∙ sym most;
    due = inr (record {
      text = (given turn longest_input first l.taken (close_at l.rest)).text;
      due = due_so l.taken _ (close_at l.rest) refl;
      is = l.due;
    });
    prompt = λ early late text parts much due.
        subst (λ t. IsFront t l.front) (sym (due_is early text due)) (l.prompt early late parts much);
    reads_on = λ early late parts much. reads_so early (l.goes early late parts much);
  }

  pub each_stops : {keeps : S → S → Type 0} {final : S} (start : S) (bytes : List ℕ) (status : Status)
      (left before now : Option (List ℕ)) → start ≡ first →
      Leaves turn keeps longest_input start bytes status final left before now →
      Stops command bytes status left before now
  each_stops {keeps} {final} start bytes status left before now is l =
      each_left bytes status left before now
      (subst (λ s. Leaves turn keeps longest_input s bytes status final left before now) is l)

-- ---- check and run

abbrev pub Keeps : Option (List ℕ) → Option (List ℕ) → Type 0
Keeps before after = after ≡ before

abbrev hook_leaves : Option (List ℕ) → List ℕ → Status → Option (List ℕ) → (left before now : Option (List ℕ)) → Type 0
hook_leaves start bytes status final left before now =
    Leaves hook_turn Keeps longest_input start bytes status final left before now

-- lines that are right have printed nothing
silent_at : (bytes : List ℕ) (close : Close) (found : Option Status) → IsRight found →
    (hook_lines bytes close).status ≡ found →
    (hook_lines bytes close).text ≡ []
silent_at bytes close found right is = hook_silent longest_input bytes close (subst IsRight (sym is) right)

-- a front of nothing is nothing
front_nothing : (front text : List ℕ) → IsFront front text → text ≡ [] → front ≡ []
front_nothing [] text is none = refl
front_nothing (byte ∷ front) text (more, is) none = let no : [] ≡ byte ∷ (front ++ more) = sym none ∙ is in absurd (cc)

module _ (question : Question) where
  -- a front of what lines give, as a front of what is due
  due_left : (code shown front : List ℕ) (found : Option Status) → (IsRight found → shown ≡ []) → IsFront front shown →
      (front ≡ []) ⊎ ((text : List ℕ) × RepliesDue question code found shown text × IsFront front text)
  due_left code shown front (Some Done) silent is = inl (front_nothing front shown is (silent tt))
  due_left code shown front None silent is = inl (front_nothing front shown is (silent tt))
  due_left code shown front (Some other) silent is = inr (shown, refl, is)

  -- nothing was due for all but the last bytes
  nothing_due : (code shown text front : List ℕ) (found : Option Status) → found ≡ None →
      RepliesDue question code found shown text → IsFront text front
  nothing_due code shown text front None none due = (front, ap (λ t. t ++ front) (sym due))
  nothing_due code shown text front (Some status) none due = absurd (cc)

  due_of : (front taken : List ℕ) (close : Close) →
      (front ≡ []) ⊎ ((text : List ℕ) × DueFor (Hook question) taken close text × IsFront front text) →
      (front ≡ []) ⊎ WroteDue (Hook question) taken close front
  due_of front taken close (inl none) = inl none
  due_of front taken close (inr (text, due, is)) = inr (record { text = text; due = due; is = is })

  -- what was taken, and what was written of what is due for it
  left_with : (bytes : List ℕ) (status : Status) (final left before mid : Option (List ℕ))
      (l : hook_leaves None bytes status final left before mid)
      (answer : Status) (front : List ℕ) (now : Option (List ℕ)) → Appends before now front →
      (answer ≡ TooLong → status ≡ TooLong) →
      (front ≡ []) ⊎ WroteDue (Hook question) l.taken (close_at l.rest) front → Stops
      (Hook question) bytes answer left before now
  left_with bytes status final left before mid l answer front now wrote full due = record {
    taken = l.taken;
    rest = l.rest;
    front = front;
    split = l.split;
    told = l.told;
    wrote = wrote;
    few = l.few;
    full = λ long. l.full (full long);
    due = due;
    prompt = λ early late text parts much is.
        nothing_due (hook_code early) (hook_lines early opened).text text front (hook_lines early opened).status
        (l.goes early late parts much) is;
    reads_on = l.goes;
  }

  -- ---- where the lines stopped it

  pub lines_stops : (start : Option (List ℕ)) (bytes : List ℕ) (status : Status)
      (final left before now : Option (List ℕ)) → start ≡ None →
      hook_leaves start bytes status final left before now → Stops (Hook question) bytes status left before now
  lines_stops start bytes status final left before now none leaves =
      let l : hook_leaves None bytes status final left before now =
      subst (λ s. hook_leaves s bytes status final left before now) none leaves in
      let lines : Given = hook_lines l.taken (close_at l.rest) in
      left_with bytes status final left before now l status l.front now l.wrote (λ long. long)
      (due_of l.front l.taken (close_at l.rest)
      (due_left (hook_code l.taken) lines.text l.front lines.status
      (λ right. hook_silent longest_input l.taken (close_at l.rest) right) l.due))

  wrong_replies : (code shown : List ℕ) (found : Option Status) (status : Status) → found ≡ Some status →
      status ≢ Done →
      Replies question code found shown shown status
  wrong_replies code shown found status is apart =
      subst (λ f. Replies question code f shown shown status) (sym is) (of status apart) where
        of : (status : Status) → status ≢ Done → Replies question code (Some status) shown shown status
        of Done apart = absurd (apart refl)
        of other apart = (refl, refl)

  pub lines_answered : (start : Option (List ℕ)) (bytes : List ℕ) (status : Status) (before now : Option (List ℕ)) →
      start ≡ None → status ≢ Done →
      Gave (gives hook_turn longest_input start bytes) status before now → Answered
      (Hook question) bytes status before now
  lines_answered start bytes status before now none apart gave =
      let g : Gave (hook_lines bytes ended) status before now =
      subst (λ s. Gave (gives hook_turn longest_input s bytes) status before now) none gave in
      record {
        text = (hook_lines bytes ended).text;
        given =
            wrong_replies (hook_code bytes) (hook_lines bytes ended).text
            (hook_lines bytes ended).status status g.ended apart;
        wrote = g.wrote;
      }

  -- ---- where they were right, and their code was answered

  -- nothing was written before the answer
  answer_wrote : (shown front : List ℕ) (before mid now : Option (List ℕ)) → shown ≡ [] → Appends before mid shown →
      Appends mid now front →
      Appends before now front
  answer_wrote shown front before mid now none first more =
      writes_more before mid now [] front (subst (Appends before mid) none first) more

  pub code_answered : (start : Option (List ℕ)) (bytes code : List ℕ) (status : Status)
      (final before mid now : Option (List ℕ)) → start ≡ None →
      Gave (gives hook_turn longest_input start bytes) Done before mid →
      final ≡ reached hook_turn longest_input start bytes → code ≡ code_of final →
      Tells question code status mid now → IsAnswer status → Answered (Hook question) bytes status before now
  code_answered start bytes code status final before mid now none gave kept is tells answer =
      let g : Gave (hook_lines bytes ended) Done before mid =
      subst (λ s. Gave (gives hook_turn longest_input s bytes) Done before mid) none gave in
      let same : code ≡ hook_code bytes =
      is ∙ ap code_of (kept ∙ ap (λ s. reached hook_turn longest_input s bytes) none) in
      let reply : IsReply question (hook_code bytes) tells.front status =
      subst (λ c. IsReply question c tells.front status) same (tells.answered answer) in
      record {
        text = tells.front;
        given =
            subst (λ found. Replies question (hook_code bytes) found (hook_lines bytes ended).text tells.front status)
            (sym g.ended) reply;
        wrote =
            answer_wrote (hook_lines bytes ended).text tells.front before mid now
            (silent_at bytes ended (Some Done) tt g.ended) g.wrote tells.wrote;
      }

  no_reply_too_long : (code front : List ℕ) (status : Status) →
      (IsAnswer status → IsReply question code front status) → status ≡ TooLong → ⊥
  no_reply_too_long code front status answered is =
      let r : IsReply question code front TooLong = subst (λ s. IsReply question code front s) is
      (answered (subst IsAnswer (sym is) tt)) in r

  reply_due : (code known shown front : List ℕ) (found : Option Status) → found ≡ Some Done → code ≡ known →
      (front ≡ []) ⊎ ((text : List ℕ) × (other : Status) × IsReply question code text other × IsFront front text) →
      (front ≡ []) ⊎ ((text : List ℕ) × RepliesDue question known found shown text × IsFront front text)
  reply_due code known shown front found over is (inl none) = inl none
  reply_due code known shown front found over is (inr (text, other, reply, more)) =
      let mine = subst (λ c. IsReply question c text other) is reply in
      inr (text, subst (λ f. RepliesDue question known f shown text) (sym over) (other, mine), more)

  pub code_stops : (start : Option (List ℕ)) (bytes code : List ℕ) (status : Status)
      (final left before mid now : Option (List ℕ)) → start ≡ None →
      hook_leaves start bytes Done final left before mid → code ≡ code_of final → Tells question code status mid now →
      Stops (Hook question) bytes status left before now
  code_stops start bytes code status final left before mid now none leaves is tells =
      let l : hook_leaves None bytes Done final left before mid =
      subst (λ s. hook_leaves s bytes Done final left before mid) none leaves in
      let lines : Given = hook_lines l.taken (close_at l.rest) in
      let g : Gave lines Done before mid = l.answered tt in
      let same : code ≡ hook_code l.taken = is ∙ ap code_of (l.kept refl) in
      left_with bytes Done final left before mid l status tells.front now
      (answer_wrote lines.text tells.front before mid now (silent_at l.taken (close_at l.rest) (Some Done) tt g.ended)
      g.wrote tells.wrote)
      (λ long. absurd (no_reply_too_long code tells.front status tells.answered long))
      (due_of tells.front l.taken (close_at l.rest)
      (reply_due code (hook_code l.taken) lines.text tells.front lines.status g.ended same tells.due))

-- a code's answer was written, or a front of it
module _ (question : Question) (code text : List ℕ) (status : Status) (before now : Option (List ℕ))
    (reply : IsReply question code text status) where
  told_all : (result : Status) → (result ≡ status) × Appends before now text → Tells question code result before now
  told_all result (is, wrote) = record {
    front = text;
    wrote = wrote;
    answered = λ _. subst (λ s. IsReply question code text s) (sym is) reply;
    due = inr (text, status, reply, ([], sym (append-nil text)));
  }

  told_front : (result : Status) → (IsAnswer result → ⊥) → WroteFront text before now →
      Tells question code result before now
  told_front result none w = record {
    front = w.front;
    wrote = w.wrote;
    answered = λ answer. absurd (none answer);
    due = inr (text, status, reply, (w.more, w.whole));
  }

  pub told : (result : Status) → (IsAnswer result → (result ≡ status) × Appends before now text) →
      ((IsAnswer result → ⊥) → WroteFront text before now) → Tells question code result before now
  told ReadFault whole front = told_front ReadFault (λ a. a) (front (λ a. a))
  told WriteFault whole front = told_front WriteFault (λ a. a) (front (λ a. a))
  told NoMemory whole front = told_front NoMemory (λ a. a) (front (λ a. a))
  told Done whole front = told_all Done (whole tt)
  told Usage whole front = told_all Usage (whole tt)
  told BadInput whole front = told_all BadInput (whole tt)
  told HookRefused whole front = told_all HookRefused (whole tt)
  told TooLong whole front = told_all TooLong (whole tt)

-- ---- other words

-- a status that answers is that of the usage line
pub tells_usage : (result : Status) (before now : Option (List ℕ)) →
    (IsAnswer result → (result ≡ Usage) × Appends before now usage_line) →
    ((IsAnswer result → ⊥) → WroteFront usage_line before now) → result ≢ ReadFault → TellsUsage result before now
tells_usage Usage before now whole front apart = (whole tt).1
tells_usage WriteFault before now whole front apart = front (λ a. a)
tells_usage NoMemory before now whole front apart = front (λ a. a)
tells_usage ReadFault before now whole front apart = absurd (apart refl)
tells_usage other before now whole front apart = let is : other ≡ Usage = (whole tt).0 in absurd (cc)

-- ---- a text that is due at once, and nothing taken

module _ (command : Command) (text : List ℕ) (status : Status) (bytes : List ℕ) (short : status ≢ TooLong)
    (due : (close : Close) → DueFor command [] close text) where
  -- nothing was taken, and a front of the text was written, if anything was
  stopped : (result : Status) (left before now : Option (List ℕ)) → left ≡ Some bytes →
      (w : WroteFront text before now) →
      (result ≢ TooLong) → Stops command bytes result left before now
  stopped result left before now told w apart = record {
    taken = [];
    rest = bytes;
    front = w.front;
    split = refl;
    told = told;
    wrote = w.wrote;
    few = omega arith;
    full = λ long. absurd (apart long);
    due = inr (record { text = text; due = due (close_at bytes); is = (w.more, w.whole) });
    prompt = λ early late text parts much is. absurd (omega (arith, ap length parts, length-append early late));
    reads_on = λ early late parts much. absurd (omega (arith, ap length parts, length-append early late));
  }

  pub at_once : (result : Status) (left before now : Option (List ℕ)) → left ≡ Some bytes →
      (IsAnswer result → (result ≡ status) × Appends before now text) →
      ((IsAnswer result → ⊥) → WroteFront text before now) → (result ≡ TooLong → status ≡ TooLong) →
      Stops command bytes result left before now
  at_once result left before now told whole front full =
      stopped result left before now told
      (wrote_front result (record { text = text; status = Some result }) before now
      (λ is. record { wrote = (whole is).1; ended = refl }) front)
      (λ long. short (full long))

-- for want of memory nothing was taken and written
pub nothing_stops : (command : Command) (bytes : List ℕ) (left now : Option (List ℕ)) → left ≡ Some bytes →
    Stops command bytes NoMemory left now now
nothing_stops command bytes left now told = record {
  taken = [];
  rest = bytes;
  front = [];
  split = refl;
  told = told;
  wrote = Appends-nil now;
  few = omega arith;
  full = λ long. cc;
  due = inl refl;
  prompt = λ early late text parts much is. absurd (omega (arith, ap length parts, length-append early late));
  reads_on = λ early late parts much. absurd (omega (arith, ap length parts, length-append early late));
}

-- and that is a front of the usage line
pub nothing_told : (now : Option (List ℕ)) → TellsUsage NoMemory now now
nothing_told now = record { front = []; more = usage_line; whole = refl; wrote = Appends-nil now }

pub usage_stops : (command : Command) (bytes : List ℕ) (result : Status) (left before now : Option (List ℕ)) →
    Other ≡ command → left ≡ Some bytes →
    (IsAnswer result → (result ≡ Usage) × Appends before now usage_line) →
    ((IsAnswer result → ⊥) → WroteFront usage_line before now) → (result ≡ TooLong → Usage ≡ TooLong) →
    Stops command bytes result left before now
usage_stops command bytes result left before now named told whole front full =
    subst (λ c. Stops c bytes result left before now) named
    (at_once Other usage_line Usage bytes (λ no. cc) (λ close. refl) result left before now told whole front full)

-- a demo stops as its command does
pub demo_stops : (command : Command) (payments : ℕ) (bytes : List ℕ) (result : Status)
    (left before now : Option (List ℕ)) →
    Demo payments ≡ command → left ≡ Some bytes →
    ((taken : List ℕ) → Stops (Demo payments) taken result (Some taken) before now) →
    Stops command bytes result left before now
demo_stops command payments bytes result left before now named told stops =
    subst (λ l. Stops command bytes result l before now) (sym told)
    (subst (λ c. Stops c bytes result (Some bytes) before now) named (stops bytes))
