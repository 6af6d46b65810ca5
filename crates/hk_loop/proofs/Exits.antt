-- What stands where a command has gone through its input, or was stopped on the way.
use Rattle.std.proofs.Common.{◌≡◌, ◌≢◌, ◌⊎◌, ◌<◌, ◌≤◌, ◌+◌, ◌-◌, ℕ, nat_le, false, if◌then◌else◌, List, [], ◌++◌}
use Rattle.std.proofs.Common.{length, take, drop, Option, Some, None, refl, sym, ap, subst, ◌∙◌, inl, inr, arith}
use Rattle.std.proofs.Common.{append_assoc, append-nil, length-append}
use Rattle.std.proofs.Math.Seq.{take-append-add}
use Rattle.std.proofs.lemmas.Bool.Decides.{nat_tests}
use Rattle.std.proofs.lemmas.List.{take-append-drop, take-append-le, take_all}
use Rattle.std.specs.Io.KnownBytes.{Consumes, Appends, IsAtEnd}
use Rattle.hk_base.specs.Outside.{Rose}
use Rattle.hk_lines.specs.Cut.{Cut, behind, whole, cut, begun, joined}
use Rattle.hk_lines.specs.Cutting.{IsUnfinished}
use Rattle.hk_lines.specs.Given.{Close, opened, ended, full, Given, after, bad, too_long, Turn, given_from, given_last}
use Rattle.hk_lines.specs.Given.{close_of, given, gives, so_far, IsFront}
use Rattle.hk_lines.specs.Numbers.{endless_line}
use Rattle.hk_lines.specs.Reached.{state_last, state_from, reached}
use Rattle.hk_lines.specs.declared.rule.Rule.TheVariants.{LineTooLong}
use Rattle.hk_lines.specs.declared.status.Status.{Status}
use Rattle.hk_lines.specs.declared.status.Status.TheVariants.{Done, Usage, BadInput, ReadFault, WriteFault, NoMemory}
use Rattle.hk_lines.specs.declared.status.Status.TheVariants.{HookRefused, TooLong}
use Rattle.hk_lines.proofs.CutLemmas.{cut_joined, joined_joined}
use Rattle.hk_lines.proofs.Due.{front_after, from_front, given_full, given_short}
use Rattle.hk_loop.specs.Answers.{IsAnswer, WroteFront, Gave}
use Rattle.hk_loop.specs.Causes.{HasCause, HasSinkCause}
use Rattle.hk_loop.specs.Going.{StopsAt, EndsAt, BreaksAt, FailsAt}
use Rattle.hk_loop.specs.Through.{close_at, Leaves}
use Rattle.hk_loop.proofs.Invariant.{Going}
use Rattle.hk_loop.proofs.Ended.{from_stays, not_yet}
use Rattle.hk_loop.proofs.Moves.{takes_more, writes_more}

-- ---- known bytes

-- of known bytes some were taken, and the rest is left
pub record Took (bytes taken : List ℕ) (left : Option (List ℕ)) : Type 0 where
  pub rest : List ℕ
  pub told : left ≡ Some rest
  pub split : bytes ≡ taken ++ rest

pub took : (before left : Option (List ℕ)) (taken bytes : List ℕ) → Consumes before left taken → before ≡ Some bytes →
    Took bytes taken left
took None left taken bytes h is = absurd (cc)
took (Some all) None taken bytes h is = absurd h
took (Some all) (Some rest) taken bytes h is =
    let same : bytes ≡ all = cc in
    record { rest = rest; told = refl; split = same ∙ h }

-- at the end of known bytes nothing is left
at_end_none : (left : Option (List ℕ)) (rest : List ℕ) → IsAtEnd left → left ≡ Some rest → rest ≡ []
at_end_none None rest h is = absurd (cc)
at_end_none (Some all) rest h is = let same : rest ≡ all = cc in same ∙ h

-- ---- fronts

-- what two pairs of parts make: the earlier is a front of the first where the later is at least as long
front_of : (early late first more : List ℕ) → first ++ more ≡ early ++ late → length more ≤ length late →
    first ≡ early ++ drop (length early) first
front_of early late first more is longer =
    let sizes : length first + length more ≡ length early + length late =
    sym (length-append first more) ∙ ap length is ∙ length-append early late in
    let fits : length early ≤ length first = omega (arith, sizes) in
    let same : take (length early) first ≡ early =
    sym (take-append-le (length early) first more fits) ∙ ap (take (length early)) is
    ∙ take-append-le (length early) early late (omega arith) ∙ take_all (length early) early (omega arith) in
    sym (take-append-drop (length early) first) ∙ ap (λ f. f ++ drop (length early) first) same

-- a front stays one where the text goes on
front_more : (front text more : List ℕ) → IsFront front text → IsFront front (text ++ more)
front_more front text more (rest, is) = (rest ++ more, ap (λ t. t ++ more) is ∙ append_assoc front rest more)

-- ---- what is given

-- nothing is joined
joined_nothing : (c : Cut) → joined c (behind []) ≡ c
joined_nothing (behind bytes) = ap behind (append-nil bytes)
joined_nothing (whole line more) = ap (whole line) (joined_nothing more)

-- what was written before, and then what is given from there on
gave_after : (front : List ℕ) (later all : Given) (status : Status) (start before now : Option (List ℕ)) →
    Appends start before front → all ≡ after front later → Gave later status before now → Gave all status start now
gave_after front later all status start before now wrote is gave = record {
  wrote = subst (λ g. Appends start now g.text) (sym is) (writes_more _ _ _ _ _ wrote gave.wrote);
  ended = ap (λ g. g.status) is ∙ gave.ended;
}

-- what is given was written or its front, by whether the status is an answer
pub wrote_front : (status : Status) (given : Given) (before now : Option (List ℕ)) →
    (IsAnswer status → Gave given status before now) →
    ((IsAnswer status → ⊥) → WroteFront given.text before now) → WroteFront given.text before now
wrote_front status given before now answered stopped = of_either status answered stopped where
  all : {status : Status} → Gave given status before now → WroteFront given.text before now
  all gave = record { front = given.text; more = []; whole = sym (append-nil given.text); wrote = gave.wrote }

  of_either : (status : Status) → (IsAnswer status → Gave given status before now) →
      ((IsAnswer status → ⊥) → WroteFront given.text before now) → WroteFront given.text before now
  of_either Done answered stopped = all (answered tt)
  of_either Usage answered stopped = all (answered tt)
  of_either BadInput answered stopped = all (answered tt)
  of_either HookRefused answered stopped = all (answered tt)
  of_either TooLong answered stopped = all (answered tt)
  of_either ReadFault answered stopped = stopped (λ no. no)
  of_either WriteFault answered stopped = stopped (λ no. no)
  of_either NoMemory answered stopped = stopped (λ no. no)

-- an input that is too long is never done
pub never_done : {X : Type 0} (status : Status) → (IsAnswer status → (status ≡ TooLong) × X) → status ≡ Done → ⊥
never_done status answered done =
    let long : status ≡ TooLong = (answered (subst IsAnswer (sym done) tt)).0 in absurd (cc)

module _ {S : Type 0} (turn : S → List ℕ → Turn S) where
  -- what is given for bytes up to the limit
  given_on : (limit : ℕ) (start : S) (bytes more : List ℕ) (close : Close) → length bytes ≤ limit →
      given turn limit start (bytes ++ more) close
      ≡ given_from turn start 1 (joined (cut bytes) (cut (take (limit - length bytes) more)))
      (close_of turn limit (bytes ++ more) close)
  given_on limit start bytes more close fits =
      let sum : limit ≡ length bytes + (limit - length bytes) = omega arith in
      let same : take limit (bytes ++ more) ≡ bytes ++ take (limit - length bytes) more =
      ap (λ n. take n (bytes ++ more)) sum ∙ take-append-add bytes more (limit - length bytes) in
      ap (λ c. given_from turn start 1 c (close_of turn limit (bytes ++ more) close))
      (ap cut same ∙ cut_joined bytes (take (limit - length bytes) more))

  given_at : (limit : ℕ) (start : S) (bytes : List ℕ) (close : Close) → length bytes ≤ limit →
      given turn limit start bytes close
      ≡ given_from turn start 1 (joined (cut bytes) (behind [])) (close_of turn limit bytes close)
  given_at limit start bytes close fits =
      ap (λ c. given_from turn start 1 c (close_of turn limit bytes close))
      (ap cut (take_all limit bytes fits) ∙ sym (joined_nothing (cut bytes)))

  -- an unfinished line isn't endless
  unfinished_last : (state : S) (number : ℕ) (held : List ℕ) (close : Close) → IsUnfinished held →
      given_from turn state number (behind held) close ≡ given_last turn state number held close
  unfinished_last state number held close unfinished =
      let short : length held < endless_line = unfinished.1 in
      let test : nat_le endless_line (length held) ≡ false = grind (arith, nat_tests) in
      ap (λ t. if t then bad number LineTooLong else given_last turn state number held close) test

-- a command that has taken some bytes
module _ {S : Type 0} (turn : S → List ℕ → Turn S) (limit room : ℕ) (start state : S) (number : ℕ) (held : List ℕ)
    (left0 left written0 written : Option (List ℕ))
    (was : Going turn limit room start state number held left0 left written0 written) where
  -- what those bytes give, however it goes on
  given_taken : (close : Close) →
      given_from turn start 1 (cut was.taken) close ≡ after was.front (given_last turn state number held close)
  given_taken close =
      ap (λ c. given_from turn start 1 c close) (sym (joined_nothing (cut was.taken)))
      ∙ was.given (behind []) close
      ∙ ap (λ h. after was.front (given_from turn state number (behind h) close)) (append-nil held)
      ∙ ap (after was.front) (unfinished_last turn state number held close was.unfinished)

  -- the text written so far is what is due for them
  front_taken : (given_from turn start 1 (cut was.taken) opened).text ≡ was.front
  front_taken = ap (λ g. g.text) (given_taken opened) ∙ append-nil was.front

  -- and nothing has ended
  goes_taken : (given_from turn start 1 (cut was.taken) opened).status ≡ None
  goes_taken = ap (λ g. g.status) (given_taken opened)

  -- what those bytes and a piece more give
  given_more : (piece : List ℕ) (more : Cut) (close : Close) →
      given_from turn start 1 (joined (cut (was.taken ++ piece)) more) close
      ≡ after was.front (given_from turn state number (begun held (joined (cut piece) more)) close)
  given_more piece more close =
      ap (λ c. given_from turn start 1 (joined c more) close) (cut_joined was.taken piece)
      ∙ ap (λ c. given_from turn start 1 c close) (joined_joined (cut was.taken) (cut piece) more)
      ∙ was.given (joined (cut piece) more) close

  -- what was due for all but so many of the bytes was written before the last piece was taken
  prompt_front : (piece early late : List ℕ) → length (was.taken ++ piece) ≤ limit → length piece ≤ 65536 →
      was.taken ++ piece ≡ early ++ late →
      65536 ≤ length late → IsFront (so_far turn limit start early) was.front
  prompt_front piece early late few size is much =
      let rest : List ℕ = drop (length early) was.taken in
      let parts : was.taken ≡ early ++ rest = front_of early late was.taken piece is (omega arith) in
      let below : length early < limit = omega (arith, ap length is, length-append early late) in
      let due : so_far turn limit start early ≡ (given_from turn start 1 (cut early) opened).text =
      ap (λ g. g.text) (given_short turn limit start early opened below) in
      let all : (given_from turn start 1 (joined (cut early) (cut rest)) opened).text ≡ was.front =
      ap (λ c. (given_from turn start 1 c opened).text) (sym (cut_joined early rest) ∙ ap cut (sym parts))
      ∙ front_taken in
      subst (λ text. IsFront text was.front) (sym due)
      (subst (λ text. IsFront (given_from turn start 1 (cut early) opened).text text) all
      (from_front turn (cut early) (cut rest) start 1 opened))

  -- all but so many of the bytes had ended nothing
  goes_front : (piece early late : List ℕ) → length (was.taken ++ piece) ≤ limit → length piece ≤ 65536 →
      was.taken ++ piece ≡ early ++ late →
      65536 ≤ length late → (given turn limit start early opened).status ≡ None
  goes_front piece early late few size is much =
      let rest : List ℕ = drop (length early) was.taken in
      let parts : was.taken ≡ early ++ rest = front_of early late was.taken piece is (omega arith) in
      let below : length early < limit = omega (arith, ap length is, length-append early late) in
      let joins : cut was.taken ≡ joined (cut early) (cut rest) = ap cut parts ∙ cut_joined early rest in
      let none : (given_from turn start 1 (joined (cut early) (cut rest)) opened).status ≡ None =
      ap (λ c. (given_from turn start 1 c opened).status) (sym joins) ∙ goes_taken in
      ap (λ g. g.status) (given_short turn limit start early opened below)
      ∙ not_yet (given_from turn start 1 (cut early) opened)
      (given_from turn start 1 (joined (cut early) (cut rest)) opened)
      (from_stays turn (cut early) (cut rest) start 1 opened) none

  -- ---- the states that bytes lead to

  reached_more : (piece : List ℕ) (more : Cut) →
      state_from turn start (joined (cut (was.taken ++ piece)) more)
      ≡ state_from turn state (begun held (joined (cut piece) more))
  reached_more piece more =
      ap (λ c. state_from turn start (joined c more)) (cut_joined was.taken piece)
      ∙ ap (state_from turn start) (joined_joined (cut was.taken) (cut piece) more)
      ∙ was.reached (joined (cut piece) more)

  reached_taken : (piece : List ℕ) → length piece ≤ room →
      reached turn limit start (was.taken ++ piece)
      ≡ state_from turn state (begun held (joined (cut piece) (behind [])))
  reached_taken piece most =
      let few : length (was.taken ++ piece) ≤ limit = omega (arith, length-append was.taken piece, was.size) in
      ap (state_from turn start)
      (ap cut (take_all limit (was.taken ++ piece) few) ∙ sym (joined_nothing (cut (was.taken ++ piece))))
      ∙ reached_more piece (behind [])

  reached_on : (piece rest : List ℕ) → length piece ≤ room →
      (more : Cut) × (reached turn limit start ((was.taken ++ piece) ++ rest)
      ≡ state_from turn state (begun held (joined (cut piece) more)))
  reached_on piece rest most =
      let few : length (was.taken ++ piece) ≤ limit = omega (arith, length-append was.taken piece, was.size) in
      let left : ℕ = limit - length (was.taken ++ piece) in
      let sum : limit ≡ length (was.taken ++ piece) + left = omega arith in
      let same : take limit ((was.taken ++ piece) ++ rest) ≡ (was.taken ++ piece) ++ take left rest =
      ap (λ n. take n ((was.taken ++ piece) ++ rest)) sum ∙ take-append-add (was.taken ++ piece) rest left in (
        cut (take left rest),
        ap (state_from turn start) (ap cut same ∙ cut_joined (was.taken ++ piece) (take left rest))
            ∙ reached_more piece (cut (take left rest)),
      )

  reached_end : (piece : List ℕ) → piece ≡ [] →
      state_from turn state (begun held (joined (cut piece) (behind []))) ≡ state_last turn state held
  reached_end piece nothing =
      ap (λ p. state_from turn state (begun held (joined (cut p) (behind [])))) nothing
      ∙ ap (state_last turn state) (append-nil held)

  stops_kept : {keeps : S → S → Type 0} {final : S} (piece rest bytes : List ℕ) (status : Status)
      (left' written' : Option (List ℕ)) →
      bytes ≡ (was.taken ++ piece) ++ rest → left' ≡ Some rest → length piece ≤ room →
      EndsAt turn keeps status state number held piece final left' written written'
      ⊎
      (BreaksAt turn keeps status state number held piece final written written'
      ⊎ FailsAt status piece written written') →
      status ≡ Done → keeps (reached turn limit start bytes) final
  stops_kept {keeps} {final} piece rest bytes status left' written' split told most (inl ends) done =
      let none : rest ≡ [] = at_end_none left' rest ends.at_end told in
      let all : bytes ≡ was.taken ++ piece =
      split ∙ ap (λ r. (was.taken ++ piece) ++ r) none ∙ append-nil (was.taken ++ piece) in
      subst (λ s. keeps s final)
      (sym (ap (reached turn limit start) all ∙ reached_taken piece most ∙ reached_end piece ends.nothing))
      (ends.kept done)
  stops_kept {keeps} {final} piece rest bytes status left' written' split told most (inr (inl breaks)) done =
      let on = reached_on piece rest most in
      subst (λ s. keeps s final) (sym (ap (reached turn limit start) split ∙ on.1)) (breaks.kept done on.0)
  stops_kept piece rest bytes status left' written' split told most (inr (inr fails)) done =
      let fault : status ≡ ReadFault = fails.failed in absurd (cc)

  pub stopped_kept : {keeps : S → S → Type 0} {final : S} (status : Status) (left' written' : Option (List ℕ)) →
      StopsAt turn keeps status room state number held left written final left' written' → status ≡ Done →
      (bytes : List ℕ) →
      left0 ≡ Some bytes → keeps (reached turn limit start bytes) final
  stopped_kept status left' written' stops done bytes known =
      let all : Took bytes (was.taken ++ stops.taken) left' =
      took left0 left' (was.taken ++ stops.taken) bytes (takes_more _ _ _ _ _ was.consumed stops.consumed) known in
      stops_kept stops.taken all.rest bytes status left' written' all.split all.told stops.most stops.why done

  -- a last piece was taken, and a front of what comes then was written
  leave : {keeps : S → S → Type 0} {final : S} (piece rest bytes : List ℕ) (status : Status)
      (left' written' : Option (List ℕ)) (later : Given) → bytes ≡ (was.taken ++ piece) ++ rest →
      left' ≡ Some rest → length piece ≤ room → length piece ≤ 65536 → (status ≡ TooLong → room ≡ length piece) →
      given turn limit start (was.taken ++ piece) (close_at rest) ≡ after was.front later →
      (wrote : WroteFront later.text written written') →
      (IsAnswer status → Gave later status written written') →
      (status ≡ ReadFault → was.front ++ wrote.front ≡ so_far turn limit start (was.taken ++ piece)) →
      (status ≡ Done → keeps (reached turn limit start (was.taken ++ piece)) final) →
      Leaves turn keeps limit start bytes status final left' written0 written'
  leave {keeps} {final} piece rest bytes status left' written' later split told most size no_more is wrote gave failed
      kept =
      let few : length (was.taken ++ piece) ≤ limit = omega (arith, length-append was.taken piece, was.size) in
      record {
        taken = was.taken ++ piece;
        rest = rest;
        front = was.front ++ wrote.front;
        split = split;
        told = told;
        wrote = writes_more _ _ _ _ _ was.wrote wrote.wrote;
        few = few;
        answered =
            λ answer.
            gave_after was.front later (given turn limit start (was.taken ++ piece) (close_at rest)) status written0
            written written' was.wrote is (gave answer);
        full =
            λ long.
            let all : room ≡ length piece = no_more long in omega (arith, length-append was.taken piece, was.size);
        due = subst (λ g. IsFront (was.front ++ wrote.front) g.text) (sym is)
            (front_after was.front wrote.front later.text (wrote.more, wrote.whole));
        prompt =
            λ early late parts much.
            front_more _ was.front wrote.front (prompt_front piece early late few size parts much);
        goes = λ early late parts much. goes_front piece early late few size parts much;
        failed = failed;
        kept = kept;
      }

  -- ---- the input ended

  given_end : (piece rest : List ℕ) → 0 < room → piece ≡ [] → rest ≡ [] →
      given turn limit start (was.taken ++ piece) (close_at rest)
      ≡ after was.front (given_from turn state number (behind held) ended)
  given_end piece rest some nothing none =
      let below : length was.taken < limit = omega (arith, was.size) in
      ap (λ r. given turn limit start (was.taken ++ piece) (close_at r)) none
      ∙ ap (λ p. given turn limit start (was.taken ++ p) ended) nothing
      ∙ ap (λ t. given turn limit start t ended) (append-nil was.taken)
      ∙ given_short turn limit start was.taken ended below
      ∙ given_taken ended
      ∙ ap (after was.front) (sym (unfinished_last turn state number held ended was.unfinished))

  end_answers : {keeps : S → S → Type 0} {final : S} (piece rest bytes : List ℕ) (status : Status)
      (left' written' : Option (List ℕ)) → bytes ≡ (was.taken ++ piece) ++ rest →
      left' ≡ Some rest → 0 < room → EndsAt turn keeps status state number held piece final left' written written' →
      IsAnswer status →
      Gave (gives turn limit start bytes) status written0 written'
  end_answers piece rest bytes status left' written' split told some ends answer =
      let none : rest ≡ [] = at_end_none left' rest ends.at_end told in
      let all : bytes ≡ was.taken ++ piece =
      split ∙ ap (λ r. (was.taken ++ piece) ++ r) none ∙ append-nil (was.taken ++ piece) in
      gave_after was.front (given_from turn state number (behind held) ended) (gives turn limit start bytes) status
      written0 written written' was.wrote
      (ap (gives turn limit start) all ∙ given_end piece [] some ends.nothing refl)
      (ends.answered answer)

  end_leaves : {keeps : S → S → Type 0} {final : S} (piece rest bytes : List ℕ) (status : Status)
      (left' written' : Option (List ℕ)) → bytes ≡ (was.taken ++ piece) ++ rest →
      left' ≡ Some rest → length piece ≤ room → length piece ≤ 65536 → 0 < room → status ≢ TooLong →
      EndsAt turn keeps status state number held piece final left' written written' →
      Leaves turn keeps limit start bytes status final left' written0 written'
  end_leaves {keeps} {final} piece rest bytes status left' written' split told most size some short ends =
      leave piece rest bytes status left' written' (given_from turn state number (behind held) ended) split told most
      size (λ long. absurd (short long))
      (given_end piece rest some ends.nothing (at_end_none left' rest ends.at_end told))
      (wrote_front status (given_from turn state number (behind held) ended) written written' ends.answered
      ends.stopped)
      ends.answered (λ fault. absurd (ends.no_read_fault fault))
      (λ done.
      subst (λ s. keeps s final) (sym (reached_taken piece most ∙ reached_end piece ends.nothing)) (ends.kept done))

  -- ---- a piece ended the command

  given_break : (piece rest : List ℕ) → length piece ≤ room →
      given turn limit start (was.taken ++ piece) (close_at rest)
      ≡ after was.front
      (given_from turn state number (begun held (joined (cut piece) (behind [])))
      (close_of turn limit (was.taken ++ piece) (close_at rest)))
  given_break piece rest most =
      let few : length (was.taken ++ piece) ≤ limit = omega (arith, length-append was.taken piece, was.size) in
      given_at turn limit start (was.taken ++ piece) (close_at rest) few
      ∙ given_more piece (behind []) (close_of turn limit (was.taken ++ piece) (close_at rest))

  break_answers : {keeps : S → S → Type 0} {final : S} (piece rest bytes : List ℕ) (status : Status)
      (written' : Option (List ℕ)) → bytes ≡ (was.taken ++ piece) ++ rest →
      length piece ≤ room → BreaksAt turn keeps status state number held piece final written written' →
      IsAnswer status →
      Gave (gives turn limit start bytes) status written0 written'
  break_answers piece rest bytes status written' split most breaks answer =
      let few : length (was.taken ++ piece) ≤ limit = omega (arith, length-append was.taken piece, was.size) in
      let more : Cut = cut (take (limit - length (was.taken ++ piece)) rest) in
      let close : Close = close_of turn limit ((was.taken ++ piece) ++ rest) ended in
      gave_after was.front (given_from turn state number (begun held (joined (cut piece) more)) close)
      (gives turn limit start bytes) status
      written0 written written' was.wrote
      (ap (gives turn limit start) split
      ∙ given_on turn limit start (was.taken ++ piece) rest ended few
      ∙ given_more piece more close)
      (breaks.answered answer more close)

  break_leaves : {keeps : S → S → Type 0} {final : S} (piece rest bytes : List ℕ) (status : Status)
      (left' written' : Option (List ℕ)) → bytes ≡ (was.taken ++ piece) ++ rest →
      left' ≡ Some rest → length piece ≤ room → length piece ≤ 65536 → status ≢ TooLong →
      BreaksAt turn keeps status state number held piece final written written' →
      Leaves turn keeps limit start bytes status final left' written0 written'
  break_leaves {keeps} {final} piece rest bytes status left' written' split told most size short breaks =
      let close : Close = close_of turn limit (was.taken ++ piece) (close_at rest) in
      let later : Given = given_from turn state number (begun held (joined (cut piece) (behind []))) close in
      leave piece rest bytes status left' written' later split told most size (λ long. absurd (short long))
      (given_break piece rest most)
      (wrote_front status later written written' (λ answer. breaks.answered answer (behind []) close)
      (λ accident. breaks.stopped accident (behind []) close))
      (λ answer. breaks.answered answer (behind []) close) (λ fault. absurd (breaks.no_read_fault fault))
      (λ done. subst (λ s. keeps s final) (sym (reached_taken piece most)) (breaks.kept done (behind [])))

  -- ---- a read failed

  fail_leaves : {keeps : S → S → Type 0} {final : S} (piece rest bytes : List ℕ) (status : Status)
      (left' written' : Option (List ℕ)) → bytes ≡ (was.taken ++ piece) ++ rest →
      left' ≡ Some rest → length piece ≤ room → length piece ≤ 65536 → 0 < room → status ≢ TooLong →
      FailsAt status piece written written' → Leaves turn keeps limit start bytes status final left' written0 written'
  fail_leaves {keeps} {final} piece rest bytes status left' written' split told most size some short fails =
      let close : Close = close_of turn limit (was.taken ++ piece) (close_at rest) in
      let later : Given = given_from turn state number (begun held (joined (cut piece) (behind []))) close in
      let below : length was.taken < limit = omega (arith, was.size) in
      let due : so_far turn limit start (was.taken ++ piece) ≡ was.front =
      ap (λ p. so_far turn limit start (was.taken ++ p)) fails.nothing
      ∙ ap (so_far turn limit start) (append-nil was.taken)
      ∙ ap (λ g. g.text) (given_short turn limit start was.taken opened below)
      ∙ front_taken in
      leave piece rest bytes status left' written' later split told most size (λ long. absurd (short long))
      (given_break piece rest most)
      (record { front = []; more = later.text; whole = refl; wrote = fails.still })
      (λ answer. absurd (subst IsAnswer fails.failed answer)) (λ _. append-nil was.front ∙ sym due)
      (λ done. let fault : status ≡ ReadFault = fails.failed in absurd (cc))

  -- ---- whichever of these

  stops_answers : {keeps : S → S → Type 0} {final : S} (piece rest bytes : List ℕ) (status : Status)
      (left' written' : Option (List ℕ)) → bytes ≡ (was.taken ++ piece) ++ rest →
      left' ≡ Some rest → length piece ≤ room → 0 < room →
      EndsAt turn keeps status state number held piece final left' written written'
      ⊎
      (BreaksAt turn keeps status state number held piece final written written'
      ⊎ FailsAt status piece written written') →
      IsAnswer status → Gave (gives turn limit start bytes) status written0 written'
  stops_answers piece rest bytes status left' written' split told most some (inl ends) answer =
      end_answers piece rest bytes status left' written' split told some ends answer
  stops_answers piece rest bytes status left' written' split told most some (inr (inl breaks)) answer =
      break_answers piece rest bytes status written' split most breaks answer
  stops_answers piece rest bytes status left' written' split told most some (inr (inr fails)) answer =
      absurd (subst IsAnswer fails.failed answer)

  stops_leaves : {keeps : S → S → Type 0} {final : S} (piece rest bytes : List ℕ) (status : Status)
      (left' written' : Option (List ℕ)) → bytes ≡ (was.taken ++ piece) ++ rest →
      left' ≡ Some rest → length piece ≤ room → length piece ≤ 65536 → 0 < room → status ≢ TooLong →
      EndsAt turn keeps status state number held piece final left' written written'
      ⊎
      (BreaksAt turn keeps status state number held piece final written written'
      ⊎ FailsAt status piece written written') →
      Leaves turn keeps limit start bytes status final left' written0 written'
  stops_leaves piece rest bytes status left' written' split told most size some short (inl ends) =
      end_leaves piece rest bytes status left' written' split told most size some short ends
  stops_leaves piece rest bytes status left' written' split told most size some short (inr (inl breaks)) =
      break_leaves piece rest bytes status left' written' split told most size short breaks
  stops_leaves piece rest bytes status left' written' split told most size some short (inr (inr fails)) =
      fail_leaves piece rest bytes status left' written' split told most size some short fails

  pub stopped_answers : {keeps : S → S → Type 0} {final : S} (status : Status) (left' written' : Option (List ℕ)) →
      StopsAt turn keeps status room state number held left written final left' written' → 0 < room → IsAnswer status →
      (bytes : List ℕ) → left0 ≡ Some bytes →
      Gave (gives turn limit start bytes) status written0 written'
  stopped_answers status left' written' stops some answer bytes known =
      let all : Took bytes (was.taken ++ stops.taken) left' =
      took left0 left' (was.taken ++ stops.taken) bytes (takes_more _ _ _ _ _ was.consumed stops.consumed) known in
      stops_answers stops.taken all.rest bytes status left' written' all.split all.told stops.most some stops.why answer

  pub stopped_leaves : {keeps : S → S → Type 0} {final : S} (status : Status) (left' written' : Option (List ℕ)) →
      StopsAt turn keeps status room state number held left written final left' written' → 0 < room → (bytes : List ℕ) →
      left0 ≡ Some bytes →
      Leaves turn keeps limit start bytes status final left' written0 written'
  stopped_leaves status left' written' stops some bytes known =
      let all : Took bytes (was.taken ++ stops.taken) left' =
      took left0 left' (was.taken ++ stops.taken) bytes (takes_more _ _ _ _ _ was.consumed stops.consumed) known in
      stops_leaves stops.taken all.rest bytes status left' written' all.split all.told stops.most stops.few some
      stops.not_full stops.why

  -- ---- the limit was reached

  given_limit : (rest : List ℕ) (close : Close) → room ≡ 0 →
      given turn limit start (was.taken ++ rest) close ≡ after was.front too_long
  given_limit rest close none =
      let size : limit ≡ length was.taken = omega (arith, was.size) in
      let reached : limit ≤ length (was.taken ++ rest) = omega (arith, length-append was.taken rest) in
      let same : take limit (was.taken ++ rest) ≡ was.taken =
      take-append-le limit was.taken rest (omega arith) ∙ take_all limit was.taken (omega arith) in
      given_full turn limit start (was.taken ++ rest) close reached
      ∙ ap (λ t. given_from turn start 1 (cut t) full) same
      ∙ given_taken full

  -- the line was written, or its front
  pub record Tells (status : Status) (written' : Option (List ℕ)) : Type 0 where
    pub answered : IsAnswer status → (status ≡ TooLong) × Appends written written' too_long.text
    pub stopped : (IsAnswer status → ⊥) → WroteFront too_long.text written written'

  tells_line : (status : Status) (written' : Option (List ℕ)) (line : List ℕ) → line ≡ too_long.text →
      (IsAnswer status → (status ≡ TooLong) × Appends written written' line) →
      ((IsAnswer status → ⊥) → WroteFront line written written') →
      Tells status written'
  tells_line status written' line is wrote_all front = record {
    answered = λ answer. ((wrote_all answer).0, subst (Appends written written') is (wrote_all answer).1);
    stopped = λ accident. subst (λ text. WroteFront text written written') is (front accident);
  }

  told_all : (status : Status) (written' : Option (List ℕ)) → Tells status written' → IsAnswer status →
      Gave too_long status written written'
  told_all status written' tells answer =
      let all : (status ≡ TooLong) × Appends written written' too_long.text = tells.answered answer in
      record { wrote = all.1; ended = ap Some (sym all.0) }

  pub limit_answers : (status : Status) (written' : Option (List ℕ)) → room ≡ 0 → {line : List ℕ} →
      line ≡ too_long.text →
      (IsAnswer status → (status ≡ TooLong) × Appends written written' line) →
      ((IsAnswer status → ⊥) → WroteFront line written written') →
      IsAnswer status → (bytes : List ℕ) → left0 ≡ Some bytes →
      Gave (gives turn limit start bytes) status written0 written'
  limit_answers status written' none {line} is wrote_all front answer bytes known =
      let tells : Tells status written' = tells_line status written' line is wrote_all front in
      let all : Took bytes was.taken left = took left0 left was.taken bytes was.consumed known in
      gave_after was.front too_long (gives turn limit start bytes) status written0 written written' was.wrote
      (ap (gives turn limit start) all.split ∙ given_limit all.rest ended none) (told_all status written' tells answer)

  pub limit_leaves : {keeps : S → S → Type 0} {final : S} (status : Status) (written' : Option (List ℕ)) → room ≡ 0 →
      {line : List ℕ} → line ≡ too_long.text →
      (IsAnswer status → (status ≡ TooLong) × Appends written written' line) →
      ((IsAnswer status → ⊥) → WroteFront line written written') →
      status ≢ ReadFault → (bytes : List ℕ) → left0 ≡ Some bytes →
      Leaves turn keeps limit start bytes status final left written0 written'
  limit_leaves {keeps} {final} status written' none {line} is wrote_all front unfailed bytes known =
      let tells : Tells status written' = tells_line status written' line is wrote_all front in
      let all : Took bytes was.taken left = took left0 left was.taken bytes was.consumed known in
      leave [] all.rest bytes status left written' too_long
      (all.split ∙ ap (λ t. t ++ all.rest) (sym (append-nil was.taken))) all.told
      (omega arith) (omega arith) (λ _. none) (given_limit [] (close_at all.rest) none)
      (wrote_front status too_long written written' (told_all status written' tells) tells.stopped)
      (told_all status written' tells)
      (λ fault. absurd (unfailed fault))
      (λ done. absurd (never_done status tells.answered done))

-- a count that rose since a later moment rose since an earlier one
pub rose_since : (start before now : ℕ) → start ≤ before → Rose before now → Rose start now
rose_since start before now later rose = omega (arith, rose)

-- so does what came of a later moment
pub cause_since : (status : Status) (source before now sink sink' sink'' : ℕ) → source ≤ before → sink ≤ sink' →
    HasCause status before now sink' sink'' → HasCause status source now sink sink''
cause_since status source before now sink sink' sink'' later sink_later cause = record {
  source_count = omega (arith, later, cause.source_count);
  sink_count = omega (arith, sink_later, cause.sink_count);
  read_fault = λ fault. rose_since source before now later (cause.read_fault fault);
  write_fault = λ fault. rose_since sink sink' sink'' sink_later (cause.write_fault fault);
}

pub sink_cause_since : (status : Status) (source now sink before sink' : ℕ) → source ≤ now → sink ≤ before →
    HasSinkCause status before sink' → HasCause status source now sink sink'
sink_cause_since status source now sink before sink' later sink_later cause = record {
  source_count = later;
  sink_count = omega (arith, sink_later, cause.count);
  read_fault = λ fault. absurd (cause.no_read_fault fault);
  write_fault = λ fault. rose_since sink before sink' sink_later (cause.write_fault fault);
}

-- where no call failed, an answer or want of memory is left
pub exact_status : (status : Status) (found : Option Status) → (IsAnswer status → found ≡ Some status) →
    status ≢ ReadFault → status ≢ WriteFault →
    (found ≡ Some status) ⊎ (status ≡ NoMemory)
exact_status Done found answered no_read no_write = inl (answered tt)
exact_status Usage found answered no_read no_write = inl (answered tt)
exact_status BadInput found answered no_read no_write = inl (answered tt)
exact_status HookRefused found answered no_read no_write = inl (answered tt)
exact_status TooLong found answered no_read no_write = inl (answered tt)
exact_status ReadFault found answered no_read no_write = absurd (no_read refl)
exact_status WriteFault found answered no_read no_write = absurd (no_write refl)
exact_status NoMemory found answered no_read no_write = inr refl
