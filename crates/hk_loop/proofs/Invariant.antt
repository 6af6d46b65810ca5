-- What a command has given so far.
use Rattle.std.proofs.Common.{◌≡◌, ◌≤◌, ◌+◌, ◌-◌, ℕ, List, [], ◌++◌, length, Option, refl, sym, ap, ◌∙◌, arith}
use Rattle.std.proofs.Common.{append_assoc, length-append}
use Rattle.std.specs.Io.KnownBytes.{Consumes, Appends}
use Rattle.hk_lines.specs.Cut.{Cut, cut, begun, joined}
use Rattle.hk_lines.specs.Cutting.{IsUnfinished}
use Rattle.hk_lines.specs.Given.{Close, Given, after, Turn, given_from}
use Rattle.hk_lines.specs.Reached.{state_from}
use Rattle.hk_lines.proofs.CutLemmas.{cut_joined, joined_joined}
use Rattle.hk_loop.specs.Going.{GoesOn}
use Rattle.hk_loop.proofs.Moves.{takes_none, takes_more, writes_none, writes_more}

-- two texts before what is given
pub after_after : (first second : List ℕ) (g : Given) → after first (after second g) ≡ after (first ++ second) g
after_after first second g =
    ap (λ t. let r : Given = record { text = t; status = g.status } in r) (sym (append_assoc first second g.text))

module _ {S : Type 0} (turn : S → List ℕ → Turn S) where
  -- the bytes taken, the text written, and that what is given from the start is that text and what is given from here
  -- on
  pub record Going (limit room : ℕ) (start state : S) (number : ℕ) (held : List ℕ)
      (left0 left written0 written : Option (List ℕ)) : Type 0 where
    pub taken : List ℕ
    pub front : List ℕ
    pub consumed : Consumes left0 left taken
    pub size : length taken + room ≡ limit
    pub wrote : Appends written0 written front
    pub unfinished : IsUnfinished held
    pub numbered : number ≤ length taken + 1
    pub given : (more : Cut) (close : Close) →
        given_from turn start 1 (joined (cut taken) more) close
        ≡ after front (given_from turn state number (begun held more) close)
    pub reached : (more : Cut) →
        state_from turn start (joined (cut taken) more) ≡ state_from turn state (begun held more)

  -- nothing was taken
  pub going_start : (limit : ℕ) (start : S) (left written : Option (List ℕ)) →
      Going limit limit start start 1 [] left left written written
  going_start limit start left written = record {
    taken = [];
    front = [];
    consumed = takes_none left;
    size = omega arith;
    wrote = writes_none written;
    unfinished = (refl, omega arith);
    numbered = omega arith;
    given = λ more close. refl;
    reached = λ more. refl;
  }

  -- one read more
  pub going_on : (limit room count : ℕ) (start state next : S) (number number' : ℕ) (held held' : List ℕ)
      (left0 left left' written0 written written' : Option (List ℕ)) →
      Going limit room start state number held left0 left written0 written →
      GoesOn turn count room state number held left written next number' held' left' written' →
      Going limit (room - count) start next number' held' left0 left' written0 written'
  going_on limit room count start state next number number' held held' left0 left left' written0 written written' was
      goes =
      record {
        taken = was.taken ++ goes.taken;
        front = was.front ++ goes.went.text;
        consumed = takes_more _ _ _ _ _ was.consumed goes.consumed;
        size = omega (arith, length-append was.taken goes.taken, was.size, goes.size, goes.most);
        wrote = writes_more _ _ _ _ _ was.wrote goes.went.wrote;
        unfinished = goes.unfinished;
        numbered = omega (arith, length-append was.taken goes.taken, was.numbered, goes.number_grows, goes.size);
        given = λ more close.
            ap (λ c. given_from turn start 1 (joined c more) close) (cut_joined was.taken goes.taken)
            ∙ ap (λ c. given_from turn start 1 c close) (joined_joined (cut was.taken) (cut goes.taken) more)
            ∙ was.given (joined (cut goes.taken) more) close
            ∙ ap (after was.front) (goes.went.given more close)
            ∙ after_after was.front goes.went.text (given_from turn next number' (begun held' more) close);
        reached = λ more.
            ap (λ c. state_from turn start (joined c more)) (cut_joined was.taken goes.taken)
            ∙ ap (state_from turn start) (joined_joined (cut was.taken) (cut goes.taken) more)
            ∙ was.reached (joined (cut goes.taken) more)
            ∙ goes.went.reached more;
      }
