-- What a piece gives, part by part.
use Rattle.std.proofs.Common.{◌≡◌, ℕ, ◌+◌, ◌<◌, ◌≤◌, nat_le, false, if◌then◌else◌, List, [], ◌++◌, length, take, drop}
use Rattle.std.proofs.Common.{Option, None, sym, ap, subst, ◌∙◌, inl, inr, arith, append_assoc, length-append, ◌∷◌}
use Rattle.std.proofs.lemmas.Bool.Decides.{nat_tests}
use Rattle.std.proofs.lemmas.List.{take-append-drop}
use Rattle.hk_lines.specs.Cut.{Cut, behind, whole, cut, begun, joined, trim, is_skipped}
use Rattle.hk_lines.specs.Cutting.{Shows, ShowsReady}
use Rattle.hk_lines.specs.Given.{Close, Given, after, bad, Turn, given_line, given_from, after_turn}
use Rattle.hk_lines.specs.Numbers.{longest_line, endless_line}
use Rattle.hk_lines.specs.declared.cutting.CutLine.{CutLine}
use Rattle.hk_lines.specs.declared.rule.Rule.TheVariants.{LineTooLong}
use Rattle.hk_lines.specs.declared.status.Status.{Status}
use Rattle.hk_lines.proofs.CutLemmas.{cut_joined, begun_joined, begun_nothing, joined_joined, trim_length}
use Rattle.hk_lines.proofs.Due.{endless}
use Rattle.std.specs.Io.KnownBytes.{Appends}
use Rattle.hk_loop.specs.Answers.{WroteFront}
use Rattle.hk_lines.specs.Reached.{state_after, state_line, state_last, state_from}
use Rattle.hk_loop.specs.Turned.{led, LeadsOn}

-- held bytes and what comes behind them, where so many bytes of a piece are taken
fed : (held piece now : List ℕ) (count : ℕ) (more : Cut) → cut held ≡ behind held → now ≡ held ++ take count piece →
    begun held (joined (cut piece) more) ≡ joined (cut now) (joined (cut (drop count piece)) more)
fed held piece now count more uncut_held is =
    let parts : held ++ piece ≡ now ++ drop count piece =
    ap (λ p. held ++ p) (sym (take-append-drop count piece))
    ∙ sym (append_assoc held (take count piece) (drop count piece))
    ∙ ap (λ n. n ++ drop count piece) (sym is) in
    let all : begun held (cut piece) ≡ joined (cut now) (cut (drop count piece)) =
    sym (cut_joined held piece ∙ ap (λ c. joined c (cut piece)) uncut_held)
    ∙ ap cut parts
    ∙ cut_joined now (drop count piece) in
    begun_joined held (cut piece) more
    ∙ ap (λ c. joined c more) all
    ∙ joined_joined (cut now) (cut (drop count piece)) more

module _ {S : Type 0} (turn : S → List ℕ → Turn S) where
  -- no line is whole yet
  pub part_unready : (state : S) (number : ℕ) (held piece now : List ℕ) (count : ℕ) (out : List ℕ) →
      cut held ≡ behind held →
      now ≡ held ++ take count piece → cut now ≡ behind now → (more : Cut) (close : Close) →
      after out (given_from turn state number (begun held (joined (cut piece) more)) close)
      ≡ after out (given_from turn state number (begun now (joined (cut (drop count piece)) more)) close)
  part_unready state number held piece now count out uncut_held is uncut_now more close =
      ap (λ c. after out (given_from turn state number c close))
      (fed held piece now count more uncut_held is
      ∙ ap (λ c. joined c (joined (cut (drop count piece)) more)) uncut_now)

  pub reaches_unready : (state : S) (held piece now : List ℕ) (count : ℕ) → cut held ≡ behind held →
      now ≡ held ++ take count piece → cut now ≡ behind now → (more : Cut) →
      state_from turn state (begun held (joined (cut piece) more))
      ≡ state_from turn state (begun now (joined (cut (drop count piece)) more))
  reaches_unready state held piece now count uncut_held is uncut_now more =
      ap (state_from turn state)
      (fed held piece now count more uncut_held is
      ∙ ap (λ c. joined c (joined (cut (drop count piece)) more)) uncut_now)

  -- what a line that was taken gives
  pub record Takes (state : S) (number : ℕ) (shown : CutLine) (out : List ℕ) (stop : Option Status) (next : S)
      (later : List ℕ) : Type 0 where
    pub given : (raw : List ℕ) → Shows raw shown → (rest : S → Given) →
        after out (given_line turn state number (trim raw) rest) ≡ led stop later (rest next)

  -- a line of so many bytes is too long
  too_long_line : (state : S) (number : ℕ) (bytes : List ℕ) (rest : S → Given) → longest_line < length (trim bytes) →
      given_line turn state number (trim bytes) rest ≡ bad number LineTooLong
  too_long_line state number bytes rest long =
      let test : nat_le (length (trim bytes)) longest_line ≡ false = grind (arith, nat_tests) in
      ap (λ t.
      if t then (if is_skipped (trim bytes) then rest state else after_turn turn (turn state (trim bytes)) number rest)
      else bad number LineTooLong) test

  -- a line is whole, or endless
  pub part_ready : (state next : S) (number : ℕ) (held piece now : List ℕ) (count : ℕ) (out later : List ℕ)
      (shown : CutLine) (stop : Option Status) →
      cut held ≡ behind held → now ≡ held ++ take count piece → ShowsReady now shown →
      Takes state number shown out stop next later →
      (more : Cut) (close : Close) →
      after out (given_from turn state number (begun held (joined (cut piece) more)) close)
      ≡ led stop later (given_from turn next (number + 1) (begun [] (joined (cut (drop count piece)) more)) close)
  part_ready state next number held piece now count out later shown stop uncut_held is (inl (line, cuts, shows)) takes
      more close =
      let rest : Cut = joined (cut (drop count piece)) more in
      ap (λ c. after out (given_from turn state number c close))
      (fed held piece now count more uncut_held is ∙ ap (λ c. joined c rest) cuts.0)
      ∙ takes.given line shows (λ s. given_from turn s (number + 1) (begun [] rest) close)
  part_ready state next number held piece now count out later shown stop uncut_held is (inr (all, too_long)) takes more
      close =
      let rest : Cut = joined (cut (drop count piece)) more in
      let trimmed : length now ≤ length (trim now) + 1 = trim_length now in
      let size : length now ≡ endless_line = all.1 in
      let long : longest_line < length (trim now) = omega (arith, trimmed, size) in
      let shows : Shows now shown = subst (Shows now) (sym too_long) long in
      let goes : S → Given = λ s. given_from turn s (number + 1) (begun [] rest) close in
      let reached : endless_line ≤ length now = omega (arith, size) in
      ap (λ c. after out (given_from turn state number c close))
      (fed held piece now count more uncut_held is ∙ ap (λ c. joined c rest) all.0)
      ∙ ap (after out)
      (endless turn state number now rest close reached ∙ sym (too_long_line state number now goes long))
      ∙ takes.given now shows goes

  -- what a line that was taken leads to
  pub record Reaches (keeps : S → S → Type 0) (state : S) (shown : CutLine) (stop : Option Status)
      (next : S) : Type 0 where
    pub reached : (raw : List ℕ) → Shows raw shown → (later : S → S) →
        LeadsOn keeps stop (state_line turn state (trim raw) later) (later next) next

  -- a line that is too long leads no further
  long_line : (state : S) (bytes : List ℕ) (later : S → S) → longest_line < length (trim bytes) →
      state_line turn state (trim bytes) later ≡ state
  long_line state bytes later long =
      let test : nat_le (length (trim bytes)) longest_line ≡ false = grind (arith, nat_tests) in
      ap (λ t.
      if t
      then (if is_skipped (trim bytes) then later state else state_after turn state (turn state (trim bytes)) later)
      else state) test

  -- nor do so many bytes
  endless_leads : (state : S) (bytes : List ℕ) (more : Cut) → endless_line ≤ length bytes →
      state_from turn state (begun bytes more) ≡ state
  endless_leads state bytes (whole line more) long =
      let trimmed : length (bytes ++ line) ≤ length (trim (bytes ++ line)) + 1 = trim_length (bytes ++ line) in
      long_line state (bytes ++ line) (λ next. state_from turn next more)
      (omega (arith, trimmed, long, length-append bytes line))
  endless_leads state bytes (behind rest) long =
      last (bytes ++ rest) (omega (arith, long, length-append bytes rest)) where
        last : (all : List ℕ) → endless_line ≤ length all → state_last turn state all ≡ state
        last [] many = absurd (omega (arith, many))
        last (byte ∷ all) many =
            let trimmed : length (byte ∷ all) ≤ length (trim (byte ∷ all)) + 1 = trim_length (byte ∷ all) in
            long_line state (byte ∷ all) (λ next. next) (omega (arith, trimmed, many))

  pub reaches_ready : (keeps : S → S → Type 0) (state next : S) (held piece now : List ℕ) (count : ℕ) (shown : CutLine)
      (stop : Option Status) →
      cut held ≡ behind held → now ≡ held ++ take count piece → ShowsReady now shown →
      Reaches keeps state shown stop next → (more : Cut) →
      LeadsOn keeps stop (state_from turn state (begun held (joined (cut piece) more)))
      (state_from turn next (begun [] (joined (cut (drop count piece)) more))) next
  reaches_ready keeps state next held piece now count shown stop uncut_held is (inl (line, cuts, shows)) reaches more =
      let rest : Cut = joined (cut (drop count piece)) more in
      let same : begun held (joined (cut piece) more) ≡ joined (whole line (behind [])) rest =
      fed held piece now count more uncut_held is ∙ ap (λ c. joined c rest) cuts.0 in
      subst (λ c. LeadsOn keeps stop (state_from turn state c) (state_from turn next (begun [] rest)) next) (sym same)
      (reaches.reached line shows (λ s. state_from turn s (begun [] rest)))
  reaches_ready keeps state next held piece now count shown stop uncut_held is (inr (all, too_long)) reaches more =
      let rest : Cut = joined (cut (drop count piece)) more in
      let trimmed : length now ≤ length (trim now) + 1 = trim_length now in
      let size : length now ≡ endless_line = all.1 in
      let long : longest_line < length (trim now) = omega (arith, trimmed, size) in
      let shows : Shows now shown = subst (Shows now) (sym too_long) long in
      let later : S → S = λ s. state_from turn s (begun [] rest) in
      let many : endless_line ≤ length now = omega (arith, size) in
      let same : begun held (joined (cut piece) more) ≡ begun now rest =
      fed held piece now count more uncut_held is ∙ ap (λ c. joined c rest) all.0 in
      let led_to : state_from turn state (begun held (joined (cut piece) more))
      ≡ state_line turn state (trim now) later =
      ap (state_from turn state) same ∙ endless_leads state now rest many ∙ sym (long_line state now later long) in
      subst (λ s. LeadsOn keeps stop s (later next) next) (sym led_to) (reaches.reached now shows later)

  -- what a front of a piece gave, and what is left of it
  pub record Leads (state : S) (number : ℕ) (held out piece : List ℕ) (state' : S) (number' : ℕ)
      (held' out' piece' : List ℕ) : Type 0 where
    pub given : (more : Cut) (close : Close) →
        after out (given_from turn state number (begun held (joined (cut piece) more)) close)
        ≡ after out' (given_from turn state' number' (begun held' (joined (cut piece') more)) close)
    pub reached : (more : Cut) →
        state_from turn state (begun held (joined (cut piece) more))
        ≡ state_from turn state' (begun held' (joined (cut piece') more))

  -- nothing is left of a piece
  pub leads_end : (state : S) (number : ℕ) (held out piece : List ℕ) (state' : S) (number' : ℕ)
      (held' out' piece' : List ℕ) →
      Leads state number held out piece state' number' held' out' piece' → piece' ≡ [] → (more : Cut) (close : Close) →
      after out (given_from turn state number (begun held (joined (cut piece) more)) close)
      ≡ after out' (given_from turn state' number' (begun held' more) close)
  leads_end state number held out piece state' number' held' out' piece' leads none more close =
      leads.given more close
      ∙ ap (λ p. after out' (given_from turn state' number' (begun held' (joined (cut p) more)) close)) none
      ∙ ap (λ c. after out' (given_from turn state' number' (begun held' c) close)) (begun_nothing more)

-- the front of what was printed is the front of what is given, where the command goes on
pub front_of_more : (given later : Given) (start out : List ℕ) (stop : Option Status) (before now : Option (List ℕ)) →
    start ≡ [] →
    stop ≡ None → after start given ≡ led stop out later →
    (front : List ℕ) × (more : List ℕ) × (out ≡ front ++ more) × Appends before now front →
    WroteFront given.text before now
front_of_more given later start out stop before now nothing goes is (front, more, split, wrote) =
    let all : given.text ≡ out ++ later.text =
    sym (ap (λ s. s ++ given.text) nothing) ∙ ap (λ g. g.text) (is ∙ ap (λ s. led s out later) goes) in
    record {
      front = front;
      more = more ++ later.text;
      whole = all ∙ ap (λ o. o ++ later.text) split ∙ append_assoc front more later.text;
      wrote = wrote;
    }
