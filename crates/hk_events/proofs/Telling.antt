-- What lines tell of a ledger.
use Rattle.std.proofs.Common.{◌≡◌, ℕ, ◌+◌, Bool, true, false, ◌||◌, if◌then◌else◌, List, [], ◌∷◌, ◌++◌, length, refl}
use Rattle.std.proofs.Common.{sym, ap, ◌∙◌, arith, Option, Some, None}
use Rattle.std.specs.Option.{option_or, option_map}
use Rattle.std.specs.FinMap.{get}
use Rattle.hk_lines.specs.declared.output_line.OutputLine.{OutputLine}
use Rattle.hk_lines.specs.declared.output_line.OutputLine.TheVariants as printed
use Rattle.hk_emit.specs.declared.emission.Emission.{Emission}
use Rattle.hk_state.specs.declared.entry.Entry.{Entry}
use Rattle.hk_state.specs.declared.entry.Entry.TheVariants as entry
use Rattle.hk_state.specs.declared.key.StateKey.{StateKey}
use Rattle.hk_state.specs.Keys.{is_key, as_key, exact}
use Rattle.hk_state.specs.Entries.{Entries}
use Rattle.hk_draft.specs.Lists.{Each}
use Rattle.hk_draft.specs.Draft.{Draft, is_listed}
use Rattle.hk_draft.specs.Extends.{HoldsState}
use Rattle.hk_draft.specs.Writers.{IsHook, IsCallback}
use Rattle.hk_events.specs.Lists.{counted, last_of}
use Rattle.hk_events.specs.Printed.{value_of, state_line, state_lines, emit_lines}
use Rattle.hk_events.specs.Events.{kept_lines}
use Rattle.hk_events.specs.Whole.{change_of, is_emission, is_emit, is_settled}
use Rattle.hk_events.proofs.Words.{counted-append, last_of-append, each-map, none_last, none_counted, or_none}

-- the line of a hook, of a callback, or of a settlement
abbrev pub IsRecord : OutputLine → Type 0
IsRecord (printed.Hook account position outcome count bound) = Unit {0}
IsRecord (printed.Callback account position outcome count bound) = Unit {0}
IsRecord other = ⊥

abbrev pub IsFront : OutputLine → Type 0
IsFront (printed.Settled number word result fee) = Unit {0}
IsFront other = ⊥

abbrev pub IsState : OutputLine → Type 0
IsState (printed.State account namespace k value) = Unit {0}
IsState other = ⊥

abbrev pub IsEmit : OutputLine → Type 0
IsEmit (printed.Emit number first last) = Unit {0}
IsEmit other = ⊥

pub hook_record : (line : OutputLine) → IsHook line → IsRecord line
hook_record (printed.Hook account position outcome count bound) h = tt
hook_record other h = absurd h

pub callback_record : (line : OutputLine) → IsCallback line → IsRecord line
callback_record (printed.Callback account position outcome count bound) h = tt
callback_record other h = absurd h

pub all_state : (m : Entries) (qs : List StateKey) → Each IsState (state_lines m qs)
all_state m [] = tt
all_state m (q ∷ qs) = (tt, all_state m qs)

pub all_emit : (next : ℕ) (es : List Emission) → Each IsEmit (emit_lines next es)
all_emit next [] = tt
all_emit next (e ∷ es) = (tt, all_emit (next + 1) es)

-- lines of a kind that a word says nothing of
module _ (q : StateKey) where
  record_change : (line : OutputLine) → IsRecord line → change_of q line ≡ None
  record_change (printed.Hook account position outcome count bound) h = refl
  record_change (printed.Callback account position outcome count bound) h = refl
  record_change other h = absurd h

  front_change : (line : OutputLine) → IsFront line → change_of q line ≡ None
  front_change (printed.Settled number word result fee) h = refl
  front_change other h = absurd h

  emit_change : (line : OutputLine) → IsEmit line → change_of q line ≡ None
  emit_change (printed.Emit number first last) h = refl
  emit_change other h = absurd h

  pub records_told : (lines : List OutputLine) → Each IsRecord lines → last_of (change_of q) lines ≡ None
  records_told lines h =
      none_last (change_of q) lines (each-map IsRecord (λ line. change_of q line ≡ None) record_change lines h)

  pub front_told : (lines : List OutputLine) → Each IsFront lines → last_of (change_of q) lines ≡ None
  front_told lines h =
      none_last (change_of q) lines (each-map IsFront (λ line. change_of q line ≡ None) front_change lines h)

  pub emits_told : (next : ℕ) (es : List Emission) → last_of (change_of q) (emit_lines next es) ≡ None
  emits_told next es =
      none_last (change_of q) (emit_lines next es)
      (each-map IsEmit (λ line. change_of q line ≡ None) emit_change (emit_lines next es) (all_emit next es))

record_emission : (line : OutputLine) → IsRecord line → is_emission line ≡ false
record_emission (printed.Hook account position outcome count bound) h = refl
record_emission (printed.Callback account position outcome count bound) h = refl
record_emission other h = absurd h

state_emission : (line : OutputLine) → IsState line → is_emission line ≡ false
state_emission (printed.State account namespace k value) h = refl
state_emission other h = absurd h

front_emission : (line : OutputLine) → IsFront line → is_emission line ≡ false
front_emission (printed.Settled number word result fee) h = refl
front_emission other h = absurd h

pub records_emissions : (lines : List OutputLine) → Each IsRecord lines → counted is_emission lines ≡ 0
records_emissions lines h =
    none_counted is_emission lines (each-map IsRecord (λ line. is_emission line ≡ false) record_emission lines h)

pub front_emissions : (lines : List OutputLine) → Each IsFront lines → counted is_emission lines ≡ 0
front_emissions lines h =
    none_counted is_emission lines (each-map IsFront (λ line. is_emission line ≡ false) front_emission lines h)

states_emissions : (m : Entries) (qs : List StateKey) → counted is_emission (state_lines m qs) ≡ 0
states_emissions m qs =
    none_counted is_emission (state_lines m qs)
    (each-map IsState (λ line. is_emission line ≡ false) state_emission (state_lines m qs) (all_state m qs))

emits_emissions : (next : ℕ) (es : List Emission) → counted is_emission (emit_lines next es) ≡ length es
emits_emissions next [] = refl
emits_emissions next (e ∷ es) = let rest = emits_emissions (next + 1) es in omega (arith, rest)

module _ (n : ℕ) where
  record_emit : (line : OutputLine) → IsRecord line → is_emit n line ≡ false
  record_emit (printed.Hook account position outcome count bound) h = refl
  record_emit (printed.Callback account position outcome count bound) h = refl
  record_emit other h = absurd h

  state_emit : (line : OutputLine) → IsState line → is_emit n line ≡ false
  state_emit (printed.State account namespace k value) h = refl
  state_emit other h = absurd h

  front_emit : (line : OutputLine) → IsFront line → is_emit n line ≡ false
  front_emit (printed.Settled number word result fee) h = refl
  front_emit other h = absurd h

  pub records_emit : (lines : List OutputLine) → Each IsRecord lines → counted (is_emit n) lines ≡ 0
  records_emit lines h =
      none_counted (is_emit n) lines (each-map IsRecord (λ line. is_emit n line ≡ false) record_emit lines h)

  pub front_emits : (lines : List OutputLine) → Each IsFront lines → counted (is_emit n) lines ≡ 0
  front_emits lines h =
      none_counted (is_emit n) lines (each-map IsFront (λ line. is_emit n line ≡ false) front_emit lines h)

  states_emit : (m : Entries) (qs : List StateKey) → counted (is_emit n) (state_lines m qs) ≡ 0
  states_emit m qs =
      none_counted (is_emit n) (state_lines m qs)
      (each-map IsState (λ line. is_emit n line ≡ false) state_emit (state_lines m qs) (all_state m qs))

  record_settled : (line : OutputLine) → IsRecord line → is_settled n line ≡ false
  record_settled (printed.Hook account position outcome count bound) h = refl
  record_settled (printed.Callback account position outcome count bound) h = refl
  record_settled other h = absurd h

  state_settled : (line : OutputLine) → IsState line → is_settled n line ≡ false
  state_settled (printed.State account namespace k value) h = refl
  state_settled other h = absurd h

  emit_settled : (line : OutputLine) → IsEmit line → is_settled n line ≡ false
  emit_settled (printed.Emit number first last) h = refl
  emit_settled other h = absurd h

  records_settled : (lines : List OutputLine) → Each IsRecord lines → counted (is_settled n) lines ≡ 0
  records_settled lines h =
      none_counted (is_settled n) lines (each-map IsRecord (λ line. is_settled n line ≡ false) record_settled lines h)

  states_settled : (m : Entries) (qs : List StateKey) → counted (is_settled n) (state_lines m qs) ≡ 0
  states_settled m qs =
      none_counted (is_settled n) (state_lines m qs)
      (each-map IsState (λ line. is_settled n line ≡ false) state_settled (state_lines m qs) (all_state m qs))

  emits_settled : (next : ℕ) (es : List Emission) → counted (is_settled n) (emit_lines next es) ≡ 0
  emits_settled next es =
      none_counted (is_settled n) (emit_lines next es)
      (each-map IsEmit (λ line. is_settled n line ≡ false) emit_settled (emit_lines next es) (all_emit next es))

-- what is kept, in three parts
module _ (next : ℕ) (d : Draft) (records : List OutputLine) (are : Each IsRecord records) where
  pub kept_counted : (test : OutputLine → Bool) →
      counted test (kept_lines next d records)
      ≡ counted test records +
      (counted test (state_lines d.entries d.written) + counted test (emit_lines next d.emissions))
  kept_counted test =
      let all = counted-append test records (state_lines d.entries d.written ++ emit_lines next d.emissions) in
      let rest = counted-append test (state_lines d.entries d.written) (emit_lines next d.emissions) in
      omega (arith, all, rest)

  pub kept_emissions : counted is_emission (kept_lines next d records) ≡ length d.emissions
  kept_emissions =
      let all = kept_counted is_emission in
      let one = records_emissions records are in
      let two = states_emissions d.entries d.written in
      let three = emits_emissions next d.emissions in
      omega (arith, all, one, two, three)

  pub kept_emit : (n : ℕ) →
      counted (is_emit n) (kept_lines next d records) ≡ counted (is_emit n) (emit_lines next d.emissions)
  kept_emit n =
      let all = kept_counted (is_emit n) in
      let one = records_emit n records are in
      let two = states_emit n d.entries d.written in
      omega (arith, all, one, two)

  pub kept_settled : (n : ℕ) → counted (is_settled n) (kept_lines next d records) ≡ 0
  kept_settled n =
      let all = kept_counted (is_settled n) in
      let one = records_settled n records are in
      let two = states_settled n d.entries d.written in
      let three = emits_settled n next d.emissions in
      omega (arith, all, one, two, three)

-- what state lines tell of a key: its entry, where it is listed
abbrev pub heard : Bool → Option Entry → Option (Option Entry)
heard listed found = if listed then Some found else None

told_back : (found : Option Entry) → HoldsState found → option_map (λ bytes. entry.State bytes) (value_of found) ≡ found
told_back None h = refl
told_back (Some (entry.State bytes)) h = refl
told_back (Some other) h = absurd h

line_tells : (m : Entries) (q p : StateKey) (b : Bool) → is_key (as_key q) (as_key p) ≡ b →
    (b ≡ true → HoldsState (get m (as_key q))) →
    (if b then Some (option_map (λ bytes. entry.State bytes) (value_of (get m (as_key p)))) else None)
    ≡ heard b (get m (as_key q))
line_tells m q p true same holds =
    ap (λ k. Some (option_map (λ bytes. entry.State bytes) (value_of (get m k))))
    (sym (exact (as_key q) (as_key p) same))
    ∙ ap Some (told_back (get m (as_key q)) (holds refl))
line_tells m q p false same holds = refl

or_true : (b : Bool) → (b || true) ≡ true
or_true true = refl
or_true false = refl

heard_or : (a b : Bool) (found : Option Entry) → option_or (heard b found) (heard a found) ≡ heard (a || b) found
heard_or true true found = refl
heard_or true false found = refl
heard_or false true found = refl
heard_or false false found = refl

module _ (m : Entries) (q : StateKey) where
  states_told : (qs : List StateKey) → (is_listed q qs ≡ true → HoldsState (get m (as_key q))) →
      last_of (change_of q) (state_lines m qs) ≡ heard (is_listed q qs) (get m (as_key q))
  states_told [] holds = refl
  states_told (p ∷ qs) holds =
      let here : (is_key (as_key q) (as_key p) ≡ true) → HoldsState (get m (as_key q)) =
      (λ h. holds (ap (λ b. b || is_listed q qs) h)) in
      let later : (is_listed q qs ≡ true) → HoldsState (get m (as_key q)) =
      (λ h. holds (ap (λ b. is_key (as_key q) (as_key p) || b) h ∙ or_true (is_key (as_key q) (as_key p)))) in
      ap (λ o. option_or o (change_of q (state_line m p))) (states_told qs later)
      ∙ ap (λ o. option_or (heard (is_listed q qs) (get m (as_key q))) o)
      (line_tells m q p (is_key (as_key q) (as_key p)) refl here)
      ∙ heard_or (is_key (as_key q) (as_key p)) (is_listed q qs) (get m (as_key q))

  pub kept_told : (next : ℕ) (written : List StateKey) (es : List Emission) (records : List OutputLine) →
      Each IsRecord records →
      (is_listed q written ≡ true → HoldsState (get m (as_key q))) →
      last_of (change_of q) (kept_lines next (record { entries = m; written = written; emissions = es }) records)
      ≡ heard (is_listed q written) (get m (as_key q))
  kept_told next written es records are holds =
      last_of-append (change_of q) records (state_lines m written ++ emit_lines next es)
      ∙ ap (λ o. option_or (last_of (change_of q) (state_lines m written ++ emit_lines next es)) o)
      (records_told q records are)
      ∙ or_none _
      ∙ last_of-append (change_of q) (state_lines m written) (emit_lines next es)
      ∙ ap (λ o. option_or o (last_of (change_of q) (state_lines m written))) (emits_told q next es)
      ∙ states_told written holds
