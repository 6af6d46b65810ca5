-- What waits in the queue, as emissions enter it with their lines.
use Rattle.std.proofs.Common.{◌≡◌, ◌∙◌, ℕ, ◌+◌, ◌<◌, ◌≤◌, ◌==◌, ◌⊎◌, inl, inr, Bool, true, false, cond}
use Rattle.std.proofs.Common.{List, [], ◌∷◌, length, refl, sym, ap, subst, arith, Some, None}
use Rattle.std.proofs.lemmas.Bool.{eqb-true, ne_eqb, eq-eqb}
use Rattle.std.specs.FinMap.{get, insert, get-insert}
use Rattle.hk_lines.specs.declared.output_line.OutputLine.{OutputLine}
use Rattle.hk_lines.specs.declared.output_line.OutputLine.TheVariants as printed
use Rattle.hk_emit.specs.declared.emission.Emission.{Emission}
use Rattle.hk_state.specs.declared.key.Key.TheVariants as key
use Rattle.hk_state.specs.Keys.{is_key, keys_total, exact, itself}
use Rattle.hk_state.specs.Entries.{Entries}
use Rattle.hk_events.specs.Lists.{one_if, counted}
use Rattle.hk_events.specs.Printed.{emit_lines}
use Rattle.hk_events.specs.Events.{queued, with_queued}
use Rattle.hk_events.specs.Whole.{WaitsFor, is_emit}
use Rattle.hk_events.proofs.Queueing.{number_or, other_number}
use Rattle.hk_final.specs.Counted.{waiting}
use Rattle.hk_whole.specs.Accounts.{IsEmitted}

-- nothing waits from this number on
abbrev pub NoneFrom : ℕ → Entries → Type 0
NoneFrom next m = (n : ℕ) → next ≤ n → get m (key.Emitted n) ≡ None

-- ---- one emission

module _ (next : ℕ) (e : Emission) (m : Entries) where
  abbrev more : Entries
  more = insert m (key.Emitted next) (queued e)

  more_at : (n : ℕ) →
      get more (key.Emitted n)
      ≡ cond (is_key (key.Emitted n) (key.Emitted next)) (Some (queued e)) (get m (key.Emitted n))
  more_at n = get-insert keys_total m (key.Emitted next) (queued e) (key.Emitted n)

  more_other : (n : ℕ) → (n ≡ next → ⊥) → get more (key.Emitted n) ≡ get m (key.Emitted n)
  more_other n differ =
      more_at n ∙ ap (λ b. cond b (Some (queued e)) (get m (key.Emitted n))) (other_number n next differ)

  more_here : get more (key.Emitted next) ≡ Some (queued e)
  more_here =
      more_at next ∙ ap (λ b. cond b (Some (queued e)) (get m (key.Emitted next))) (itself (key.Emitted next))

  more_none : NoneFrom next m → NoneFrom (next + 1) more
  more_none none n high =
      more_other n (λ same. absurd (omega (arith, high, same))) ∙ none n (omega (arith, high))

  more_waits : get m (key.Emitted next) ≡ None → (n : ℕ) (b : Bool) → (next == n) ≡ b →
      waiting (get more (key.Emitted n)) ≡ waiting (get m (key.Emitted n)) + one_if b
  more_waits none n true is =
      let here = ap waiting more_here in
      let before = ap waiting none in
      subst (λ k. waiting (get more (key.Emitted k)) ≡ waiting (get m (key.Emitted k)) + 1) (eqb-true next n is)
      (omega (arith, here, before))
  more_waits none n false is =
      let other = ap waiting (more_other n (λ same.
      let bad : true ≡ false = sym (eq-eqb next n (sym same)) ∙ is in cc)) in
      omega (arith, other)

  more_windows : (n first last : ℕ) (lines : List OutputLine) (b : Bool) →
      is_key (key.Emitted n) (key.Emitted next) ≡ b →
      WaitsFor first last (cond b (Some (queued e)) (get m (key.Emitted n))) →
      WaitsFor first last (get m (key.Emitted n)) ⊎ IsEmitted (printed.Emit next e.first e.last ∷ lines) n first last
  more_windows n first last lines true is waits =
      let same : next ≡ n = sym (ap (number_or n) (exact (key.Emitted n) (key.Emitted next) is)) in
      inr (inl (λ i. printed.Emit (same i) (waits.0 i) (waits.1 i)))
  more_windows n first last lines false is waits = inl waits

-- ---- all of them

-- each number waits as before, and once more for its line
pub queue_waits : (next : ℕ) (es : List Emission) (m : Entries) → NoneFrom next m → (n : ℕ) →
    waiting (get (with_queued next es m) (key.Emitted n))
    ≡ waiting (get m (key.Emitted n)) + counted (is_emit n) (emit_lines next es)
queue_waits next [] m none n = omega arith
queue_waits next (e ∷ es) m none n =
    let rest = queue_waits (next + 1) es (more next e m) (more_none next e m none) n in
    let here = more_waits next e m (none next (omega arith)) n (next == n) refl in
    omega (arith, rest, here)

-- what waits for its ledgers did so before, or has a line that says so
pub queue_windows : (next : ℕ) (es : List Emission) (m : Entries) (n first last : ℕ) →
    WaitsFor first last (get (with_queued next es m) (key.Emitted n)) →
    WaitsFor first last (get m (key.Emitted n)) ⊎ IsEmitted (emit_lines next es) n first last
queue_windows next [] m n first last waits = inl waits
queue_windows next (e ∷ es) m n first last waits =
    elim (queue_windows (next + 1) es (more next e m) n first last waits)
    as (λ _. WaitsFor first last (get m (key.Emitted n)) ⊎ IsEmitted (emit_lines next (e ∷ es)) n first last) [
      | inl earlier ↦
          let b = is_key (key.Emitted n) (key.Emitted next) in
          more_windows next e m n first last (emit_lines (next + 1) es) b refl
          (subst (WaitsFor first last) (more_at next e m n) earlier)
      | inr later ↦ inr (inr later)
    ]

-- ---- the numbers of the lines

other_line : (next n : ℕ) → (next ≡ n → ⊥) → one_if (next == n) ≡ 0
other_line next n differ = ap one_if (ne_eqb next n differ)

pub emits_low : (next : ℕ) (es : List Emission) (n : ℕ) → n < next → counted (is_emit n) (emit_lines next es) ≡ 0
emits_low next [] n low = refl
emits_low next (e ∷ es) n low =
    let here = other_line next n (λ same. absurd (omega (arith, low, same))) in
    let rest = emits_low (next + 1) es n (omega (arith, low)) in
    omega (arith, here, rest)

pub emits_high : (next : ℕ) (es : List Emission) (n : ℕ) → next + length es ≤ n →
    counted (is_emit n) (emit_lines next es) ≡ 0
emits_high next [] n high = refl
emits_high next (e ∷ es) n high =
    let here = other_line next n (λ same. absurd (omega (arith, high, same))) in
    let rest = emits_high (next + 1) es n (omega (arith, high)) in
    omega (arith, here, rest)

once_by : (next : ℕ) (es : List Emission) (n : ℕ) (b : Bool) → (next == n) ≡ b →
    counted (is_emit n) (emit_lines (next + 1) es) ≤ 1 →
    one_if b + counted (is_emit n) (emit_lines (next + 1) es) ≤ 1
once_by next es n true is once =
    let same = eqb-true next n is in
    let none = emits_low (next + 1) es n (omega (arith, same)) in omega (arith, none)
once_by next es n false is once = omega (arith, once)

pub emits_once : (next : ℕ) (es : List Emission) (n : ℕ) → counted (is_emit n) (emit_lines next es) ≤ 1
emits_once next [] n = omega arith
emits_once next (e ∷ es) n = once_by next es n (next == n) refl (emits_once (next + 1) es n)
