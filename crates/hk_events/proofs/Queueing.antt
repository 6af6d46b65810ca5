-- Emissions that enter the queue.
use Rattle.std.proofs.Common.{◌≡◌, ℕ, ◌+◌, ◌<◌, ◌==◌, Bool, true, false, cond, List, [], ◌∷◌, ◌++◌, length, refl, sym}
use Rattle.std.proofs.Common.{ap, subst, ◌∙◌, arith, Option, Some, None}
use Rattle.std.proofs.lemmas.Bool.{eq-eqb}
use Rattle.std.specs.FinMap.{get, insert, remove, get-insert, get-remove}
use Rattle.hk_lines.specs.declared.output_line.OutputLine.{OutputLine}
use Rattle.hk_lines.specs.declared.output_line.OutputLine.TheVariants as printed
use Rattle.hk_reading.specs.declared.reading.Reading.{Reading}
use Rattle.hk_emit.specs.declared.emission.Emission.{Emission}
use Rattle.hk_state.specs.declared.entry.Entry.{Entry}
use Rattle.hk_state.specs.declared.key.Key.{Key}
use Rattle.hk_state.specs.declared.key.Key.TheVariants as key
use Rattle.hk_state.specs.Keys.{is_key, keys_total, exact, itself}
use Rattle.hk_state.specs.Entries.{Entries}
use Rattle.hk_state.specs.Balances.{balances, worth}
use Rattle.hk_state.specs.Sums.{part, sum-insert}
use Rattle.hk_draft.specs.Lists.{Each}
use Rattle.hk_draft.specs.Extends.{Emits}
use Rattle.hk_events.specs.Lists.{one_if, counted}
use Rattle.hk_events.specs.Printed.{state_lines, emit_lines}
use Rattle.hk_events.specs.Events.{queued, with_queued, kept_lines}
use Rattle.hk_events.specs.Whole.{IsQueuedIn, WaitsFor, is_emit}
use Rattle.hk_events.specs.Good.{IsQueued, IsQueueGood}
use Rattle.hk_draft.proofs.Extended.{each-append}
use Rattle.hk_draft.specs.Draft.{Draft}
use Rattle.hk_events.proofs.Words.{each-map}
use Rattle.hk_events.proofs.Telling.{IsRecord, IsFront, IsState, all_state}

abbrev pub number_or : ℕ → Key → ℕ
number_or other (key.Emitted n) = n
number_or other k = other

-- a key of the queue is another's where their numbers differ
pub other_number : (n k : ℕ) → (n ≡ k → ⊥) → is_key (key.Emitted n) (key.Emitted k) ≡ false
other_number n k differ =
    elim (is_key (key.Emitted n) (key.Emitted k)) as (λ b. is_key (key.Emitted n) (key.Emitted k) ≡ b → b ≡ false) [
      | true ↦ λ same. absurd (differ (ap (number_or n) (exact (key.Emitted n) (key.Emitted k) same)))
      | false ↦ λ h. refl
    ] refl

pub no_number : (found : Option Entry) (n : ℕ) → part worth (key.Emitted n) found ≡ 0
no_number None n = refl
no_number (Some x) n = refl

-- the entries that have no number stay
abbrev pub is_numbered : Key → Bool
is_numbered (key.Emitted n) = true
is_numbered other = false

pub other_kind : (k : Key) (n : ℕ) → is_numbered k ≡ false → is_key k (key.Emitted n) ≡ false
other_kind (key.Account id) n h = refl
other_kind (key.Install owner position) n h = refl
other_kind (key.Definition hash) n h = refl
other_kind (key.State owner namespace k) n h = refl
other_kind (key.Emitted m) n h = cc
other_kind (key.Other bytes) n h = refl

pub queue_others : (next : ℕ) (es : List Emission) (m : Entries) (k : Key) → is_numbered k ≡ false →
    get (with_queued next es m) k ≡ get m k
queue_others next [] m k h = refl
queue_others next (e ∷ es) m k h =
    queue_others (next + 1) es (insert m (key.Emitted next) (queued e)) k h
    ∙ get-insert keys_total m (key.Emitted next) (queued e) k
    ∙ ap (λ b. cond b (Some (queued e)) (get m k)) (other_kind k next h)

-- without an emission
pub without_other : (m : Entries) (number : ℕ) (k : Key) → is_numbered k ≡ false →
    get (remove m (key.Emitted number)) k ≡ get m k
without_other m number k h =
    get-remove keys_total m (key.Emitted number) k ∙ ap (λ b. cond b None (get m k)) (other_kind k number h)

pub queue_sum : (next : ℕ) (es : List Emission) (m : Entries) → balances (with_queued next es m) ≡ balances m
queue_sum next [] m = refl
queue_sum next (e ∷ es) m =
    let rest = queue_sum (next + 1) es (insert m (key.Emitted next) (queued e)) in
    let put = sum-insert worth m (key.Emitted next) (queued e) in
    let none = no_number (get m (key.Emitted next)) next in
    omega (arith, rest, put, none)

put_other : (m : Entries) (next n : ℕ) (e : Emission) → (n ≡ next → ⊥) →
    get (insert m (key.Emitted next) (queued e)) (key.Emitted n) ≡ get m (key.Emitted n)
put_other m next n e differ =
    get-insert keys_total m (key.Emitted next) (queued e) (key.Emitted n)
    ∙ ap (λ b. cond b (Some (queued e)) (get m (key.Emitted n))) (other_number n next differ)

put_here : (m : Entries) (next : ℕ) (e : Emission) →
    get (insert m (key.Emitted next) (queued e)) (key.Emitted next) ≡ Some (queued e)
put_here m next e =
    get-insert keys_total m (key.Emitted next) (queued e) (key.Emitted next)
    ∙ ap (λ b. cond b (Some (queued e)) (get m (key.Emitted next))) (itself (key.Emitted next))

-- numbers below the first stay
pub queue_below : (next : ℕ) (es : List Emission) (m : Entries) (n : ℕ) → n < next →
    get (with_queued next es m) (key.Emitted n) ≡ get m (key.Emitted n)
queue_below next [] m n low = refl
queue_below next (e ∷ es) m n low =
    queue_below (next + 1) es (insert m (key.Emitted next) (queued e)) n (omega (arith, low))
    ∙ put_other m next n e (λ same. absurd (omega (arith, low, same)))

-- numbers without a line stay
pub queue_silent : (next : ℕ) (es : List Emission) (m : Entries) (n : ℕ) →
    counted (is_emit n) (emit_lines next es) ≡ 0 →
    get (with_queued next es m) (key.Emitted n) ≡ get m (key.Emitted n)
queue_silent next [] m n none = refl
queue_silent next (e ∷ es) m n none =
    queue_silent (next + 1) es (insert m (key.Emitted next) (queued e)) n (omega (arith, none))
    ∙ put_other m next n e (λ same.
    let here : one_if (next == n) ≡ 1 = ap one_if (eq-eqb next n (sym same)) in absurd (omega (arith, none, here)))

-- each line's emission waits
pub queue_lines : (next : ℕ) (es : List Emission) (m : Entries) →
    Each (IsQueuedIn (with_queued next es m)) (emit_lines next es)
queue_lines next [] m = tt
queue_lines next (e ∷ es) m =
    let n : Entries = insert m (key.Emitted next) (queued e) in
    let at : get (with_queued (next + 1) es n) (key.Emitted next) ≡ Some (queued e) =
    queue_below (next + 1) es n next (omega arith) ∙ put_here m next e in
    (subst (WaitsFor e.first e.last) (sym at) (refl, refl), queue_lines (next + 1) es n)

pub emit_lines-append : (next : ℕ) (es fs : List Emission) →
    emit_lines next (es ++ fs) ≡ emit_lines next es ++ emit_lines (next + length es) fs
emit_lines-append next [] fs = ap (λ n. emit_lines n fs) (let same : next ≡ next + 0 = omega arith in same)
emit_lines-append next (e ∷ es) fs =
    ap (λ lines. printed.Emit next e.first e.last ∷ lines)
    (emit_lines-append (next + 1) es fs
    ∙ ap (λ n. emit_lines (next + 1) es ++ emit_lines n fs)
    (let same : next + 1 + length es ≡ next + length (e ∷ es) = omega arith in same))

-- the queue stays good
module _ (reads : List ℕ → Reading) (seq : ℕ) where
  good_at : (next : ℕ) (e : Emission) (m : Entries) → Emits reads seq e → IsQueueGood reads next m →
      (n : ℕ) (x : Entry) (b : Bool) →
      is_key (key.Emitted n) (key.Emitted next) ≡ b → cond b (Some (queued e)) (get m (key.Emitted n)) ≡ Some x →
      (n < next + 1) × IsQueued reads x
  good_at next e m emits good n x true same at =
      let number : n ≡ next = ap (number_or n) (exact (key.Emitted n) (key.Emitted next) same) in
      let is : queued e ≡ x = cc in
      (omega (arith, number), subst (IsQueued reads) is emits.well)
  good_at next e m emits good n x false same at =
      let low = (good n x at).0 in (omega (arith, low), (good n x at).1)

  pub good_put : (next : ℕ) (e : Emission) (m : Entries) → Emits reads seq e → IsQueueGood reads next m →
      IsQueueGood reads (next + 1) (insert m (key.Emitted next) (queued e))
  good_put next e m emits good n x at =
      good_at next e m emits good n x (is_key (key.Emitted n) (key.Emitted next)) refl
      (sym (get-insert keys_total m (key.Emitted next) (queued e) (key.Emitted n)) ∙ at)

  pub good_queue : (next : ℕ) (es : List Emission) (m : Entries) → Each (Emits reads seq) es →
      IsQueueGood reads next m →
      IsQueueGood reads (next + length es) (with_queued next es m)
  good_queue next [] m emits good n x at = let low = (good n x at).0 in (omega (arith, low), (good n x at).1)
  good_queue next (e ∷ es) m emits good n x at =
      let rest =
      good_queue (next + 1) es (insert m (key.Emitted next) (queued e)) emits.1 (good_put next e m emits.0 good) n x
      at in
      let low = rest.0 in (omega (arith, low), rest.1)

-- lines of other kinds say nothing of the queue
module _ (m : Entries) where
  record_queued : (line : OutputLine) → IsRecord line → IsQueuedIn m line
  record_queued (printed.Hook account position outcome count bound) h = tt
  record_queued (printed.Callback account position outcome count bound) h = tt
  record_queued other h = absurd h

  state_queued : (line : OutputLine) → IsState line → IsQueuedIn m line
  state_queued (printed.State account namespace k value) h = tt
  state_queued other h = absurd h

  front_queued_line : (line : OutputLine) → IsFront line → IsQueuedIn m line
  front_queued_line (printed.Settled number word result fee) h = tt
  front_queued_line other h = absurd h

  pub front_queued : (lines : List OutputLine) → Each IsFront lines → Each (IsQueuedIn m) lines
  front_queued lines h = each-map IsFront (IsQueuedIn m) front_queued_line lines h

  pub kept_queued : (next : ℕ) (d : Draft) (records : List OutputLine) → Each IsRecord records →
      Each (IsQueuedIn m) (emit_lines next d.emissions) → Each (IsQueuedIn m) (kept_lines next d records)
  kept_queued next d records are emits =
      each-append (IsQueuedIn m) records (state_lines d.entries d.written ++ emit_lines next d.emissions)
      (each-map IsRecord (IsQueuedIn m) record_queued records are)
      (each-append (IsQueuedIn m) (state_lines d.entries d.written) (emit_lines next d.emissions)
      (each-map IsState (IsQueuedIn m) state_queued (state_lines d.entries d.written) (all_state d.entries d.written))
      emits)
