-- What waits in the queue and is due, as emissions enter it.
use Rattle.std.proofs.Common.{◌≡◌, ℕ, ◌+◌, Bool, true, false, cond, List, [], ◌∷◌, refl, sym, ap, ◌∙◌, arith, Option}
use Rattle.std.proofs.Common.{Some, None}
use Rattle.std.specs.FinMap.{get, insert, get-insert}
use Rattle.std.proofs.lemmas.Bool.{lt-leb}
use Rattle.hk_reading.specs.declared.reading.Reading.{Reading}
use Rattle.hk_emit.specs.declared.emission.Emission.{Emission}
use Rattle.hk_state.specs.declared.entry.Entry.{Entry}
use Rattle.hk_state.specs.declared.key.Key.TheVariants as key
use Rattle.hk_state.specs.Keys.{is_key, exact, keys_total}
use Rattle.hk_state.specs.Entries.{Entries}
use Rattle.hk_draft.specs.Lists.{Each}
use Rattle.hk_draft.specs.Extends.{Emits}
use Rattle.hk_events.specs.Events.{queued, with_queued}
use Rattle.hk_events.specs.Settled.{is_due, passes}
use Rattle.hk_events.specs.Good.{IsQueueGood}
use Rattle.hk_events.proofs.Queueing.{number_or, good_put}

module _ (reads : List ℕ → Reading) (seq : ℕ) where
  nothing_at : (next : ℕ) (m : Entries) → IsQueueGood reads next m → (found : Option Entry) →
      get m (key.Emitted next) ≡ found → passes (is_due seq) found ≡ false
  nothing_at next m good None at = refl
  nothing_at next m good (Some x) at = let low = (good next x at).0 in absurd (omega (arith, low))

  due_by : (next : ℕ) (e : Emission) (m : Entries) → Emits reads seq e → IsQueueGood reads next m → (n : ℕ) (b : Bool) →
      is_key (key.Emitted n) (key.Emitted next) ≡ b →
      passes (is_due seq) (cond b (Some (queued e)) (get m (key.Emitted n)))
      ≡ passes (is_due seq) (get m (key.Emitted n))
  due_by next e m emits good n true is =
      let at : n ≡ next = ap (number_or n) (exact (key.Emitted n) (key.Emitted next) is) in
      lt-leb e.first seq emits.later
      ∙ sym (ap (λ k. passes (is_due seq) (get m (key.Emitted k))) at
      ∙ nothing_at next m good (get m (key.Emitted next)) refl)
  due_by next e m emits good n false is = refl

  -- what enters the queue isn't due
  pub due_queue : (next : ℕ) (es : List Emission) (m : Entries) → Each (Emits reads seq) es → IsQueueGood reads next m →
      (n : ℕ) →
      passes (is_due seq) (get (with_queued next es m) (key.Emitted n)) ≡ passes (is_due seq) (get m (key.Emitted n))
  due_queue next [] m emits good n = refl
  due_queue next (e ∷ es) m emits good n =
      due_queue (next + 1) es (insert m (key.Emitted next) (queued e)) emits.1
      (good_put reads seq next e m emits.0 good) n
      ∙ ap (passes (is_due seq)) (get-insert keys_total m (key.Emitted next) (queued e) (key.Emitted n))
      ∙ due_by next e m emits.0 good n (is_key (key.Emitted n) (key.Emitted next)) refl
