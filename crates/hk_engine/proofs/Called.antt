-- Whatever a hook calls keeps the limits of ledgers.
use Rattle.std.proofs.Common.{◌≡◌, ◌∙◌, ap, sym, subst, refl, arith, ℕ, ◌+◌, ◌-◌, ◌*◌, ◌^◌, ◌≤◌, ◌<◌, ◌==◌, ◌&&◌, not}
use Rattle.std.proofs.Common.{ℤ, pos, Bool, true, false, nat_lt, nat_le, if◌then◌else◌, List, length, take, drop, Ok}
use Rattle.std.proofs.Common.{Err, ok_or}
use Rattle.std.specs.FinMap.{get}
use Rattle.std.proofs.lemmas.Bool.{leb-false, ltb-false}
use Rattle.std.proofs.lemmas.List.{length-take}
use Rattle.wa_num.specs.Memory.{fits}
use Rattle.hk_calls.specs.Arguments.{pair_of}
use Rattle.hk_calls.specs.Outputs.{Output, writes}
use Rattle.hk_calls.specs.Rules.{inside, read, key}
use Rattle.hk_calls.specs.declared.arguments.Pair.{Pair}
use Rattle.hk_calls.specs.declared.code.Code.TheVariants as code
use Rattle.hk_calls.proofs.Walks.{Gives, gives_then, gives_after, gives_refuse}
use Rattle.hk_emit.specs.declared.emission.Emission.{Emission}
use Rattle.hk_emit.specs.Accepted.{accepted}
use Rattle.hk_state.specs.declared.key.StateKey.{StateKey}
use Rattle.hk_state.specs.Fees.{needed_fee}
use Rattle.hk_state.specs.Keys.{as_key}
use Rattle.hk_api_parts.specs.Emitting.{own_burden, context_of}
use Rattle.hk_api_pure.specs.Table.{pure_call}
use Rattle.hk_api.specs.Emissions.{emit}
use Rattle.hk_api.specs.Ends.{holds}
use Rattle.hk_api.specs.HostState.{HostState, StateWrite, with_write, with_chain, with_slots, with_emitting}
use Rattle.hk_api.specs.HostState.{with_emission}
use Rattle.hk_api.specs.States.{own_key, foreign_key, is_sized, may_write_at, stored, state_set, state_foreign_set}
use Rattle.hk_api.specs.States.{most_bytes, lacks_reserve, added_units}
use Rattle.hk_api.specs.Table.{state_row, answers}
use Rattle.hk_chain.specs.Calls.{unchanged, hook_answers}
use Rattle.hk_events.specs.Complete as complete
use Rattle.hk_events.specs.Limits.{most_number}
use Rattle.hk_engine.specs.Kept.{KeepsLimits, CallKeeps}
use Rattle.hk_engine.specs.Laws.{CallsKeep}
use Rattle.hk_engine.proofs.Written.{limits_itself, limits_further, state_limits, emission_limits}

-- ---- rows that write state

-- bytes that a State entry may have, and for which the owner's balance reaches
record IsCovered (h : HostState) (r : ℤ × StateWrite) : Type 0 where
  short : length r.1.bytes ≤ complete.most_bytes
  reaches : lacks_reserve h.draft.entries r.1.at.owner
      (added_units (get h.draft.entries (as_key r.1.at)) r.1.bytes) ≡ false

most_if : (b : Bool) → (if b then 2048 else 256) ≤ 2048
most_if true = omega arith
most_if false = omega arith

read_length : (m : List ℕ) (from : Pair) (value : List ℕ) (b : Bool) →
    (if b then Ok (take from.count (drop from.at m)) else Err code.OutOfBounds) ≡ Ok value → length value ≤ from.count
read_length m from value true is =
    let same : take from.count (drop from.at m) ≡ value = cc in
    let long = ap length same in
    let least = length-take from.count (drop from.at m) in
    grind (arith, long, least)
read_length m from value false is = absurd (cc is)

short_enough : (version : ℕ) (m : List ℕ) (from : Pair) (value : List ℕ) → read m from ≡ Ok value →
    nat_lt (most_bytes version) from.count ≡ false → length value ≤ 2048
short_enough version m from value is few =
    let long = read_length m from value (fits m from.at from.count) is in
    let most = ltb-false (most_bytes version) from.count few in
    let limit = most_if (version == 1) in
    omega (arith, long, most, limit)

module _ (h : HostState) where
  abbrev Covered : ℤ × StateWrite → Type 0
  Covered = IsCovered h

  stored_covered : (q : StateKey) (bytes : List ℕ) → length bytes ≤ complete.most_bytes →
      Gives Covered (stored h q bytes)
  stored_covered q bytes short =
      gives_refuse Covered
      (lacks_reserve h.draft.entries q.owner (added_units (get h.draft.entries (as_key q)) bytes))
      code.ReserveInsufficient (Ok (pos (length bytes), record { at = q; bytes = bytes }))
      (λ reaches. record { short = short; reaches = reaches })

  state_set_covered : (m : List ℕ) (from at : Pair) → Gives Covered (state_set h m from at)
  state_set_covered m from at =
      gives_then Covered (read m from) _ (λ value is.
      gives_then Covered (read m at) _ (λ bytes _.
      gives_then Covered (key bytes) _ (λ k _.
      gives_refuse Covered (nat_lt (most_bytes h.place.version) from.count) code.TooBig
      (stored h (own_key h.place k) value) (λ few.
      stored_covered (own_key h.place k) value (short_enough h.place.version m from value is few)))))

  foreign_covered : (m : List ℕ) (from at space of : Pair) → Gives Covered (state_foreign_set h m from at space of)
  foreign_covered m from at space of =
      gives_then Covered (read m from) _ (λ value is.
      gives_then Covered (read m at) _ (λ bytes _.
      gives_then Covered (read m space) _ (λ namespace _.
      gives_then Covered (read m of) _ (λ account _.
      gives_then Covered (key bytes) _ (λ k _.
      gives_refuse Covered (not (is_sized 32 space && is_sized 20 of)) code.InvalidArgument _ (λ _.
      gives_refuse Covered (nat_lt (most_bytes h.place.version) from.count) code.TooBig _ (λ few.
      gives_refuse Covered (not (may_write_at h (foreign_key h.place account namespace k))) code.NotAuthorized
      (stored h (foreign_key h.place account namespace k) value) (λ _.
      stored_covered (foreign_key h.place account namespace k) value
      (short_enough h.place.version m from value is few)))))))))

  row_covered : (m a : List ℕ) (own : Bool) →
      Gives Covered (if own then state_set h m (pair_of a 0) (pair_of a 2)
      else state_foreign_set h m (pair_of a 0) (pair_of a 2) (pair_of a 4) (pair_of a 6))
  row_covered m a true = state_set_covered m (pair_of a 0) (pair_of a 2)
  row_covered m a false = foreign_covered m (pair_of a 0) (pair_of a 2) (pair_of a 4) (pair_of a 6)

  state_covered : (row : ℕ) (a m : List ℕ) → Gives Covered (state_row h row a m)
  unfolding state_row
  state_covered row a m = row_covered m a (row == 55)

  state_keeps : (row : ℕ) (a m : List ℕ) (n : ℤ) (w : StateWrite) → state_row h row a m ≡ Ok (n, w) →
      CallKeeps h (with_write h w)
  state_keeps row a m n w is =
      let so : IsCovered h (n, w) = subst (Gives Covered) is (state_covered row a m) in
      record { next = refl; limits = state_limits h.next h.draft w.at w.bytes so.short so.reaches }

  -- ---- the row that emits

  -- a number is left for the emission
  abbrev HasRoom : Output × Emission → Type 0
  HasRoom r = h.next + length h.draft.emissions < most_number

  emit_room : (m : List ℕ) (write from : Pair) → Gives HasRoom (emit h m write from)
  emit_room m write from =
      gives_after HasRoom (inside m write) _ (
      gives_then HasRoom (read m from) _ (λ blob _.
      gives_refuse HasRoom (nat_lt write.count 32) code.TooSmall _ (λ _.
      gives_refuse HasRoom (h.emitting.reserved == 0) code.PrerequisiteNotMet _ (λ _.
      gives_refuse HasRoom (nat_le h.emitting.reserved h.emitting.emitted) code.TooManyEmittedTxn _ (λ _.
      gives_then HasRoom (own_burden h.setting h.emitting) _ (λ b _.
      gives_then HasRoom (ok_or (accepted blob (context_of h.setting h.place b) h.emitting.unused)
      code.EmissionFailure) _ (λ e _.
      gives_refuse HasRoom (nat_lt e.transaction.fee (needed_fee h.before e.transaction * b)) code.EmissionFailure _
      (λ _.
      gives_refuse HasRoom (nat_le (2 ^ 63 - 1) (h.next + length h.draft.emissions)) code.EmissionFailure
      (Ok (writes e.transaction.id.0, e)) (λ few.
      leb-false (2 ^ 63 - 1) (h.next + length h.draft.emissions) few)))))))))

  emission_keeps : (a m : List ℕ) (output : Output) (e : Emission) →
      emit h m (pair_of a 0) (pair_of a 2) ≡ Ok (output, e) → CallKeeps h (with_emission h e)
  emission_keeps a m output e is =
      let left : h.next + length h.draft.emissions < most_number =
      subst (Gives HasRoom) is (emit_room m (pair_of a 0) (pair_of a 2)) in
      record { next = refl; limits = emission_limits h.next h.draft e left }

  -- ---- all calls

  call_same : (after : HostState) → after.next ≡ h.next → after.draft ≡ h.draft → CallKeeps h after
  call_same after next draft = record {
    next = next;
    limits = subst (KeepsLimits h.next h.draft) (sym draft) (limits_itself h.next h.draft);
  }

  answer_keeps : (row : ℕ) (a m : List ℕ) → CallKeeps h (answers h row a m).after
  answer_keeps row a m = holds h row a m (λ g. CallKeeps h g.after) (record {
    asked = λ n memory same. call_same h refl refl;
    chain = λ n chain. call_same (with_chain h chain) refl refl;
    slots = λ n slots. call_same (with_slots h slots) refl refl;
    state = state_keeps row a m;
    counted = λ n memory e same. call_same (with_emitting h e) refl refl;
    emission = λ n memory output e is same. emission_keeps a m output e is;
  })

  call_by : (pure : Bool) (row : ℕ) (a m : List ℕ) →
      CallKeeps h (if pure then unchanged h (pure_call row a m) else answers h row a m).after
  call_by true row a m = call_same h refl refl
  call_by false row a m = answer_keeps row a m

pub calls_keep : CallsKeep
unfolding hook_answers
calls_keep h row arguments memory = call_by h (nat_lt row 27) row arguments memory

pub keeps_itself : (h : HostState) → CallKeeps h h
keeps_itself h = call_same h h refl refl

pub keeps_further : (h m l : HostState) → CallKeeps h m → CallKeeps m l → CallKeeps h l
keeps_further h m l one two = record {
  next = two.next ∙ one.next;
  limits = limits_further h.next h.draft m.draft l.draft one.limits
      (subst (λ n. KeepsLimits n m.draft l.draft) one.next two.limits);
}
