-- All calls keep what the host's state must keep.
use Rattle.std.proofs.Common.{◌≡◌, ℕ, ℤ, pos, inl, Bool, true, false, List, length, refl, sym, ap, subst, ◌∙◌, Ok}
use Rattle.std.proofs.Common.{Option, Some, None, ok_or, ◌+◌, ◌-◌, ◌*◌, ◌^◌, ◌<◌, ◌==◌, ◌&&◌, not, nat_lt, nat_le}
use Rattle.std.proofs.Common.{arith, if◌then◌else◌}
use Rattle.std.specs.FinMap.{get}
use Rattle.std.proofs.lemmas.Bool.{ltb-true}
use Rattle.hk_calls.specs.Arguments.{pair_of}
use Rattle.hk_calls.specs.declared.arguments.Pair.{Pair}
use Rattle.hk_calls.specs.declared.code.Code.TheVariants as code
use Rattle.hk_calls.specs.declared.code.Code.{Code}
use Rattle.hk_calls.specs.Outputs.{Output, writes}
use Rattle.hk_calls.specs.Rules.{inside, read, key}
use Rattle.hk_state.specs.declared.key.StateKey.{StateKey}
use Rattle.hk_state.specs.Keys.{as_key}
use Rattle.hk_emit.specs.declared.emission.Emission.{Emission}
use Rattle.hk_emit.specs.Accepted.{accepted}
use Rattle.hk_state.specs.Fees.{needed_fee}
use Rattle.xo_fields.specs.Laws.{OneHeader}
use Rattle.hk_draft.specs.Extends.{Extends, Emits, KeepsOthers}
use Rattle.hk_draft.specs.Reads.{reads_emitted}
use Rattle.hk_draft.specs.Writers.{MayWriteBy}
use Rattle.hk_draft.proofs.Extended.{extends_itself, extends_further, extends_weaker, extends_state, extends_emission}
use Rattle.hk_draft.proofs.Extended.{others_itself, others_further, others_state}
use Rattle.hk_draft.proofs.Granted.{may_write_means}
use Rattle.hk_draft.proofs.Waiting.{accepted_waits}
use Rattle.hk_api_parts.specs.Emitting.{own_burden, context_of}
use Rattle.hk_api.specs.Emissions.{emit}
use Rattle.hk_api.specs.HostState.{HostState, StateWrite, with_write, with_chain, with_slots, with_emitting}
use Rattle.hk_api.specs.HostState.{with_emission}
use Rattle.hk_api.specs.States.{own_key, foreign_key, owner_of, namespace_of, is_sized, may_write_at, stored, state_set}
use Rattle.hk_api.specs.States.{state_foreign_set, most_bytes, lacks_reserve, added_units}
use Rattle.hk_api.specs.Table.{state_row}
use Rattle.hk_api.specs.Ends.{holds}
use Rattle.hk_api.specs.Leads.{Leads, CallsLead}
use Rattle.hk_calls.proofs.Walks.{Gives, gives_then, gives_after, gives_refuse}

-- the grounds of the hook that runs
abbrev pub Grounds : HostState → StateKey → Type 0
Grounds h = MayWriteBy h.before h.place.hash h.place.account

pub leads_same : (h : HostState) → Leads h h
leads_same h = record {
  setting = refl;
  place = refl;
  before = refl;
  next = refl;
  extends = extends_itself reads_emitted h.setting.header.seq (Grounds h) h.draft;
  others = others_itself h.draft.entries;
}

-- a later step, with the grounds of the first state
later : (h m l : HostState) → Leads h m → Leads m l →
    Extends reads_emitted h.setting.header.seq (Grounds h) m.draft l.draft
later h m l one two =
    subst (λ seq. Extends reads_emitted seq (Grounds h) m.draft l.draft) (ap (λ s. s.header.seq) one.setting)
    (extends_weaker reads_emitted m.setting.header.seq (Grounds m) (Grounds h)
    (λ q may.
    subst (λ before. MayWriteBy before h.place.hash h.place.account q) one.before
    (subst (λ place. MayWriteBy m.before place.hash place.account q) one.place may))
    m.draft l.draft two.extends)

pub leads_then : (h m l : HostState) → Leads h m → Leads m l → Leads h l
leads_then h m l one two = record {
  setting = two.setting ∙ one.setting;
  place = two.place ∙ one.place;
  before = two.before ∙ one.before;
  next = two.next ∙ one.next;
  extends =
      extends_further reads_emitted h.setting.header.seq (Grounds h) h.draft m.draft l.draft one.extends
      (later h m l one two);
  others = others_further h.draft.entries m.draft.entries l.draft.entries one.others two.others;
}

leads_write : (h : HostState) (w : StateWrite) → Grounds h w.at → Leads h (with_write h w)
leads_write h w may = record {
  setting = refl;
  place = refl;
  before = refl;
  next = refl;
  extends = extends_state reads_emitted h.setting.header.seq (Grounds h) h.draft w.at w.bytes may;
  others = others_state h.draft w.at w.bytes;
}

-- a step that leaves the draft
leads_beside : (h after : HostState) → after.setting ≡ h.setting → after.place ≡ h.place → after.before ≡ h.before →
    after.next ≡ h.next → after.draft ≡ h.draft → Leads h after
leads_beside h after setting place before next draft = record {
  setting = setting;
  place = place;
  before = before;
  next = next;
  extends =
      subst (Extends reads_emitted h.setting.header.seq (Grounds h) h.draft) (sym draft)
      (extends_itself reads_emitted h.setting.header.seq (Grounds h) h.draft);
  others = subst (λ d. KeepsOthers h.draft.entries d.entries) (sym draft) (others_itself h.draft.entries);
}

-- rows that write state
not_false : (b : Bool) → not b ≡ false → b ≡ true
not_false true e = refl
not_false false e = cc

abbrev MayWriteIt : HostState → ℤ × StateWrite → Type 0
MayWriteIt h r = Grounds h r.1.at

stored_may : (h : HostState) (q : StateKey) (bytes : List ℕ) → Grounds h q → Gives (MayWriteIt h) (stored h q bytes)
stored_may h q bytes may =
    gives_refuse (MayWriteIt h)
    (lacks_reserve h.draft.entries q.owner (added_units (get h.draft.entries (as_key q)) bytes))
    code.ReserveInsufficient
    (Ok (pos (length bytes), record { at = q; bytes = bytes })) (λ _. may)

state_set_may : (h : HostState) (m : List ℕ) (from at : Pair) → Gives (MayWriteIt h) (state_set h m from at)
state_set_may h m from at =
    gives_then (MayWriteIt h) (read m from) _ (λ value _.
    gives_then (MayWriteIt h) (read m at) _ (λ bytes _.
    gives_then (MayWriteIt h) (key bytes) _ (λ k _.
    gives_refuse (MayWriteIt h) (nat_lt (most_bytes h.place.version) from.count) code.TooBig
    (stored h (own_key h.place k) value) (λ _.
    stored_may h (own_key h.place k) value (inl refl)))))

foreign_may : (h : HostState) (m : List ℕ) (from at space of : Pair) →
    Gives (MayWriteIt h) (state_foreign_set h m from at space of)
foreign_may h m from at space of =
    gives_then (MayWriteIt h) (read m from) _ (λ value _.
    gives_then (MayWriteIt h) (read m at) _ (λ bytes _.
    gives_then (MayWriteIt h) (read m space) _ (λ namespace _.
    gives_then (MayWriteIt h) (read m of) _ (λ account _.
    gives_then (MayWriteIt h) (key bytes) _ (λ k _.
    gives_refuse (MayWriteIt h) (not (is_sized 32 space && is_sized 20 of)) code.InvalidArgument _ (λ _.
    gives_refuse (MayWriteIt h) (nat_lt (most_bytes h.place.version) from.count) code.TooBig _ (λ _.
    gives_refuse (MayWriteIt h) (not (may_write_at h (foreign_key h.place account namespace k))) code.NotAuthorized
    (stored h (foreign_key h.place account namespace k) value) (λ e.
    stored_may h (foreign_key h.place account namespace k) value
    (may_write_means h.before h.place.hash h.place.account (owner_of h.place account) (namespace_of h.place namespace)
    (not_false _ e))))))))))

state_may : (h : HostState) (row : ℕ) (a m : List ℕ) → Gives (MayWriteIt h) (state_row h row a m)
unfolding state_row
state_may h row a m = by_test (row == 55)
  where
    by_test : (b : Bool) → Gives (MayWriteIt h) (if b then state_set h m (pair_of a 0) (pair_of a 2) else
        state_foreign_set h m (pair_of a 0) (pair_of a 2) (pair_of a 4) (pair_of a 6))
    by_test true = state_set_may h m (pair_of a 0) (pair_of a 2)
    by_test false = foreign_may h m (pair_of a 0) (pair_of a 2) (pair_of a 4) (pair_of a 6)

state_leads : (h : HostState) (row : ℕ) (a m : List ℕ) (n : ℤ) (w : StateWrite) → state_row h row a m ≡ Ok (n, w) →
    Leads h (with_write h w)
state_leads h row a m n w e = leads_write h w (subst (Gives (MayWriteIt h)) e (state_may h row a m))

leads_emission : (h : HostState) (e : Emission) → Emits reads_emitted h.setting.header.seq e →
    Leads h (with_emission h e)
leads_emission h e emits = record {
  setting = refl;
  place = refl;
  before = refl;
  next = refl;
  extends = extends_emission reads_emitted h.setting.header.seq (Grounds h) h.draft e emits;
  others = others_itself h.draft.entries;
}

-- what is emitted may wait
abbrev Waits : HostState → Output × Emission → Type 0
Waits h r = Emits reads_emitted h.setting.header.seq r.1

taken : (o : Option Emission) (refusal : Code) (e : Emission) → ok_or o refusal ≡ Ok e → o ≡ Some e
taken (Some x) refusal e is = let same : x ≡ e = cc in ap (λ y. Some y) same
taken None refusal e is = cc

-- the burden of emissions is a number of 63 bits
small_if : (n : ℕ) (b : Bool) → nat_lt n (2 ^ 63) ≡ b → (refusal : Code) →
    Gives (λ m. m < 2 ^ 63) (ok_or (if b then Some n else None) refusal)
small_if n true e refusal = ltb-true n (2 ^ 63) e
small_if n false e refusal = tt

small_burden : (h : HostState) → Gives (λ m. m < 2 ^ 63) (own_burden h.setting h.emitting)
small_burden h =
    gives_refuse (λ m. m < 2 ^ 63) (h.emitting.reserved == 0) code.PrerequisiteNotMet _ (λ _.
    small_if (h.setting.transaction.burden * h.emitting.reserved) _ refl code.FeeTooLarge)

emit_waits : OneHeader → (h : HostState) (m : List ℕ) (write from : Pair) → Gives (Waits h) (emit h m write from)
emit_waits one h m write from =
    gives_after (Waits h) (inside m write) _ (
    gives_then (Waits h) (read m from) _ (λ blob _.
    gives_refuse (Waits h) (nat_lt write.count 32) code.TooSmall _ (λ _.
    gives_refuse (Waits h) (h.emitting.reserved == 0) code.PrerequisiteNotMet _ (λ _.
    gives_refuse (Waits h) (nat_le h.emitting.reserved h.emitting.emitted) code.TooManyEmittedTxn _ (λ _.
    gives_then (Waits h) (own_burden h.setting h.emitting) _ (λ b given.
    gives_then (Waits h) (ok_or (accepted blob (context_of h.setting h.place b) h.emitting.unused) code.EmissionFailure)
    _ (λ e is.
    gives_refuse (Waits h) (nat_lt e.transaction.fee (needed_fee h.before e.transaction * b)) code.EmissionFailure _
    (λ _.
    gives_refuse (Waits h) (nat_le (2 ^ 63 - 1) (h.next + length h.draft.emissions)) code.EmissionFailure
    (Ok (writes e.transaction.id.0, e)) (λ _.
    accepted_waits one blob (context_of h.setting h.place b) h.emitting.unused e (omega arith) (omega arith)
    (subst (Gives (λ m. m < 2 ^ 63)) given (small_burden h)) (taken _ code.EmissionFailure e is))))))))))

emission_leads : OneHeader → (h : HostState) (a m : List ℕ) (output : Output) (e : Emission) →
    emit h m (pair_of a 0) (pair_of a 2) ≡ Ok (output, e) → Leads h (with_emission h e)
emission_leads one h a m output e is =
    leads_emission h e (subst (Gives (Waits h)) is (emit_waits one h m (pair_of a 0) (pair_of a 2)))

pub calls_lead : OneHeader → CallsLead
calls_lead one h row a m = holds h row a m (λ g. Leads h g.after) (record {
  asked = λ n memory same. leads_same h;
  chain = λ n chain. leads_beside h (with_chain h chain) refl refl refl refl refl;
  slots = λ n slots. leads_beside h (with_slots h slots) refl refl refl refl refl;
  state = state_leads h row a m;
  counted = λ n memory e same. leads_beside h (with_emitting h e) refl refl refl refl refl;
  emission = λ n memory output e is same. emission_leads one h a m output e is;
})
