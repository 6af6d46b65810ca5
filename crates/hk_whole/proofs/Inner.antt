-- The lines of what runs, is written and is emitted: they settle nothing, and tell of nothing at the end.
use Rattle.std.proofs.Common.{◌≡◌, ℕ, ◌+◌, ◌⊎◌, inl, inr, Bool, true, false, List, [], ◌∷◌, ◌++◌, length}
use Rattle.std.proofs.Common.{refl, ap, subst, arith, Option}
use Rattle.hk_lines.specs.declared.output_line.OutputLine.{OutputLine}
use Rattle.hk_lines.specs.declared.output_line.OutputLine.TheVariants as printed
use Rattle.hk_emit.specs.declared.emission.Emission.{Emission}
use Rattle.hk_draft.specs.Draft.{Draft}
use Rattle.hk_draft.specs.Ends.{IsOneCallback}
use Rattle.hk_draft.specs.Lists.{Each, SomeOf}
use Rattle.hk_draft.specs.Writers.{IsHook}
use Rattle.hk_draft.proofs.Extended.{each-append}
use Rattle.hk_draft.proofs.Somewhere.{some-front, some-behind}
use Rattle.hk_events.specs.Lists.{counted}
use Rattle.hk_events.specs.Printed.{state_lines, emit_lines}
use Rattle.hk_events.specs.Events.{kept_lines}
use Rattle.hk_events.specs.Whole.{is_emit, is_settled}
use Rattle.hk_events.proofs.Queueing.{emit_lines-append}
use Rattle.hk_events.proofs.Telling.{IsRecord, IsState, IsEmit, all_state, all_emit, kept_emit, records_emit}
use Rattle.hk_events.proofs.Words.{counted-append, each-map, none_counted}
use Rattle.hk_final.specs.Counted.{is_queued}
use Rattle.hk_whole.specs.Accounts.{IsEmitted, AreAsEmitted, AreCalled}

abbrev pub IsInner : OutputLine → Type 0
IsInner (printed.Hook account position outcome count bound) = Unit {0}
IsInner (printed.Callback account position outcome count bound) = Unit {0}
IsInner (printed.State account namespace k value) = Unit {0}
IsInner (printed.Emit number first last) = Unit {0}
IsInner other = ⊥

record_inner : (line : OutputLine) → IsRecord line → IsInner line
record_inner (printed.Hook account position outcome count bound) h = tt
record_inner (printed.Callback account position outcome count bound) h = tt
record_inner other h = absurd h

state_inner : (line : OutputLine) → IsState line → IsInner line
state_inner (printed.State account namespace k value) h = tt
state_inner other h = absurd h

emit_inner : (line : OutputLine) → IsEmit line → IsInner line
emit_inner (printed.Emit number first last) h = tt
emit_inner other h = absurd h

-- ---- what they say nothing of

inner_settled : (n : ℕ) (line : OutputLine) → IsInner line → is_settled n line ≡ false
inner_settled n (printed.Hook account position outcome count bound) h = refl
inner_settled n (printed.Callback account position outcome count bound) h = refl
inner_settled n (printed.State account namespace k value) h = refl
inner_settled n (printed.Emit number first last) h = refl
inner_settled n other h = absurd h

inner_queued : (n : ℕ) (line : OutputLine) → IsInner line → is_queued n line ≡ false
inner_queued n (printed.Hook account position outcome count bound) h = refl
inner_queued n (printed.Callback account position outcome count bound) h = refl
inner_queued n (printed.State account namespace k value) h = refl
inner_queued n (printed.Emit number first last) h = refl
inner_queued n other h = absurd h

module _ (lines : List OutputLine) (inner : Each IsInner lines) where
  pub none_settled : (n : ℕ) → counted (is_settled n) lines ≡ 0
  none_settled n =
      none_counted (is_settled n) lines
      (each-map IsInner (λ line. is_settled n line ≡ false) (inner_settled n) lines inner)

  pub none_queued : (n : ℕ) → counted (is_queued n) lines ≡ 0
  none_queued n =
      none_counted (is_queued n) lines
      (each-map IsInner (λ line. is_queued n line ≡ false) (inner_queued n) lines inner)

-- `emit` lines of one list are in another
abbrev pub AreIn : List OutputLine → List OutputLine → Type 0
AreIn lines all = (n first last : ℕ) → IsEmitted lines n first last → IsEmitted all n first last

-- another line in front
abbrev IsSilent : OutputLine → Type 0
IsSilent line = (n first last : ℕ) → line ≡ printed.Emit n first last → ⊥

front_in : (line : OutputLine) (lines all : List OutputLine) → IsSilent line → AreIn lines all →
    AreIn (line ∷ lines) all
front_in line lines all silent are n first last (inl here) = absurd (silent n first last here)
front_in line lines all silent are n first last (inr later) = are n first last later

-- what follows stands below these lines
pub as_emitted : (ledger : Option ℕ) (lines rest : List OutputLine) → Each IsInner lines → (emits : List OutputLine) →
    ((now : List OutputLine) → AreIn emits now → AreIn lines now → AreAsEmitted now ledger rest) →
    AreAsEmitted emits ledger (lines ++ rest)
as_emitted ledger [] rest inner emits after = after emits (λ n first last h. h) (λ n first last h. absurd h)
as_emitted ledger (printed.Hook account position outcome count bound ∷ lines) rest inner emits after =
    as_emitted ledger lines rest inner.1 emits (λ now were are.
    after now were (front_in _ lines now (λ n first last bad. cc) are))
as_emitted ledger (printed.Callback account position outcome count bound ∷ lines) rest inner emits after =
    as_emitted ledger lines rest inner.1 emits (λ now were are.
    after now were (front_in _ lines now (λ n first last bad. cc) are))
as_emitted ledger (printed.State account namespace k value ∷ lines) rest inner emits after =
    as_emitted ledger lines rest inner.1 emits (λ now were are.
    after now were (front_in _ lines now (λ n first last bad. cc) are))
as_emitted ledger (printed.Emit number from to ∷ lines) rest inner emits after =
    as_emitted ledger lines rest inner.1 (printed.Emit number from to ∷ emits) (λ now were are.
    after now (λ n first last h. were n first last (inr h)) (λ n first last h.
    elim h as (λ _. IsEmitted now n first last) [
      | inl here ↦ were n first last (inl here)
      | inr later ↦ are n first last later
    ]))
as_emitted ledger (other ∷ lines) rest inner emits after = absurd inner.0

-- ---- emissions, numbered from `next` on, with their lines

pub record Adds (next : ℕ) (es : List Emission) (lines : List OutputLine) : Type 0 where
  pub inner : Each IsInner lines
  pub emits : (n : ℕ) → counted (is_emit n) lines ≡ counted (is_emit n) (emit_lines next es)
  pub tells : (number first last : ℕ) → IsEmitted (emit_lines next es) number first last →
      IsEmitted lines number first last

-- what is kept tells its emissions
pub kept_adds : (next : ℕ) (d : Draft) (records : List OutputLine) → Each IsRecord records →
    Adds next d.emissions (kept_lines next d records)
kept_adds next d records are =
    let states = state_lines d.entries d.written in
    let emits = emit_lines next d.emissions in
    record {
      inner =
          each-append IsInner records (states ++ emits) (each-map IsRecord IsInner record_inner records are)
          (each-append IsInner states emits
          (each-map IsState IsInner state_inner states (all_state d.entries d.written))
          (each-map IsEmit IsInner emit_inner emits (all_emit next d.emissions)));
      emits = λ n. kept_emit next d records are n;
      tells = λ number first last h.
          some-behind (λ line. line ≡ printed.Emit number first last) records (states ++ emits)
          (some-behind (λ line. line ≡ printed.Emit number first last) states emits h);
    }

-- lines of runs tell none
pub records_add : (next : ℕ) (records : List OutputLine) → Each IsRecord records → Adds next [] records
records_add next records are = record {
  inner = each-map IsRecord IsInner record_inner records are;
  emits = λ n. records_emit n records are;
  tells = λ number first last h. absurd h;
}

either_part : (P : OutputLine → Type 0) (xs ys : List OutputLine) → SomeOf P (xs ++ ys) → SomeOf P xs ⊎ SomeOf P ys
either_part P [] ys h = inr h
either_part P (x ∷ xs) ys (inl here) = inl (inl here)
either_part P (x ∷ xs) ys (inr later) = elim (either_part P xs ys later) as (λ _. SomeOf P (x ∷ xs) ⊎ SomeOf P ys) [
  | inl front ↦ inl (inr front)
  | inr behind ↦ inr behind
]

-- more emissions behind them
pub adds_more : (next : ℕ) (es fs : List Emission) (xs ys : List OutputLine) → Adds next es xs →
    Adds (next + length es) fs ys → Adds next (es ++ fs) (xs ++ ys)
adds_more next es fs xs ys one two =
    let lines = emit_lines-append next es fs in
    let first_lines = emit_lines next es in
    let later_lines = emit_lines (next + length es) fs in
    record {
      inner = each-append IsInner xs ys one.inner two.inner;
      emits = λ n.
          let here = one.emits n in
          let later = two.emits n in
          let shown = counted-append (is_emit n) xs ys in
          let parts = counted-append (is_emit n) first_lines later_lines in
          let whole = ap (counted (is_emit n)) lines in
          omega (arith, here, later, shown, parts, whole);
      tells = λ number first last h.
          elim (either_part (λ line. line ≡ printed.Emit number first last) first_lines later_lines
          (subst (λ all. IsEmitted all number first last) lines h))
          as (λ _. IsEmitted (xs ++ ys) number first last) [
            | inl front ↦
                some-front (λ line. line ≡ printed.Emit number first last) xs ys (one.tells number first last front)
            | inr behind ↦
                some-behind (λ line. line ≡ printed.Emit number first last) xs ys (two.tells number first last behind)
          ];
    }

-- ---- callbacks

-- a callback may come or not
abbrev pub IsFresh : List OutputLine → Type 0
IsFresh lines = (may : Bool) → AreCalled may lines

abbrev pub IsSteady : OutputLine → Type 0
IsSteady (printed.Hook account position outcome count bound) = Unit {0}
IsSteady (printed.State account namespace k value) = Unit {0}
IsSteady (printed.Emit number first last) = Unit {0}
IsSteady other = ⊥

hook_steady : (line : OutputLine) → IsHook line → IsSteady line
hook_steady (printed.Hook account position outcome count bound) h = tt
hook_steady other h = absurd h

state_steady : (line : OutputLine) → IsState line → IsSteady line
state_steady (printed.State account namespace k value) h = tt
state_steady other h = absurd h

emit_steady : (line : OutputLine) → IsEmit line → IsSteady line
emit_steady (printed.Emit number first last) h = tt
emit_steady other h = absurd h

-- hooks, with what is kept
kept_steady : (next : ℕ) (d : Draft) (hooks : List OutputLine) → Each IsHook hooks →
    Each IsSteady (kept_lines next d hooks)
kept_steady next d hooks are =
    let states = state_lines d.entries d.written in
    let emits = emit_lines next d.emissions in
    each-append IsSteady hooks (states ++ emits) (each-map IsHook IsSteady hook_steady hooks are)
    (each-append IsSteady states emits
    (each-map IsState IsSteady state_steady states (all_state d.entries d.written))
    (each-map IsEmit IsSteady emit_steady emits (all_emit next d.emissions)))

steady_called : (may : Bool) (lines rest : List OutputLine) → Each IsSteady lines → AreCalled may rest →
    AreCalled may (lines ++ rest)
steady_called may [] rest steady after = after
steady_called may (printed.Hook account position outcome count bound ∷ lines) rest steady after =
    steady_called may lines rest steady.1 after
steady_called may (printed.State account namespace k value ∷ lines) rest steady after =
    steady_called may lines rest steady.1 after
steady_called may (printed.Emit number first last ∷ lines) rest steady after =
    steady_called may lines rest steady.1 after
steady_called may (other ∷ lines) rest steady after = absurd steady.0

pub hooks_called : (may : Bool) (next : ℕ) (d : Draft) (hooks rest : List OutputLine) → Each IsHook hooks →
    AreCalled may rest → AreCalled may (kept_lines next d hooks ++ rest)
hooks_called may next d hooks rest are after =
    steady_called may (kept_lines next d hooks) rest (kept_steady next d hooks are) after

-- one callback at most, with what is kept
pub callback_called : (next : ℕ) (d : Draft) (calls rest : List OutputLine) → IsOneCallback calls → IsFresh rest →
    AreCalled true (kept_lines next d calls ++ rest)
callback_called next d [] rest one fresh = hooks_called true next d [] rest tt (fresh true)
callback_called next d (printed.Callback account position outcome count bound ∷ []) rest one fresh =
    (refl, hooks_called false next d [] rest tt (fresh false))
callback_called next d (other ∷ []) rest one fresh = absurd one
callback_called next d (line ∷ other ∷ calls) rest one fresh = absurd one

-- and where nothing is kept
pub callback_alone : (calls rest : List OutputLine) → IsOneCallback calls → IsFresh rest →
    AreCalled true (calls ++ rest)
callback_alone [] rest one fresh = fresh true
callback_alone (printed.Callback account position outcome count bound ∷ []) rest one fresh = (refl, fresh false)
callback_alone (other ∷ []) rest one fresh = absurd one
callback_alone (line ∷ other ∷ calls) rest one fresh = absurd one
