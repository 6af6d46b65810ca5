-- Runs as a relation and as a function.
use Rattle.std.proofs.Common.{ℕ, zero, suc, ◌≡◌, ◌+◌, ◌≤◌, ◌∙◌, Bool, List, Option, Some, None, length, refl, sym, ap}
use Rattle.std.proofs.Common.{ap₂, subst, arith}
use Rattle.std.proofs.lemmas.Option.{same_Some as some_is}
use Rattle.hk_base.specs.declared.outcome.Outcome.{Outcome}
use Rattle.wa_ops.specs.Bound.{bound_at}
use Rattle.wa_ops.specs.Contexts.{calls_of}
use Rattle.wa_ops.specs.Functions.{body_of, entry_of}
use Rattle.wa_ops.specs.Sequences.{Sequence}
use Rattle.wa_ops.specs.Typing.{and_then}
use Rattle.wa_ops.specs.declared.modules.Module.{Module}
use Rattle.wa_ops.specs.declared.modules.ModuleExport.{ModuleExport}
use Rattle.wa_machine.specs.Machine.{Configuration, World, HostMeaning, Step, next, ended, fault, ticked, innermost}
use Rattle.wa_machine.specs.Machine.{step, EndsAfter, Ends}
use Rattle.wa_machine.specs.Runs.{Ending, IsRun, RunEnds, RunIs, finest_bound, or_on, run_body, run_for, run_function}
use Rattle.wa_machine.specs.Runs.{run_of}
use Rattle.wa_machine.specs.Starts.{world_at, start_at}

-- each step counts one
counted_step : {S : Type 0} (s : Step S) (count more : ℕ) (outcome : Outcome) (last : Configuration S)
    (Later : Configuration S → Type 0)
    → ((later : Configuration S) → later.count ≡ suc count → Later later → last.count ≡ suc count + more)
    → EndsAfter (ticked (suc count) s) more outcome last Later → last.count ≡ count + suc more
counted_step (next c) count more outcome last Later goes h =
    let e : last.count ≡ suc count + more = goes (record c { count = suc count }) refl h in omega (arith, e)
counted_step (ended found c) count more outcome last Later goes h =
    let e : suc count ≡ last.count = ap (λ (k : Configuration _). k.count) h.2 in omega (arith, e, h.0)
counted_step fault count more outcome last Later goes h = absurd h

pub counts : {S : Type 0} (world : World S) (n : ℕ) (c : Configuration S) (outcome : Outcome) (last : Configuration S) →
    Ends world n c outcome last → last.count ≡ c.count + n
counts world zero c outcome last h = absurd h
counts world (suc more) c outcome last h =
    counted_step (innermost world c.regions c) c.count more outcome last (λ later. Ends world more later outcome last)
    (λ later is e. counts world more later outcome last e ∙ ap (λ n. n + more) is) h

abbrev ending_of : {S : Type 0} → Outcome → Configuration S → Ending S
ending_of outcome last = record { outcome = outcome; count = last.count; host = last.host }

-- a run that ends within so many steps is found
found_step : {S : Type 0} (s : Step S) (more : ℕ) (outcome : Outcome) (last : Configuration S)
    (Later : Configuration S → Type 0) (go : Configuration S → Option (Ending S))
    → ((later : Configuration S) → Later later → go later ≡ Some (ending_of outcome last))
    → EndsAfter s more outcome last Later → or_on s go ≡ Some (ending_of outcome last)
found_step (next c) more outcome last Later go goes h = goes c h
found_step (ended found c) more outcome last Later go goes h = ap₂ (λ o k. Some (ending_of o k)) h.1 h.2
found_step fault more outcome last Later go goes h = absurd h

pub runs : {S : Type 0} (world : World S) (most n : ℕ) (c : Configuration S) (outcome : Outcome)
    (last : Configuration S) → n ≤ most → Ends world n c outcome last
    → run_for world most c ≡ Some (ending_of outcome last)
unfolding run_for
runs world most zero c outcome last within h = absurd h
runs world zero (suc more) c outcome last within h = absurd (omega (arith, within))
runs world (suc most) (suc more) c outcome last within h =
    found_step (step world c) more outcome last (λ later. Ends world more later outcome last)
    (λ later. run_for world most later)
    (λ later e. runs world most more later outcome last (omega (arith, within)) e) h

-- what is found is the end of a run
pub record EndsIn {S : Type 0} (world : World S) (most : ℕ) (c : Configuration S) (e : Ending S) : Type 0 where
  pub steps : ℕ
  pub last : Configuration S
  pub within : steps ≤ most
  pub ends : Ends world steps c e.outcome last
  pub is : e ≡ ending_of e.outcome last

pub record After {S : Type 0} (world : World S) (most : ℕ) (s : Step S) (e : Ending S) : Type 0 where
  pub more : ℕ
  pub last : Configuration S
  pub within : more ≤ most
  pub ends : EndsAfter s more e.outcome last (λ later. Ends world more later e.outcome last)
  pub is : e ≡ ending_of e.outcome last

after_step : {S : Type 0} (world : World S) (most : ℕ) (s : Step S) (e : Ending S) →
    ((later : Configuration S) → run_for world most later ≡ Some e → EndsIn world most later e)
    → or_on s (λ later. run_for world most later) ≡ Some e → After world most s e
after_step world most (next c) e goes h =
    let k : EndsIn world most c e = goes c h in
    record { more = k.steps; last = k.last; within = k.within; ends = k.ends; is = k.is }
after_step world most (ended found c) e goes h =
    let same : ending_of found c ≡ e = some_is (ending_of found c) e h in
    record {
      more = 0;
      last = c;
      within = omega arith;
      ends = (refl, ap (λ (x : Ending _). x.outcome) same, refl);
      is = subst (λ (x : Ending _). x ≡ ending_of x.outcome c) same refl;
    }
after_step world most fault e goes h = absurd (cc h)

pub ends_in : {S : Type 0} (world : World S) (most : ℕ) (c : Configuration S) (e : Ending S) →
    run_for world most c ≡ Some e → EndsIn world most c e
unfolding run_for
ends_in world zero c e h = absurd (cc h)
ends_in world (suc most) c e h =
    let a : After world most (step world c) e =
    after_step world most (step world c) e (λ later k. ends_in world most later e k) h in
    record { steps = suc a.more; last = a.last; within = omega (arith, a.within); ends = a.ends; is = a.is }

-- ---- the run of an export

none_before : (n : ℕ) → 0 + n ≡ n
none_before n = omega arith

pub run_is : (S : Type 0) → RunIs S
unfolding run_of
run_is S meaning m is_named argument before outcome count n after bounded within r =
    let entered : run_of meaning m is_named argument before ≡ run_function meaning m argument before r.function =
    ap (λ o. and_then o (run_function meaning m argument before)) r.entry in
    let found : run_function meaning m argument before r.function
    ≡ run_body meaning m argument r.function r.code before =
    ap (λ o. and_then o (λ code. run_body meaning m argument r.function code before)) r.body in
    let bound : Some (bound_at 1 r.code) ≡ Some n =
    sym (ap (λ o. and_then o (λ function. and_then (body_of m function) (λ code. Some (bound_at 1 code)))) r.entry
    ∙ ap (λ o. and_then o (λ code. Some (bound_at 1 code))) r.body) ∙ bounded in
    let same : bound_at 1 r.code ≡ n = some_is (bound_at 1 r.code) n bound in
    let counted : r.last.count ≡ count =
    counts (world_at meaning m r.function) count (start_at meaning m r.function r.code argument before) outcome r.last
    r.ends
    ∙ none_before count in
    entered ∙ found
    ∙ runs (world_at meaning m r.function) (bound_at 1 r.code) count
    (start_at meaning m r.function r.code argument before) outcome r.last (omega (arith, within, same)) r.ends
    ∙ ap₂ (λ k h. Some (record { outcome = outcome; count = k; host = h })) counted r.host

pub run_ends : (S : Type 0) → RunEnds S
unfolding run_of
run_ends S meaning m is_named argument before e h =
    entered (entry_of (length (calls_of m.imports)) is_named m.exports) refl h
  where
    ran : (function : ℕ) (code : Sequence) → entry_of (length (calls_of m.imports)) is_named m.exports ≡ Some function →
        body_of m function ≡ Some code
        → run_body meaning m argument function code before ≡ Some e
        → (n : ℕ) × (finest_bound m is_named ≡ Some n) × (e.count ≤ n)
        × IsRun meaning m is_named argument before e.outcome e.count e.host
    ran function code entry body k =
        let i : EndsIn (world_at meaning m function) (bound_at 1 code)
        (start_at meaning m function code argument before) e =
        ends_in (world_at meaning m function) (bound_at 1 code) (start_at meaning m function code argument before) e
        k in
        let counted : i.last.count ≡ i.steps =
        counts (world_at meaning m function) i.steps (start_at meaning m function code argument before) e.outcome i.last
        i.ends
        ∙ none_before i.steps in
        let same : e.count ≡ i.steps = ap (λ (x : Ending S). x.count) i.is ∙ counted in (
          bound_at 1 code,
          ap (λ o. and_then o (λ f. and_then (body_of m f) (λ body. Some (bound_at 1 body)))) entry
              ∙ ap (λ o. and_then o (λ body. Some (bound_at 1 body))) body,
          omega (arith, same, i.within),
          record {
            function = function;
            code = code;
            last = i.last;
            entry = entry;
            body = body;
            ends =
                subst (λ n.
                Ends (world_at meaning m function) n (start_at meaning m function code argument before) e.outcome
                i.last) (sym same) i.ends;
            host = sym (ap (λ (x : Ending S). x.host) i.is);
          },
        )

    found : (function : ℕ) → entry_of (length (calls_of m.imports)) is_named m.exports ≡ Some function →
        (o : Option Sequence) → body_of m function ≡ o
        → and_then o (λ code. run_body meaning m argument function code before) ≡ Some e
        → (n : ℕ) × (finest_bound m is_named ≡ Some n) × (e.count ≤ n)
        × IsRun meaning m is_named argument before e.outcome e.count e.host
    found function entry None body k = absurd (cc k)
    found function entry (Some code) body k = ran function code entry body k

    entered : (o : Option ℕ) → entry_of (length (calls_of m.imports)) is_named m.exports ≡ o →
        and_then o (run_function meaning m argument before) ≡ Some e
        → (n : ℕ) × (finest_bound m is_named ≡ Some n) × (e.count ≤ n)
        × IsRun meaning m is_named argument before e.outcome e.count e.host
    entered None entry k = absurd (cc k)
    entered (Some function) entry k = found function entry (body_of m function) refl k
