-- A run of turns against the machine's run: each of its endings is the ending of what is left of it.
use Rattle.std.proofs.Common.{◌≡◌, ◌+◌, ◌<◌, ◌≤◌, ℕ, zero, suc, List, [], ◌∷◌, length, Option, Some, None, sym, ◌∙◌, ap}
use Rattle.std.proofs.Common.{subst, refl, arith}
use Rattle.hk_base.specs.declared.outcome.Outcome.{Outcome}
use Rattle.wa_ops.specs.declared.call_no.CallNo.{CallNo}
use Rattle.wa_ops.specs.declared.op.Op.{Op}
use Rattle.wa_validate.specs.declared.depth.Depth.{Depth}
use Rattle.wa_machine.specs.Machine.{Region, Configuration, World, HostMeaning, Step, next, ended, fault, step}
use Rattle.wa_machine.specs.Machine.{EndsAfter, Ends}
use Rattle.wa_run.specs.Acts.{IsNoFault}
use Rattle.wa_run.specs.Calls.{IsIn, CanGo, Goes}
use Rattle.wa_run.specs.Depths.{depth_of, IsWithin, Leads}
use Rattle.wa_run.specs.Flat.{all_words, AllMark}
use Rattle.wa_run.specs.Running.{Is, outcome_of, IsHeld, Follows}
use Rattle.wa_run.specs.declared.label.Label.{Label}
use Rattle.wa_run.specs.Runs.{CanEnd, Stops}
use Rattle.wa_run.specs.declared.running.Running.{Running}
use Rattle.wa_run.specs.declared.running.Stop.{Stop}
use Rattle.wa_run.specs.declared.runs.Stopped.{Stopped}

-- ---- one step of a run that ends

pub no_fault : {S : Type 0} (world : World S) (left : ℕ) (c : Configuration S) (outcome : Outcome)
    (last : Configuration S) → Ends world left c outcome last → IsNoFault (step world c)
no_fault world zero c outcome last e = absurd e
no_fault {S} world (suc more) c outcome last e = at (step world c) e
  where
    at : (s : Step S) → EndsAfter s more outcome last (λ later. Ends world more later outcome last) → IsNoFault s
    at (next d) e = tt
    at (ended found d) e = tt
    at fault e = absurd e

pub some_left : {S : Type 0} (world : World S) (left : ℕ) (c : Configuration S) (outcome : Outcome)
    (last : Configuration S) → Ends world left c outcome last → 0 < left
some_left world zero c outcome last e = absurd e
some_left world (suc more) c outcome last e = omega arith

pub record StopsHere {S : Type 0} (left : ℕ) (outcome : Outcome) (last : Configuration S) (found : Stop) (new : Running)
    (after : S) : Type 0 where
  pub one : left ≡ 1
  pub outcome_is : outcome ≡ outcome_of found new.store.memory
  pub host : last.host ≡ after
  pub held : IsHeld found new.store.memory

pub stops_here : {S : Type 0} (ops : List Op) (ends : List ℕ) (world : World S) (left : ℕ) (c : Configuration S)
    (outcome : Outcome) (last : Configuration S) (found : Stop) (new : Running) (after : S) →
    Ends world left c outcome last → Follows ops ends (step world c) (Some found) new after →
    StopsHere left outcome last found new after
stops_here ops ends world zero c outcome last found new after e f = absurd e
stops_here {S} ops ends world (suc more) c outcome last found new after e f = at (step world c) e f
  where
    at : (s : Step S) → EndsAfter s more outcome last (λ later. Ends world more later outcome last) →
        Follows ops ends s (Some found) new after → StopsHere (suc more) outcome last found new after
    at (next d) e f = absurd f
    at (ended o d) e f = record {
      one = ap suc e.0;
      outcome_is = sym e.1 ∙ f.0;
      host = ap (λ (x : Configuration S). x.host) (sym e.2) ∙ f.1;
      held = f.2;
    }
    at fault e f = absurd f

pub record GoesHere {S : Type 0} (ops : List Op) (ends : List ℕ) (world : World S) (before : Configuration S) (left : ℕ)
    (outcome : Outcome) (last : Configuration S) (new : Running) (after : S) : Type 0 where
  pub c : Configuration S
  pub more : ℕ
  pub step_is : step world before ≡ next c
  pub left_is : left ≡ suc more
  pub is : Is ops ends c new
  pub host_is : c.host ≡ after
  pub ends_so : Ends world more c outcome last

pub goes_here : {S : Type 0} (ops : List Op) (ends : List ℕ) (world : World S) (left : ℕ) (c : Configuration S)
    (outcome : Outcome) (last : Configuration S) (new : Running) (after : S) →
    Ends world left c outcome last → Follows ops ends (step world c) None new after →
    GoesHere ops ends world c left outcome last new after
goes_here ops ends world zero c outcome last new after e f = absurd e
goes_here {S} ops ends world (suc more) c outcome last new after e f = at (step world c) refl e f
  where
    at : (s : Step S) → step world c ≡ s → EndsAfter s more outcome last (λ later. Ends world more later outcome last) →
        Follows ops ends s None new after → GoesHere ops ends world c (suc more) outcome last new after
    at (next d) s e f = record { c = d; more = more; step_is = s; left_is = refl; is = f.0; host_is = f.1; ends_so = e }
    at (ended o d) s e f = absurd f
    at fault s e f = absurd f

-- ---- the loop

-- what is left of a run from here that ends so
pub record Underway {S : Type 0} (ops : List Op) (ends : List ℕ) (world : World S) (first : Configuration S) (steps : ℕ)
    (outcome : Outcome) (last : Configuration S) (count : ℕ) (running : Running) (host : S) : Type 0 where
  pub c : Configuration S
  pub left : ℕ
  pub leads : Leads world count first c
  pub is : Is ops ends c running
  pub host_is : c.host ≡ host
  pub ends_so : Ends world left c outcome last
  pub total : count + left ≡ steps

-- each ending of the whole run is one of what is left
abbrev pub AllUnderway : {S : Type 0} → HostMeaning S → List Op → List ℕ → List CallNo → Running → S → ℕ → Running → S →
    Type 0
AllUnderway {S} meaning ops ends calls old before count running host =
    (world : World S) (c : Configuration S) (steps : ℕ) (outcome : Outcome) (last : Configuration S) →
    IsIn meaning calls world → c.host ≡ before → Is ops ends c old → Ends world steps c outcome last →
    Underway ops ends world c steps outcome last count running host

pub begins : {S : Type 0} (meaning : HostMeaning S) (ops : List Op) (ends : List ℕ) (calls : List CallNo)
    (old : Running) (before : S) → AllUnderway meaning ops ends calls old before 0 old before
begins meaning ops ends calls old before world c steps outcome last w h i e = record {
  c = c;
  left = steps;
  leads = refl;
  is = i;
  host_is = h;
  ends_so = e;
  total = omega arith;
}

pub under_way : {S : Type 0} (meaning : HostMeaning S) (ops : List Op) (ends : List ℕ) (calls : List CallNo)
    (old : Running) (before : S) (count : ℕ) (running : Running) (host : S) →
    (can : CanEnd meaning ops ends calls old before) →
    AllUnderway meaning ops ends calls old before count running host →
    Underway ops ends can.world can.c can.steps can.outcome can.last count running host
under_way meaning ops ends calls old before count running host can under =
    under can.world can.c can.steps can.outcome can.last can.is_in can.host_is can.is can.ends_so

pub can_go : {S : Type 0} (meaning : HostMeaning S) (ops : List Op) (ends : List ℕ) (calls : List CallNo)
    (old : Running) (before : S) (count : ℕ) (running : Running) (host : S) →
    CanEnd meaning ops ends calls old before → AllUnderway meaning ops ends calls old before count running host →
    CanGo S ops ends calls running
can_go meaning ops ends calls old before count running host can under =
    let u : Underway ops ends can.world can.c can.steps can.outcome can.last count running host =
    under_way meaning ops ends calls old before count running host can under in
    record {
      world = can.world;
      c = u.c;
      calls_are = can.is_in.calls_are;
      is = u.is;
      sound = no_fault can.world u.left u.c can.outcome can.last u.ends_so;
    }

-- ---- room

marks_long : (ops : List Op) (ends : List ℕ) (regions : List Region) (at : ℕ) (labels : List Label) →
    AllMark ops ends regions at labels → length labels ≡ length regions
marks_long ops ends [] at [] m = refl
marks_long ops ends [] at (label ∷ labels) m = absurd m
marks_long ops ends (region ∷ regions) at [] m = absurd m
marks_long ops ends (region ∷ regions) at (label ∷ labels) m =
    ap suc (marks_long ops ends regions (label.last + 1) labels m.1)

-- the words and the labels of a run are those of the machine
pub is_within : {S : Type 0} (ops : List Op) (ends : List ℕ) (c : Configuration S) (running : Running) (most : Depth) →
    Is ops ends c running → IsWithin most (depth_of c.regions) →
    (length running.store.words.items ≤ most.operands) × (length running.labels.items ≤ most.labels)
is_within ops ends c running most i w = (
  omega (arith, w.operands, ap length i.holds.words, ap (λ regions. length (all_words regions)) i.regions),
  omega (
    arith,
    w.labels,
    marks_long ops ends (i.region ∷ i.around) running.at running.labels.items i.marks,
    ap (λ (regions : List Region). length regions) i.regions,
  ),
)

pub has_room : {S : Type 0} (meaning : HostMeaning S) (ops : List Op) (ends : List ℕ) (calls : List CallNo)
    (old : Running) (before : S) (count : ℕ) (running : Running) (host : S) →
    (can : CanEnd meaning ops ends calls old before) →
    AllUnderway meaning ops ends calls old before count running host →
    (length running.store.words.items < old.store.words.room) × (length running.labels.items < old.labels.room)
has_room meaning ops ends calls old before count running host can under =
    let u : Underway ops ends can.world can.c can.steps can.outcome can.last count running host =
    under_way meaning ops ends calls old before count running host can under in
    let w : (length running.store.words.items ≤ can.most.operands) × (length running.labels.items ≤ can.most.labels) =
    is_within ops ends u.c running can.most u.is (can.stays count u.c u.leads) in
    (omega (arith, w.0, can.words_room), omega (arith, w.1, can.labels_room))

pub not_done : {S : Type 0} (meaning : HostMeaning S) (ops : List Op) (ends : List ℕ) (calls : List CallNo)
    (old : Running) (before : S) (count : ℕ) (running : Running) (host : S) →
    (can : CanEnd meaning ops ends calls old before) →
    AllUnderway meaning ops ends calls old before count running host → count < can.steps
not_done meaning ops ends calls old before count running host can under =
    let u : Underway ops ends can.world can.c can.steps can.outcome can.last count running host =
    under_way meaning ops ends calls old before count running host can under in
    omega (arith, u.total, some_left can.world u.left u.c can.outcome can.last u.ends_so)

pub stops_all : {S : Type 0} (meaning : HostMeaning S) (ops : List Op) (ends : List ℕ) (calls : List CallNo)
    (old : Running) (before : S) (count : ℕ) (running : Running) (host : S) (stopped : Stopped) (new : Running)
    (after : S) →
    AllUnderway meaning ops ends calls old before count running host →
    Goes S meaning calls ops ends running host (Some stopped.stop) new after → stopped.count ≡ count + 1 →
    Stops meaning ops ends calls old before stopped new after
stops_all meaning ops ends calls old before count running host stopped new after under goes n world c steps outcome last
    w h i e =
    let u : Underway ops ends world c steps outcome last count running host =
    under world c steps outcome last w h i e in
    let s : StopsHere u.left outcome last stopped.stop new after =
    stops_here ops ends world u.left u.c outcome last stopped.stop new after u.ends_so
    (goes world u.c w u.host_is u.is (no_fault world u.left u.c outcome last u.ends_so)) in
    record { count = omega (arith, n, u.total, s.one); outcome_is = s.outcome_is; host = s.host }

pub stops_held : {S : Type 0} (meaning : HostMeaning S) (ops : List Op) (ends : List ℕ) (calls : List CallNo)
    (old : Running) (before : S) (count : ℕ) (running : Running) (host : S) (found : Stop) (new : Running) (after : S) →
    CanEnd meaning ops ends calls old before → AllUnderway meaning ops ends calls old before count running host →
    Goes S meaning calls ops ends running host (Some found) new after → IsHeld found new.store.memory
stops_held meaning ops ends calls old before count running host found new after can under goes =
    let u : Underway ops ends can.world can.c can.steps can.outcome can.last count running host =
    under_way meaning ops ends calls old before count running host can under in
    (stops_here ops ends can.world u.left u.c can.outcome can.last found new after u.ends_so
    (goes can.world u.c can.is_in u.host_is u.is (no_fault can.world u.left u.c can.outcome can.last u.ends_so))).held

leads_more : {S : Type 0} (world : World S) (count : ℕ) (first c d : Configuration S) → Leads world count first c →
    step world c ≡ next d → Leads world (suc count) first d
leads_more world zero first c d e s = (d, subst (λ x. step world x ≡ next d) (sym e) s, refl)
leads_more world (suc more) first c d l s = (l.0, l.1, leads_more world more l.0 c d l.2 s)

pub goes_all : {S : Type 0} (meaning : HostMeaning S) (ops : List Op) (ends : List ℕ) (calls : List CallNo)
    (old : Running) (before : S) (count : ℕ) (running : Running) (host : S) (new : Running) (after : S) →
    AllUnderway meaning ops ends calls old before count running host →
    Goes S meaning calls ops ends running host None new after →
    AllUnderway meaning ops ends calls old before (count + 1) new after
goes_all meaning ops ends calls old before count running host new after under goes world c steps outcome last w h i e =
    let u : Underway ops ends world c steps outcome last count running host =
    under world c steps outcome last w h i e in
    let g : GoesHere ops ends world u.c u.left outcome last new after =
    goes_here ops ends world u.left u.c outcome last new after u.ends_so
    (goes world u.c w u.host_is u.is (no_fault world u.left u.c outcome last u.ends_so)) in
    record {
      c = g.c;
      left = g.more;
      leads =
          subst (λ n. Leads world n c g.c) (let n : suc count ≡ count + 1 = omega arith in n)
          (leads_more world count c u.c g.c u.leads g.step_is);
      is = g.is;
      host_is = g.host_is;
      ends_so = g.ends_so;
      total = omega (arith, u.total, g.left_is);
    }

pub goes_as : (S : Type 0) (meaning : HostMeaning S) (calls : List CallNo) (ops : List Op) (ends : List ℕ)
    (running : Running) (host : S) (found given : Option Stop) (new : Running) (after : S) → found ≡ given →
    Goes S meaning calls ops ends running host found new after →
    Goes S meaning calls ops ends running host given new after
goes_as S meaning calls ops ends running host found given new after e goes =
    subst (λ o. Goes S meaning calls ops ends running host o new after) e goes
