-- A run that begins stands where the machine does before its first step.
use Rattle.std.proofs.Common.{◌≡◌, ◌+◌, ◌≤◌, ◌==◌, if◌then◌else◌, Bool, true, false, ℕ, suc, List, [], ◌∷◌, inl, length}
use Rattle.std.proofs.Common.{sym, ◌∙◌, ap, subst, refl, arith}
use Rattle.wa_ops.specs.Bound.{bound_at}
use Rattle.wa_ops.specs.Ends.{behind, ends_of}
use Rattle.wa_ops.specs.Sequences.{Sequence, done, plain, block, loop, if_then, if_else, flat}
use Rattle.wa_ops.specs.declared.call_no.CallNo.{CallNo}
use Rattle.wa_ops.specs.declared.op.Op.{Op}
use Rattle.wa_ops.specs.declared.op.Op.TheVariants as op
use Rattle.wa_validate.specs.Depths.{body_depth}
use Rattle.wa_machine.specs.Law.{EndsWithin, WithinBound}
use Rattle.wa_machine.specs.Machine.{Region, body, HostMeaning, Ends}
use Rattle.wa_run.specs.Flat.{Standing, has_result, AllMark}
use Rattle.wa_run.specs.Guards.{first_counter, passes_of}
use Rattle.wa_run.specs.Running.{Is, outcome_of}
use Rattle.wa_run.specs.Runs.{CanEnd, StopsAs, Stops}
use Rattle.wa_run.specs.Starts.{Ready, Function, CanRun, world_of, first_of, EndsSo, IsFresh}
use Rattle.wa_run.specs.declared.running.Running.{Running}
use Rattle.wa_run.specs.declared.runs.Stopped.{Stopped}
use Rattle.wa_run.proofs.Depths.{stays_within}

-- the table of ends has an entry for each instruction
pub ends_long : (code : Sequence) (at : ℕ) (after : List Op) (others : List ℕ) → length others ≡ length after →
    length (ends_of code at others) ≡ length (flat code after)
ends_long done at after others e = e
ends_long (plain instruction rest) at after others e = ap suc (ends_long rest (at + 1) after others e)
ends_long (block r inside rest) at after others e =
    ap suc (ends_long inside (at + 1) (op.End ∷ flat rest after) (0 ∷ ends_of rest (behind inside (at + 1) + 1) others)
    (ap suc (ends_long rest (behind inside (at + 1) + 1) after others e)))
ends_long (loop r inside rest) at after others e =
    ap suc (ends_long inside (at + 1) (op.End ∷ flat rest after) (0 ∷ ends_of rest (behind inside (at + 1) + 1) others)
    (ap suc (ends_long rest (behind inside (at + 1) + 1) after others e)))
ends_long (if_then r inside rest) at after others e =
    ap suc (ends_long inside (at + 1) (op.End ∷ flat rest after) (0 ∷ ends_of rest (behind inside (at + 1) + 1) others)
    (ap suc (ends_long rest (behind inside (at + 1) + 1) after others e)))
ends_long (if_else r one other rest) at after others e =
    let middle : ℕ = behind one (at + 1) + 1 in
    let last : ℕ = behind other middle + 1 in
    let more : List ℕ = 0 ∷ ends_of rest last others in
    ap suc (ends_long one (at + 1) (op.Else ∷ flat other (op.End ∷ flat rest after))
    (behind other middle ∷ ends_of other middle more)
    (ap suc (ends_long other middle (op.End ∷ flat rest after) more (ap suc (ends_long rest last after others e)))))

pub paired : (f : Function) (ops : List Op) (ends : List ℕ) (calls : List CallNo) (ready : Ready) →
    CanRun f ops ends calls ready → length ends ≡ length ops
paired f ops ends calls ready r =
    ap length r.ends_are ∙ ends_long f.code 0 (op.End ∷ []) (0 ∷ []) refl ∙ sym (ap length r.reads.instructions)

-- no id was passed before the first turn
pub none_at_first : (id : ℕ) → 0 ≡ passes_of (first_counter ∷ []) id
none_at_first id = at (0 == id)
  where
    at : (same : Bool) → 0 ≡ (if same then 0 else 0) + 0
    at true = refl
    at false = refl

-- the run before its first turn, as contracts see it
pub record Shows (running : Running) (ready : Ready) : Type 0 where
  pub fresh : IsFresh running
  pub locals : running.store.locals.items ≡ ready.locals
  pub globals : running.store.globals.items ≡ ready.globals
  pub memory : running.store.memory ≡ ready.memory
  pub words_room : running.store.words.room ≡ ready.words_room
  pub labels_room : running.labels.room ≡ ready.labels_room
  pub guards_room : running.guards.room ≡ ready.guards_room

pub stands_first : {S : Type 0} (meaning : HostMeaning S) (f : Function) (ops : List Op) (ends : List ℕ)
    (calls : List CallNo) (ready : Ready) (running : Running) (host : S) → CanRun f ops ends calls ready →
    Shows running ready →
    Is ops ends (first_of meaning f ready host) running
stands_first meaning f ops ends calls ready running host r s =
    let region : Region = record { kind = body; result = f.context.result; operands = []; rest = f.code } in
    record {
      region = region;
      around = [];
      regions = refl;
      marks = subst (λ labels. AllMark ops ends (region ∷ []) running.at labels) (sym s.fresh.labels) (
        record {
          standing = subst (λ at. Standing ops ends f.code at) (sym s.fresh.at) (record {
            marker = op.End;
            more = [];
            others = 0 ∷ [];
            stands = record { ops_are = r.reads.instructions; ends_are = r.ends_are };
            marks_end = inl refl;
            tree = r.reads.tree;
          });
          labelled = record { of_kind = tt; carries = ap has_result (sym r.result); height = refl };
          values = tt;
        },
        tt,
      );
      rooted = refl;
      holds = record {
        words = s.fresh.words;
        operands_fit = tt;
        locals_are = s.locals ∙ r.locals_are;
        locals_fit = r.locals_fit;
        globals_are = s.globals ∙ r.globals_are;
        globals_fit = r.globals_fit;
        memory_is = s.memory;
        memory_fits = s.fresh.memory;
      };
      guards = λ id. none_at_first id ∙ ap (λ counters. passes_of counters id) (sym s.fresh.guards);
    }

pub within_law : {S : Type 0} (meaning : HostMeaning S) (f : Function) (ops : List Op) (ends : List ℕ)
    (calls : List CallNo) (ready : Ready) (host : S) → WithinBound S → CanRun f ops ends calls ready →
    EndsWithin (world_of meaning f) (bound_at 1 f.code) (first_of meaning f ready host)
within_law meaning f ops ends calls ready host law r =
    law (world_of meaning f) f.code f.locals f.globals ready.memory host r.locals_typed r.globals_typed r.result r.typed
    r.guarded

pub can_end : {S : Type 0} (meaning : HostMeaning S) (f : Function) (ops : List Op) (ends : List ℕ)
    (calls : List CallNo) (ready : Ready) (running : Running) (host : S) → WithinBound S →
    CanRun f ops ends calls ready → Shows running ready →
    CanEnd meaning ops ends calls running host
can_end meaning f ops ends calls ready running host law r s =
    let w : EndsWithin (world_of meaning f) (bound_at 1 f.code) (first_of meaning f ready host) =
    within_law meaning f ops ends calls ready host law r in
    record {
      world = world_of meaning f;
      c = first_of meaning f ready host;
      steps = w.steps;
      outcome = w.outcome;
      last = w.last;
      is_in = record { host_is = refl; calls_are = r.calls_are };
      host_is = refl;
      is = stands_first meaning f ops ends calls ready running host r s;
      ends_so = w.ends;
      countable = omega (arith, w.within, r.countable);
      most = body_depth f.context f.code;
      stays =
          stays_within (world_of meaning f) f.code f.locals f.globals ready.memory host r.locals_typed r.globals_typed
          r.result r.typed r.guarded;
      words_room = omega (arith, r.words_room, s.words_room);
      labels_room = omega (arith, r.labels_room, s.labels_room);
      guards_room = omega (arith, w.within, r.guards_room, s.guards_room, ap length s.fresh.guards);
    }

pub ends_as : {S : Type 0} (meaning : HostMeaning S) (f : Function) (ops : List Op) (ends : List ℕ)
    (calls : List CallNo) (ready : Ready) (running : Running) (before : S) (stopped : Stopped) (new : Running)
    (after : S) →
    WithinBound S → CanRun f ops ends calls ready → Shows running ready →
    Stops meaning ops ends calls running before stopped new after →
    EndsSo meaning f ready before stopped.count (outcome_of stopped.stop new.store.memory) after
ends_as meaning f ops ends calls ready running before stopped new after law r s stops =
    let w : EndsWithin (world_of meaning f) (bound_at 1 f.code) (first_of meaning f ready before) =
    within_law meaning f ops ends calls ready before law r in
    let e : StopsAs w.steps w.outcome w.last stopped new after =
    stops (world_of meaning f) (first_of meaning f ready before) w.steps w.outcome w.last
    (record { host_is = refl; calls_are = r.calls_are }) refl
    (stands_first meaning f ops ends calls ready running before r s) w.ends in
    record {
      last = w.last;
      ends_so =
          subst (λ n.
          Ends (world_of meaning f) n (first_of meaning f ready before) (outcome_of stopped.stop new.store.memory)
          w.last) (sym e.count)
          (subst (λ outcome. Ends (world_of meaning f) w.steps (first_of meaning f ready before) outcome w.last)
          e.outcome_is w.ends);
      host = e.host;
      within = subst (λ n. n ≤ bound_at 1 f.code) (sym e.count) w.within;
    }
