-- Each step from a configuration that is sane and has what it needs is good.
use Rattle.std.proofs.Common.{◌≡◌, ◌+◌, ◌<◌, inl, inr, ◌++◌, ℕ, zero, suc, List, [], ◌∷◌, Option, Some, None, false}
use Rattle.std.proofs.Common.{slice_get, sym, ◌∙◌, ap, subst, refl, arith}
use Rattle.wa_ops.specs.declared.op.ValueType.{ValueType}
use Rattle.wa_ops.specs.declared.op.ValueType.TheVariants.{I64}
use Rattle.wa_ops.specs.Bound.{LoopCost, own, loop_cost, last_pass, HasGuard}
use Rattle.wa_ops.specs.Callees.{Callee}
use Rattle.wa_ops.specs.Sequences.{Sequence}
use Rattle.wa_ops.specs.Typing.{Context, Slot, known, pop_result, types, Leaves}
use Rattle.wa_machine.specs.Machine.{Value, type_of, Kind, body, inner, turns, Region, Configuration, World, next}
use Rattle.wa_machine.specs.Machine.{onward, return_with, hand_on, close, arrive, branch, leave}
use Rattle.wa_machine.specs.Law.{types_of, kinds_of}
use Rattle.wa_machine.proofs.Typed.{slots, closed, On, OfResult, on_taken}
use Rattle.wa_machine.proofs.Budget.{left, last_pass_is}
use Rattle.wa_machine.proofs.Sane.{Fine, carried, labels_of, slots_of, SoundLoop, SoundKind, Sound, Around, AllSound}
use Rattle.wa_machine.proofs.Sane.{weight, IsHead, at_first, GoodStep}

-- the variables and the result are the context's
pub record Vars {S : Type 0} (world : World S) (c : Configuration S) : Type 0 where
  pub locals : types_of c.locals ≡ world.context.locals
  pub globals : types_of c.globals ≡ kinds_of world.context.globals
  pub returns : world.context.result ≡ Some I64

-- the innermost region, whatever its operands are
pub record Standing {S : Type 0} (world : World S) (all : List LoopCost) (region : Region)
    (around : List Region) : Type 0 where
  pub fine : Fine world.context all region.rest
  pub kind : SoundKind world.context all (labels_of (region ∷ around)) region.result region.kind
  pub outer : Around region.kind around (AllSound world.context all around (slots_of region.result))

pub onward_good : {S : Type 0} (world : World S) (all : List LoopCost) (m : ℕ) (region : Region) (around : List Region)
    (operands : List Value) (c : Configuration S) (place : ℕ) →
    Standing world all region around → Vars world c →
    left all c.guards + (last_pass all + (own 1 region.rest + weight around)) < m →
    Leaves region.result (types world.context (labels_of (region ∷ around)) region.rest place (closed operands)) →
    GoodStep world all m (onward region around operands c)
onward_good world all m region around operands c place s v b t = (
  record {
    regions = (record { place = place; typed = t; fine = s.fine; kind = s.kind }, s.outer);
    locals = v.locals;
    globals = v.globals;
    returns = v.returns;
  },
  (left all c.guards + (last_pass all + (own 1 region.rest + weight around)), inl (omega arith), b),
)

pub handed_slots : (result : Option ValueType) (out operands : List Value) → OfResult result out →
    slots (out ++ operands) ≡ slots_of result ++ slots operands
handed_slots None out operands h = ap (λ o. slots (o ++ operands)) h
handed_slots (Some kind) [] operands h = absurd (let p : [] ≡ (kind ∷ []) = h in cc)
handed_slots (Some kind) (value ∷ []) operands h =
    let p : (type_of value ∷ []) ≡ (kind ∷ []) = h in ap (λ k. known k ∷ slots operands) (cc)
handed_slots (Some kind) (value ∷ other ∷ more) operands h =
    absurd (let p : (type_of value ∷ type_of other ∷ types_of more) ≡ (kind ∷ []) = h in cc)

pub hand_on_good : {S : Type 0} (world : World S) (all : List LoopCost) (m : ℕ) (result : Option ValueType)
    (out : List Value) (around : List Region) (c : Configuration S) →
    OfResult result out → AllSound world.context all around (slots_of result) → Vars world c →
    left all c.guards + (last_pass all + weight around) < m →
    GoodStep world all m (hand_on out around c)
hand_on_good world all m result out [] c r a v b = absurd a
hand_on_good world all m result out (region ∷ around) c r a v b =
    let s : Sound world.context all (labels_of (region ∷ around)) (slots_of result) region = a.0 in (
      record {
        regions = (
          record {
            place = s.place;
            typed =
                subst (λ found.
                Leaves region.result (types world.context (labels_of (region ∷ around)) region.rest s.place
                (record { slots = found; loose = false }))) (sym (handed_slots result out region.operands r)) s.typed;
            fine = s.fine;
            kind = s.kind;
          },
          a.1,
        );
        locals = v.locals;
        globals = v.globals;
        returns = v.returns;
      },
      (left all c.guards + (last_pass all + weight (region ∷ around)), inl (omega arith), b),
    )

pub return_good : {S : Type 0} (world : World S) (all : List LoopCost) (m : ℕ) (result : Option ValueType)
    (out : List Value) (c : Configuration S) →
    result ≡ Some I64 → OfResult result out → 0 < m → GoodStep world all m (return_with out c)
return_good world all m None out c e r b = absurd cc
return_good world all m (Some kind) [] c e r b = absurd (let p : [] ≡ (kind ∷ []) = r in cc)
return_good world all m (Some kind) (value ∷ more) c e r b = b

pub close_good : {S : Type 0} (world : World S) (all : List LoopCost) (m : ℕ) (labels : List (Option ValueType))
    (kind : Kind) (result : Option ValueType) (out : List Value) (around : List Region) (c : Configuration S) →
    SoundKind world.context all labels result kind →
    Around kind around (AllSound world.context all around (slots_of result)) → OfResult result out → Vars world c →
    left all c.guards + (last_pass all + weight around) < m → GoodStep world all m (close kind out around c)
close_good world all m labels body result out around c k a r v b =
    return_good world all m result out c (k ∙ v.returns) r (omega arith)
close_good world all m labels inner result out around c k a r v b = hand_on_good world all m result out around c r a v b
close_good world all m labels (turns whole) result out around c k a r v b =
    hand_on_good world all m result out around c r a v b

abbrev pub region_of : Kind → Option ValueType → List Value → Sequence → Region
region_of kind result operands rest = record { kind = kind; result = result; operands = operands; rest = rest }

-- a loop's head
pub record HeadOf (calls : List Callee) (whole : Sequence) : Type 0 where
  pub head : IsHead calls (turns whole) whole [] 3

pub head_of : (calls : List Callee) (whole : Sequence) → HasGuard calls whole → HeadOf calls whole
head_of calls whole h = subst (HeadOf calls) (sym h.is) (record { head = at_first h.counts })

-- a loop begins again, or for the first time
pub begin_good : {S : Type 0} (world : World S) (all : List LoopCost) (m : ℕ) (result : Option ValueType)
    (whole : Sequence) (around : List Region) (c : Configuration S) →
    SoundLoop world.context all (None ∷ labels_of around) result whole →
    AllSound world.context all around (slots_of result) → Vars world c →
    left all c.guards + (last_pass all + weight around) < m →
    GoodStep world all m (next (record c { regions = region_of (turns whole) result [] whole ∷ around }))
begin_good world all m result whole around c l a v b =
    let h : HeadOf world.context.calls whole = head_of world.context.calls whole l.guarded in (
      record {
        regions = (record { place = l.place; typed = l.typed; fine = l.fine; kind = l }, a);
        locals = v.locals;
        globals = v.globals;
        returns = v.returns;
      },
      (
        left all c.guards + (weight around + 3),
        inr (3, h.head, omega arith),
        omega (arith, last_pass_is all (loop_cost 1 whole) l.among),
      ),
    )

pub arrive_good : {S : Type 0} (world : World S) (all : List LoopCost) (m : ℕ) (kind : Kind) (result : Option ValueType)
    (mine : List Value) (rest : Sequence) (around : List Region) (operands : List Value) (c : Configuration S) →
    SoundKind world.context all (carried kind result ∷ labels_of around) result kind →
    Around kind around (AllSound world.context all around (slots_of result)) →
    On (pop_result (carried kind result) (closed operands)) (λ stack. Unit {0}) → Vars world c →
    left all c.guards + (last_pass all + weight around) < m →
    GoodStep world all m (arrive kind (region_of kind result mine rest) around operands c)
arrive_good world all m body result mine rest around operands c k a t v b =
    on_taken (GoodStep world all m) result operands (λ out. close body out around c) (λ stack. Unit {0}) t
    (λ out more r u. close_good world all m (result ∷ labels_of around) body result out around c k a r v b)
arrive_good world all m inner result mine rest around operands c k a t v b =
    on_taken (GoodStep world all m) result operands (λ out. close inner out around c) (λ stack. Unit {0}) t
    (λ out more r u. close_good world all m (result ∷ labels_of around) inner result out around c k a r v b)
arrive_good world all m (turns whole) result mine rest around operands c k a t v b =
    begin_good world all m result whole around c k a v b

-- a branch to this label finds its result
abbrev pub CanLeave : List (Option ValueType) → ℕ → List Value → Type 0
CanLeave labels label operands =
    On (slice_get labels label) (λ result. On (pop_result result (closed operands)) (λ stack. Unit {0}))

-- what is around a region that isn't the body
pub outer_sound : (context : Context) (all : List LoopCost) (kind : Kind) (region : Region) (around : List Region)
    (handed : List Slot) →
    Around kind (region ∷ around) (AllSound context all (region ∷ around) handed) →
    AllSound context all (region ∷ around) handed
outer_sound context all body region around handed a = absurd (let p : (region ∷ around) ≡ [] = a in cc)
outer_sound context all inner region around handed a = a
outer_sound context all (turns whole) region around handed a = a

pub branch_good : {S : Type 0} (world : World S) (all : List LoopCost) (m label : ℕ) (region : Region)
    (around : List Region) (operands : List Value) (c : Configuration S) →
    SoundKind world.context all (labels_of (region ∷ around)) region.result region.kind →
    Around region.kind around (AllSound world.context all around (slots_of region.result)) →
    CanLeave (labels_of (region ∷ around)) label operands → Vars world c →
    left all c.guards + (last_pass all + weight around) < m →
    GoodStep world all m (branch label (region ∷ around) operands c)
branch_good world all m zero region around operands c k a t v b =
    arrive_good world all m region.kind region.result region.operands region.rest around operands c k a t v b
branch_good world all m (suc label) region [] operands c k a t v b = absurd t
branch_good world all m (suc label) region (other ∷ around) operands c k a t v b =
    let s : AllSound world.context all (other ∷ around) (slots_of region.result) =
    outer_sound world.context all region.kind other around (slots_of region.result) a in
    let o : Sound world.context all (labels_of (other ∷ around)) (slots_of region.result) other = s.0 in
    branch_good world all m label other around operands c o.kind s.1 t v (omega arith)

pub leave_good : {S : Type 0} (world : World S) (all : List LoopCost) (m : ℕ) (region : Region) (around : List Region)
    (operands : List Value) (c : Configuration S) →
    SoundKind world.context all (labels_of (region ∷ around)) region.result region.kind →
    Around region.kind around (AllSound world.context all around (slots_of region.result)) →
    On (pop_result world.context.result (closed operands)) (λ stack. Unit {0}) → Vars world c →
    left all c.guards + (last_pass all + weight around) < m → GoodStep world all m (leave (region ∷ around) operands c)
leave_good world all m region [] operands c k a t v b = at region.kind k a
  where
    at : (kind : Kind) → SoundKind world.context all (carried kind region.result ∷ []) region.result kind →
        Around kind [] (AllSound world.context all [] (slots_of region.result)) →
        GoodStep world all m (arrive kind region [] operands c)
    at body k a =
        arrive_good world all m body region.result region.operands region.rest [] operands c k refl
        (subst (λ r. On (pop_result r (closed operands)) (λ stack. Unit {0})) (sym k) t) v b
    at inner k a = absurd a
    at (turns whole) k a = absurd a
leave_good world all m region (other ∷ around) operands c k a t v b =
    let s : AllSound world.context all (other ∷ around) (slots_of region.result) =
    outer_sound world.context all region.kind other around (slots_of region.result) a in
    let o : Sound world.context all (labels_of (other ∷ around)) (slots_of region.result) other = s.0 in
    leave_good world all m other around operands c o.kind s.1 t v (omega arith)
