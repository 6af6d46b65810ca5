-- Runs of well typed code stay within its depths: the operands of all open regions together, and the open regions.
use Rattle.std.proofs.Common.{◌≡◌, ◌+◌, ◌<◌, ◌≤◌, ◌==◌, inl, ◌++◌, ℕ, zero, suc, List, [], ◌∷◌, Option, Some, None}
use Rattle.std.proofs.Common.{Bool, true, false, if◌then◌else◌, length, length-append, sym, ◌∙◌, ap, subst, refl, arith}
use Rattle.std.proofs.Math.Nat.{le-max_left, le-max_right}
use Rattle.hk_base.specs.declared.outcome.Outcome.{Outcome}
use Rattle.wa_ops.specs.declared.op.Op.{Op}
use Rattle.wa_ops.specs.declared.op.ValueType.{ValueType}
use Rattle.wa_ops.specs.declared.op.ValueType.TheVariants.{I32, I64}
use Rattle.wa_ops.specs.Bound.{LoopCost, loops, bound_at, IsGuarded}
use Rattle.wa_ops.specs.Sequences.{Sequence, done, plain, block, loop, if_then, if_else, size}
use Rattle.wa_ops.specs.Typing.{Context, is_same_type, Slot, Stack, fresh, push_result, pop, effect, after_region}
use Rattle.wa_ops.specs.Typing.{no_result, types, Leaves, IsTyped}
use Rattle.wa_validate.specs.Depths.{deeper, depth_at, depth_on, peak, body_depth}
use Rattle.wa_validate.specs.declared.depth.Depth.{Depth}
use Rattle.wa_ops.proofs.Types.{same_type}
use Rattle.wa_machine.specs.Machine.{Value, type_of, Kind, body, inner, turns, Region, Configuration, World}
use Rattle.wa_machine.specs.Machine.{HostMeaning, Step, next, ended, fault, onward, act, with_some, taken_result}
use Rattle.wa_machine.specs.Machine.{whole_result, return_with, hand_on, close, arrive, branch, leave, enter, node}
use Rattle.wa_machine.specs.Machine.{innermost, ticked, step, start}
use Rattle.wa_machine.specs.Law.{types_of, kinds_of}
use Rattle.wa_machine.proofs.Typed.{slots, closed, On, on_word, OfResult}
use Rattle.wa_machine.proofs.Budget.{within_itself, left_first}
use Rattle.wa_machine.proofs.Sane.{carried, labels_of, slots_of, Sound, Around, AllSound, Needs, Sane, GoodStep}
use Rattle.wa_machine.proofs.Steps.{Vars, handed_slots, region_of}
use Rattle.wa_machine.proofs.Runs.{on_go, on_region, none_left, pushed_is, innermost_good, ticked_good}
use Rattle.wa_run.specs.Depths.{depth_of, IsWithin, Leads, StaysWithin}
use Rattle.wa_run.specs.Flat.{words_of, all_words}
use Rattle.wa_run.proofs.Moves.{Moves, plain_moves}

pub within_left : (most a b : Depth) → IsWithin most (deeper a b) → IsWithin most a
within_left most a b w =
    record {
      operands = omega (arith, w.operands, le-max_left a.operands b.operands);
      labels = omega (arith, w.labels, le-max_left a.labels b.labels);
    }

pub within_right : (most a b : Depth) → IsWithin most (deeper a b) → IsWithin most b
within_right most a b w =
    record {
      operands = omega (arith, w.operands, le-max_right a.operands b.operands);
      labels = omega (arith, w.labels, le-max_right a.labels b.labels);
    }

-- the operands of these regions
abbrev pub operands_in : List Region → ℕ
operands_in [] = 0
operands_in (region ∷ around) = operands_in around + length (slots region.operands)

-- a loop that begins again stays within too
abbrev pub DeepKind : Context → Depth → List (Option ValueType) → ℕ → Kind → Type 0
DeepKind context most labels below body = Unit {0}
DeepKind context most labels below inner = Unit {0}
DeepKind context most labels below (turns whole) = IsWithin most (peak context labels whole below fresh)

-- the rest of a region stays within, with these handed to it
pub record Deep (context : Context) (most : Depth) (labels : List (Option ValueType)) (below : ℕ) (handed : List Slot)
    (region : Region) : Type 0 where
  pub rest : IsWithin most
      (peak context labels region.rest below (record { slots = handed ++ slots region.operands; loose = false }))
  pub kind : DeepKind context most labels below region.kind

abbrev pub AllDeep : Context → Depth → List Region → List Slot → Type 0
AllDeep context most [] handed = Unit {0}
AllDeep context most (region ∷ around) handed =
    Deep context most (labels_of (region ∷ around)) (operands_in around) handed region
    × AllDeep context most around (slots_of region.result)

abbrev pub DeepStep : {S : Type 0} → Context → Depth → Step S → Type 0
DeepStep context most (next c) = AllDeep context most c.regions []
DeepStep context most (ended outcome c) = Unit {0}
DeepStep context most fault = Unit {0}

-- a region, whatever its operands and its rest are
pub record Placed (context : Context) (most : Depth) (region : Region) (around : List Region) : Type 0 where
  pub kind : DeepKind context most (labels_of (region ∷ around)) (operands_in around) region.kind
  pub outer : AllDeep context most around (slots_of region.result)

-- ---- regions that close

onward_deep : {S : Type 0} (context : Context) (most : Depth) (region : Region) (around : List Region)
    (operands : List Value) (c : Configuration S) → Placed context most region around →
    IsWithin most (peak context (labels_of (region ∷ around)) region.rest (operands_in around) (closed operands)) →
    DeepStep context most (onward region around operands c)
onward_deep context most region around operands c p w = (record { rest = w; kind = p.kind }, p.outer)

hand_on_deep : {S : Type 0} (context : Context) (most : Depth) (result : Option ValueType) (out : List Value)
    (around : List Region) (c : Configuration S) →
    OfResult result out → AllDeep context most around (slots_of result) → DeepStep context most (hand_on out around c)
hand_on_deep context most result out [] c r a = tt
hand_on_deep context most result out (region ∷ around) c r a =
    let d : Deep context most (labels_of (region ∷ around)) (operands_in around) (slots_of result) region = a.0 in (
      record {
        rest =
            subst (λ found.
            IsWithin most (peak context (labels_of (region ∷ around)) region.rest (operands_in around)
            (record { slots = found; loose = false }))) (sym (handed_slots result out region.operands r)) d.rest;
        kind = d.kind;
      },
      a.1,
    )

return_deep : {S : Type 0} (context : Context) (most : Depth) (out : List Value) (c : Configuration S) →
    DeepStep context most (return_with out c)
return_deep context most [] c = tt
return_deep context most (value ∷ out) c = tt

close_deep : {S : Type 0} (context : Context) (most : Depth) (kind : Kind) (result : Option ValueType)
    (out : List Value) (around : List Region) (c : Configuration S) →
    OfResult result out → AllDeep context most around (slots_of result) →
    DeepStep context most (close kind out around c)
close_deep context most body result out around c r a = return_deep context most out c
close_deep context most inner result out around c r a = hand_on_deep context most result out around c r a
close_deep context most (turns whole) result out around c r a = hand_on_deep context most result out around c r a

one_result : {S : Type 0} (context : Context) (most : Depth) (kind : Kind) (result : ValueType) (value : Value)
    (around : List Region) (c : Configuration S) → AllDeep context most around (slots_of (Some result)) →
    DeepStep context most (with_some (if is_same_type result (type_of value) then Some (value ∷ []) else None)
    (λ out. close kind out around c))
one_result context most kind result value around c a = at (is_same_type result (type_of value)) refl
  where
    at : (same : Bool) → is_same_type result (type_of value) ≡ same →
        DeepStep context most (with_some (if same then Some (value ∷ []) else None) (λ out. close kind out around c))
    at true e =
        close_deep context most kind (Some result) (value ∷ []) around c
        (ap (λ found. found ∷ []) (sym (same_type result (type_of value) e))) a
    at false e = tt

taken_deep : {S : Type 0} (context : Context) (most : Depth) (kind : Kind) (result : Option ValueType)
    (operands : List Value) (around : List Region) (c : Configuration S) →
    AllDeep context most around (slots_of result) →
    DeepStep context most (with_some (taken_result result operands) (λ out. close kind out around c))
taken_deep context most kind None operands around c a = close_deep context most kind None [] around c refl a
taken_deep context most kind (Some result) [] around c a = tt
taken_deep context most kind (Some result) (value ∷ operands) around c a =
    one_result context most kind result value around c a

whole_deep : {S : Type 0} (context : Context) (most : Depth) (kind : Kind) (result : Option ValueType)
    (operands : List Value) (around : List Region) (c : Configuration S) →
    AllDeep context most around (slots_of result) →
    DeepStep context most (with_some (whole_result result operands) (λ out. close kind out around c))
whole_deep context most kind None [] around c a = close_deep context most kind None [] around c refl a
whole_deep context most kind None (value ∷ operands) around c a = tt
whole_deep context most kind (Some result) [] around c a = tt
whole_deep context most kind (Some result) (value ∷ []) around c a =
    one_result context most kind result value around c a
whole_deep context most kind (Some result) (value ∷ other ∷ operands) around c a = tt

arrive_deep : {S : Type 0} (context : Context) (most : Depth) (kind : Kind) (result : Option ValueType)
    (mine : List Value) (rest : Sequence) (around : List Region) (operands : List Value) (c : Configuration S) →
    DeepKind context most (carried kind result ∷ labels_of around) (operands_in around) kind →
    AllDeep context most around (slots_of result) →
    DeepStep context most (arrive kind (region_of kind result mine rest) around operands c)
arrive_deep context most body result mine rest around operands c k a =
    taken_deep context most body result operands around c a
arrive_deep context most inner result mine rest around operands c k a =
    taken_deep context most inner result operands around c a
arrive_deep context most (turns whole) result mine rest around operands c k a = (record { rest = k; kind = k }, a)

branch_deep : {S : Type 0} (context : Context) (most : Depth) (label : ℕ) (region : Region) (around : List Region)
    (operands : List Value) (c : Configuration S) → Placed context most region around →
    DeepStep context most (branch label (region ∷ around) operands c)
branch_deep context most zero region around operands c p =
    arrive_deep context most region.kind region.result region.operands region.rest around operands c p.kind p.outer
branch_deep context most (suc label) region [] operands c p = tt
branch_deep context most (suc label) region (other ∷ around) operands c p =
    let d : Deep context most (labels_of (other ∷ around)) (operands_in around) (slots_of region.result) other =
    p.outer.0 in
    branch_deep context most label other around operands c (record { kind = d.kind; outer = p.outer.1 })

leave_deep : {S : Type 0} (context : Context) (most : Depth) (region : Region) (around : List Region)
    (operands : List Value) (c : Configuration S) → Placed context most region around →
    DeepStep context most (leave (region ∷ around) operands c)
leave_deep context most region [] operands c p =
    arrive_deep context most region.kind region.result region.operands region.rest [] operands c p.kind p.outer
leave_deep context most region (other ∷ around) operands c p =
    let d : Deep context most (labels_of (other ∷ around)) (operands_in around) (slots_of region.result) other =
    p.outer.0 in
    leave_deep context most other around operands c (record { kind = d.kind; outer = p.outer.1 })

-- ---- nodes

-- where typing finds a stack, what comes behind it stays within
on_depth : (most : Depth) (found : Option Stack) (T : Stack → Type 0) (depth : Stack → Depth) → On found T →
    IsWithin most (depth_on found depth) → On found (λ stack. T stack × IsWithin most (depth stack))
on_depth most None T depth h w = absurd h
on_depth most (Some stack) T depth h w = (h, w)

on_second : (found : Option Stack) (T Q : Stack → Type 0) → On found (λ stack. T stack × Q stack) → On found Q
on_second None T Q h = absurd h
on_second (Some stack) T Q h = h.1

enter_deep : {S : Type 0} (context : Context) (most : Depth) (kind : Kind) (result : Option ValueType)
    (inside : Sequence) (region : Region) (around : List Region) (operands : List Value) (c : Configuration S) →
    Placed context most region around →
    DeepKind context most (carried kind result ∷ labels_of (region ∷ around))
    (operands_in around + length (slots operands)) kind →
    IsWithin most (peak context (carried kind result ∷ labels_of (region ∷ around)) inside
    (operands_in around + length (slots operands)) fresh) →
    IsWithin most
    (peak context (labels_of (region ∷ around)) region.rest (operands_in around) (push_result result (closed operands)))
    →
    DeepStep context most (enter kind result inside region around operands c)
enter_deep context most kind result inside region around operands c p k w r = (
  record { rest = w; kind = k },
  (
    record {
      rest =
          subst
          (λ stack. IsWithin most (peak context (labels_of (region ∷ around)) region.rest (operands_in around) stack))
          (pushed_is result operands) r;
      kind = p.kind;
    },
    p.outer,
  ),
)

plain_deep : {S : Type 0} (world : World S) (most : Depth) (instruction : Op) (region : Region) (around : List Region)
    (operands : List Value) (c : Configuration S) → Placed world.context most region around → Vars world c →
    On (effect world.context (labels_of (region ∷ around)) instruction (closed operands))
    (λ stack. IsWithin most (peak world.context (labels_of (region ∷ around)) region.rest (operands_in around) stack)) →
    DeepStep world.context most (act world instruction region around operands c)
plain_deep world most instruction region around operands c p v t =
    plain_moves (DeepStep world.context most) world instruction region around operands c
    (λ stack. IsWithin most (peak world.context (labels_of (region ∷ around)) region.rest (operands_in around) stack))
    (record {
      goes = λ operands c w. onward_deep world.context most region around operands c p w;
      branches = λ label operands c. branch_deep world.context most label region around operands c p;
      leaves = λ operands c. leave_deep world.context most region around operands c p;
      ends = λ outcome c. tt;
      faults = tt;
    }) v t

node_deep : {S : Type 0} (world : World S) (most : Depth) (code : Sequence) (region : Region) (around : List Region)
    (c : Configuration S) (place : ℕ) → Placed world.context most region around → Vars world c →
    Leaves region.result (types world.context (labels_of (region ∷ around)) code place (closed region.operands)) →
    IsWithin most
    (peak world.context (labels_of (region ∷ around)) code (operands_in around) (closed region.operands)) →
    DeepStep world.context most (node world code region around c)
node_deep world most done region around c place p v t w =
    whole_deep world.context most region.kind region.result region.operands around c p.outer
node_deep world most (plain instruction rest) region around c place p v t w =
    let labels : List (Option ValueType) = labels_of (region ∷ around) in
    let found : Option Stack = effect world.context labels instruction (closed region.operands) in
    let depth : Stack → Depth = λ stack. peak world.context labels rest (operands_in around) stack in
    plain_deep world most instruction (record region { rest = rest }) around region.operands c
    (record { kind = p.kind; outer = p.outer }) v
    (on_second found (λ stack. Leaves region.result (types world.context labels rest (place + 1) stack))
    (λ stack. IsWithin most (depth stack))
    (on_depth most found (λ stack. Leaves region.result (types world.context labels rest (place + 1) stack)) depth
    (on_go region.result place found (types world.context labels rest (place + 1)) t)
    (within_right most (depth_at labels (operands_in around) (closed region.operands)) (depth_on found depth) w)))
node_deep world most (block result inside rest) region around c place p v t w =
    let labels : List (Option ValueType) = labels_of (region ∷ around) in
    let below : ℕ = operands_in around in
    let deep_inside : Depth =
    peak world.context (result ∷ labels) inside (below + length (slots region.operands)) fresh in
    let deep_rest : Depth = peak world.context labels rest below (push_result result (closed region.operands)) in
    let both : IsWithin most (deeper deep_inside deep_rest) =
    within_right most (depth_at labels below (closed region.operands)) (deeper deep_inside deep_rest) w in
    enter_deep world.context most inner result inside (record region { rest = rest }) around region.operands c
    (record { kind = p.kind; outer = p.outer }) tt
    (within_left most deep_inside deep_rest both) (within_right most deep_inside deep_rest both)
node_deep world most (loop result inside rest) region around c place p v t w =
    let labels : List (Option ValueType) = labels_of (region ∷ around) in
    let below : ℕ = operands_in around in
    let deep_inside : Depth =
    peak world.context (None ∷ labels) inside (below + length (slots region.operands)) fresh in
    let deep_rest : Depth = peak world.context labels rest below (push_result result (closed region.operands)) in
    let both : IsWithin most (deeper deep_inside deep_rest) =
    within_right most (depth_at labels below (closed region.operands)) (deeper deep_inside deep_rest) w in
    enter_deep world.context most (turns inside) result inside (record region { rest = rest }) around region.operands c
    (record { kind = p.kind; outer = p.outer })
    (within_left most deep_inside deep_rest both) (within_left most deep_inside deep_rest both)
    (within_right most deep_inside deep_rest both)
node_deep {S} world most (if_then result inside rest) region around c place p v t w =
    on_word (DeepStep world.context most) region.operands go (λ stack. Typed stack × IsWithin most (depth stack))
    (on_depth most found Typed depth (on_go region.result place found _ t)
    (within_right most (depth_at labels below (closed region.operands)) (depth_on found depth) w))
    (λ condition left q. choose (condition == 0) left q.0 q.1)
  where
    labels : List (Option ValueType)
    labels = labels_of (region ∷ around)

    below : ℕ
    below = operands_in around

    found : Option Stack
    found = pop I32 (closed region.operands)

    under : Region
    under = record region { rest = rest }

    Typed : Stack → Type 0
    Typed =
        λ stack.
        Leaves region.result (after_region result (place + 1 + size inside)
        (types world.context (result ∷ labels) inside (place + 1) fresh)
        (no_result result (place + 1 + size inside) (types world.context labels rest (place + 2 + size inside) stack)))

    depth : Stack → Depth
    depth =
        λ stack.
        deeper (peak world.context (result ∷ labels) inside (below + length stack.slots) fresh)
        (peak world.context labels rest below stack)

    go : ℕ → List Value → Step S
    go =
        λ condition left.
        if condition == 0 then onward under around left c else enter inner result inside under around left c

    choose : (zero_condition : Bool) (left : List Value) → Typed (closed left) → IsWithin most (depth (closed left)) →
        DeepStep world.context most
        (if zero_condition then onward under around left c else enter inner result inside under around left c)
    choose true left h d =
        onward_deep world.context most under around left c (record { kind = p.kind; outer = p.outer })
        (within_right most (peak world.context (result ∷ labels) inside (below + length (slots left)) fresh)
        (peak world.context labels rest below (closed left)) d)
    choose false left h d =
        let n : (result ≡ None)
        × Leaves region.result (types world.context labels rest (place + 2 + size inside) (closed left)) =
        none_left result region.result (place + 1 + size inside)
        (types world.context labels rest (place + 2 + size inside) (closed left))
        (on_region result region.result _ _ _ h).1 in
        enter_deep world.context most inner result inside under around left c
        (record { kind = p.kind; outer = p.outer }) tt
        (within_left most (peak world.context (result ∷ labels) inside (below + length (slots left)) fresh)
        (peak world.context labels rest below (closed left)) d)
        (subst (λ r. IsWithin most (peak world.context labels rest below (push_result r (closed left)))) (sym n.0)
        (within_right most (peak world.context (result ∷ labels) inside (below + length (slots left)) fresh)
        (peak world.context labels rest below (closed left)) d))
node_deep {S} world most (if_else result one other rest) region around c place p v t w =
    on_word (DeepStep world.context most) region.operands go (λ stack. Typed stack × IsWithin most (depth stack))
    (on_depth most found Typed depth (on_go region.result place found _ t)
    (within_right most (depth_at labels below (closed region.operands)) (depth_on found depth) w))
    (λ condition left q. choose (condition == 0) left q.1)
  where
    labels : List (Option ValueType)
    labels = labels_of (region ∷ around)

    below : ℕ
    below = operands_in around

    found : Option Stack
    found = pop I32 (closed region.operands)

    under : Region
    under = record region { rest = rest }

    Typed : Stack → Type 0
    Typed =
        λ stack.
        Leaves region.result (after_region result (place + 1 + size one)
        (types world.context (result ∷ labels) one (place + 1) fresh)
        (after_region result (place + 2 + size one + size other)
        (types world.context (result ∷ labels) other (place + 2 + size one) fresh)
        (types world.context labels rest (place + 3 + size one + size other) (push_result result stack))))

    arm : Sequence → List Value → Depth
    arm code left = peak world.context (result ∷ labels) code (below + length (slots left)) fresh

    after : List Value → Depth
    after left = peak world.context labels rest below (push_result result (closed left))

    depth : Stack → Depth
    depth = λ stack. deeper (peak world.context (result ∷ labels) one (below + length stack.slots) fresh)
        (deeper (peak world.context (result ∷ labels) other (below + length stack.slots) fresh)
        (peak world.context labels rest below (push_result result stack)))

    go : ℕ → List Value → Step S
    go = λ condition left. enter inner result (if condition == 0 then other else one) under around left c

    choose : (zero_condition : Bool) (left : List Value) → IsWithin most (depth (closed left)) →
        DeepStep world.context most (enter inner result (if zero_condition then other else one) under around left c)
    choose true left d =
        let more : IsWithin most (deeper (arm other left) (after left)) =
        within_right most (arm one left) (deeper (arm other left) (after left)) d in
        enter_deep world.context most inner result other under around left c (record { kind = p.kind; outer = p.outer })
        tt (within_left most (arm other left) (after left) more) (within_right most (arm other left) (after left) more)
    choose false left d =
        let more : IsWithin most (deeper (arm other left) (after left)) =
        within_right most (arm one left) (deeper (arm other left) (after left)) d in
        enter_deep world.context most inner result one under around left c (record { kind = p.kind; outer = p.outer })
        tt (within_left most (arm one left) (deeper (arm other left) (after left)) d)
        (within_right most (arm other left) (after left) more)

innermost_deep : {S : Type 0} (world : World S) (most : Depth) (all : List LoopCost) (regions : List Region)
    (c : Configuration S) → AllSound world.context all regions [] → Vars world c →
    AllDeep world.context most regions [] →
    DeepStep world.context most (innermost world regions c)
innermost_deep world most all [] c a v d = tt
innermost_deep world most all (region ∷ around) c a v d =
    let s : Sound world.context all (labels_of (region ∷ around)) [] region = a.0 in
    let e : Deep world.context most (labels_of (region ∷ around)) (operands_in around) [] region = d.0 in
    node_deep world most region.rest region around c s.place (record { kind = e.kind; outer = d.1 }) v s.typed e.rest

ticked_deep : {S : Type 0} (context : Context) (most : Depth) (count : ℕ) (made : Step S) → DeepStep context most made →
    DeepStep context most (ticked count made)
ticked_deep context most count (next c) d = d
ticked_deep context most count (ended outcome c) d = tt
ticked_deep context most count fault d = tt

-- ---- whole runs

-- what each configuration of a run keeps
pub record IsDeep {S : Type 0} (world : World S) (most : Depth) (c : Configuration S) : Type 0 where
  pub all : List LoopCost
  pub enough : ℕ
  pub sane : Sane world all c
  pub needs : Needs world.context all c.regions c.guards enough
  pub deep : AllDeep world.context most c.regions []

pub begins_deep : {S : Type 0} (world : World S) (code : Sequence) (locals globals : List Value) (memory : List ℕ)
    (host : S) (most : Depth) → types_of locals ≡ world.context.locals →
    types_of globals ≡ kinds_of world.context.globals → world.context.result ≡ Some I64 → IsTyped world.context code →
    IsGuarded world.context.calls code → IsWithin most (body_depth world.context code) →
    IsDeep world most (start world code locals globals memory host)
begins_deep world code locals globals memory host most l g r t f w = record {
  all = loops 1 code;
  enough = bound_at 1 code;
  sane = record {
    regions = (
      record {
        place = 0;
        typed = t;
        fine = record { guarded = f; within = within_itself (loops 1 code) };
        kind = refl;
      },
      refl,
    );
    locals = l;
    globals = g;
    returns = r;
  };
  needs = inl (omega (arith, left_first (loops 1 code)));
  deep = (record { rest = w; kind = tt }, tt);
}

pub stays_deep : {S : Type 0} (world : World S) (most : Depth) (c later : Configuration S) → IsDeep world most c →
    step world c ≡ next later → IsDeep world most later
stays_deep world most c later d e =
    let v : Vars world c = record { locals = d.sane.locals; globals = d.sane.globals; returns = d.sane.returns } in
    let good : GoodStep world d.all d.enough (next later) =
    subst (GoodStep world d.all d.enough) e (ticked_good world d.all d.enough (suc c.count)
    (innermost world c.regions c) (innermost_good world d.all d.enough c.regions c d.sane.regions v d.needs)) in
    let need : (n : ℕ) × Needs world.context d.all later.regions later.guards n × (n < d.enough) = good.1 in
    let deep : DeepStep world.context most (next later) =
    subst (DeepStep world.context most) e (ticked_deep world.context most (suc c.count) (innermost world c.regions c)
    (innermost_deep world most d.all c.regions c d.sane.regions v d.deep)) in
    record { all = d.all; enough = need.0; sane = good.0; needs = need.1; deep = deep }

pub peak_here : (context : Context) (most : Depth) (labels : List (Option ValueType)) (code : Sequence) (below : ℕ)
    (stack : Stack) → IsWithin most (peak context labels code below stack) → IsWithin most (depth_at labels below stack)
peak_here context most labels done below stack w = w
peak_here context most labels (plain instruction rest) below stack w =
    within_left most (depth_at labels below stack) _ w
peak_here context most labels (block result inside rest) below stack w =
    within_left most (depth_at labels below stack) _ w
peak_here context most labels (loop result inside rest) below stack w =
    within_left most (depth_at labels below stack) _ w
peak_here context most labels (if_then result inside rest) below stack w =
    within_left most (depth_at labels below stack) _ w
peak_here context most labels (if_else result one other rest) below stack w =
    within_left most (depth_at labels below stack) _ w

pub labels_long : (regions : List Region) → length (labels_of regions) ≡ length regions
labels_long [] = refl
labels_long (region ∷ regions) = ap suc (labels_long regions)

pub slots_long : (values : List Value) → length (slots values) ≡ length (words_of values)
slots_long [] = refl
slots_long (value ∷ values) = ap suc (slots_long values)

pub words_in : (regions : List Region) → length (all_words regions) ≡ operands_in regions
words_in [] = refl
words_in (region ∷ around) =
    omega
    (arith, length-append (words_of region.operands) (all_words around), slots_long region.operands, words_in around)

pub holds_deep : {S : Type 0} (world : World S) (most : Depth) (c : Configuration S) → IsDeep world most c →
    IsWithin most (depth_of c.regions)
holds_deep world most c d = at c.regions d.deep
  where
    at : (regions : List Region) → AllDeep world.context most regions [] → IsWithin most (depth_of regions)
    at [] a = record { operands = omega arith; labels = omega arith }
    at (region ∷ around) a =
        let e : Deep world.context most (labels_of (region ∷ around)) (operands_in around) [] region = a.0 in
        let w : IsWithin most (depth_at (labels_of (region ∷ around)) (operands_in around) (closed region.operands)) =
        peak_here world.context most (labels_of (region ∷ around)) region.rest (operands_in around)
        (closed region.operands) e.rest in
        record {
          operands = omega (arith, w.operands, words_in (region ∷ around));
          labels = omega (arith, w.labels, labels_long (region ∷ around));
        }

all_deep : {S : Type 0} (world : World S) (most : Depth) (count : ℕ) (c later : Configuration S) → IsDeep world most c →
    Leads world count c later → IsWithin most (depth_of later.regions)
all_deep world most zero c later d e = holds_deep world most later (subst (IsDeep world most) e d)
all_deep world most (suc more) c later d l = all_deep world most more l.0 later (stays_deep world most c l.0 d l.1) l.2

-- a run of well typed and guarded code stays within its depth
pub stays_within : {S : Type 0} (world : World S) (code : Sequence) (locals globals : List Value) (memory : List ℕ)
    (host : S) → types_of locals ≡ world.context.locals →
    types_of globals ≡ kinds_of world.context.globals → world.context.result ≡ Some I64 → IsTyped world.context code →
    IsGuarded world.context.calls code →
    StaysWithin world (body_depth world.context code) (start world code locals globals memory host)
stays_within world code locals globals memory host l g r t f count later leads =
    all_deep world (body_depth world.context code) count (start world code locals globals memory host) later
    (begins_deep world code locals globals memory host (body_depth world.context code) l g r t f
    (record { operands = omega arith; labels = omega arith })) leads
