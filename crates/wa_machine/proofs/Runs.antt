-- Nodes, loops' heads, and whole runs.
use Rattle.std.proofs.Common.{◌≡◌, ◌+◌, ◌<◌, ◌≤◌, ◌==◌, inl, inr, ◌++◌, ℕ, zero, suc, List, [], ◌∷◌, Option, Some, None}
use Rattle.std.proofs.Common.{Bool, true, false, if◌then◌else◌, nat_lt, sym, subst, refl, arith}
use Rattle.std.proofs.lemmas.Bool.Decides.{nat_tests}
use Rattle.std.specs.Int.{cast_unsigned, w32}
use Rattle.hk_base.specs.declared.outcome.Outcome.{Outcome}
use Rattle.hk_base.specs.declared.outcome.Outcome.TheVariants.{GuardViolated}
use Rattle.wa_ops.specs.declared.op.Op.{Op}
use Rattle.wa_ops.specs.declared.op.Op.TheVariants as op
use Rattle.wa_ops.specs.declared.op.ValueType.{ValueType}
use Rattle.wa_ops.specs.declared.op.ValueType.TheVariants.{I32}
use Rattle.wa_ops.specs.Bound.{LoopCost, own, loops, loop_cost, last_pass, bound_at}
use Rattle.wa_ops.specs.Callees.{takes, gives}
use Rattle.wa_ops.specs.Sequences.{Sequence, done, plain, block, loop, if_then, if_else, size}
use Rattle.wa_ops.specs.Typing.{Context, Stack, Typing, leaves, fails, fresh, push_result, pop, pop_result, changed}
use Rattle.wa_ops.specs.Typing.{and_then, effect, go_on, is_empty, after_region, no_result, types, Leaves}
use Rattle.wa_machine.specs.Machine.{Value, word32, Kind, inner, turns, Region, Configuration, World, Step, next, ended}
use Rattle.wa_machine.specs.Machine.{fault, onward, with_some, with_all, counted, call, close, enter, node, innermost}
use Rattle.wa_machine.specs.Machine.{ticked, step, start, EndsAfter, Ends}
use Rattle.wa_machine.specs.Law.{EndsWithin, WithinBound}
use Rattle.wa_machine.proofs.Typed.{slots, closed, On, on_word, on_whole}
use Rattle.wa_machine.proofs.Budget.{left, within_front, within_back, within_itself, left_pays, left_first}
use Rattle.wa_machine.proofs.Budget.{last_pass_is}
use Rattle.wa_machine.proofs.Sane.{Fine, carried, labels_of, slots_of, SoundLoop, SoundKind, Sound, Around, AllSound}
use Rattle.wa_machine.proofs.Sane.{weight, IsHead, at_first, at_second, at_third, Needs, Sane, GoodStep}
use Rattle.wa_machine.proofs.Steps.{Vars, Standing, onward_good, close_good, begin_good, region_of}
use Rattle.wa_machine.proofs.Plain.{plain_good}

pub on_go : (result : Option ValueType) (place : ℕ) (found : Option Stack) (later : Stack → Typing) →
    Leaves result (go_on place found later) → On found (λ stack. Leaves result (later stack))
on_go result place None later h = absurd h
on_go result place (Some stack) later h = h

pub on_region : (result outer : Option ValueType) (place : ℕ) (inside later : Typing) →
    Leaves outer (after_region result place inside later) → Leaves result inside × Leaves outer later
on_region result outer place (fails failure) later h = absurd h
on_region result outer place (leaves stack) later h = at (is_empty (pop_result result stack)) refl h
  where
    at : (b : Bool) → is_empty (pop_result result stack) ≡ b → Leaves outer (if b then later else fails place) →
        (is_empty (pop_result result stack) ≡ true) × Leaves outer later
    at true e h = (e, h)
    at false e h = absurd h

pub none_left : (result outer : Option ValueType) (place : ℕ) (later : Typing) →
    Leaves outer (no_result result place later) → (result ≡ None) × Leaves outer later
none_left None outer place later h = (refl, h)
none_left (Some kind) outer place later h = absurd h

pub pushed_is : (result : Option ValueType) (operands : List Value) →
    push_result result (closed operands) ≡ record { slots = slots_of result ++ slots operands; loose = false }
pushed_is None operands = refl
pushed_is (Some kind) operands = refl

pub fine_plain : (context : Context) (all : List LoopCost) (instruction : Op) (rest : Sequence) →
    Fine context all (plain instruction rest) → Fine context all rest
fine_plain context all instruction rest f = record { guarded = f.guarded; within = f.within }

-- opens a region that is no loop
pub enter_good : {S : Type 0} (world : World S) (all : List LoopCost) (m : ℕ) (result : Option ValueType)
    (inside : Sequence) (region : Region) (around : List Region) (operands : List Value) (c : Configuration S)
    (in_place place : ℕ) →
    Standing world all region around → Vars world c → Fine world.context all inside →
    Leaves result (types world.context (result ∷ labels_of (region ∷ around)) inside in_place fresh) →
    Leaves region.result
    (types world.context (labels_of (region ∷ around)) region.rest place (push_result result (closed operands))) →
    left all c.guards + (last_pass all + (own 1 inside + (own 1 region.rest + weight around))) < m →
    GoodStep world all m (enter inner result inside region around operands c)
enter_good world all m result inside region around operands c in_place place s v f t u b = (
  record {
    regions = (
      record { place = in_place; typed = t; fine = f; kind = tt },
      (
        record {
          place = place;
          typed =
              subst
              (λ stack.
              Leaves region.result (types world.context (labels_of (region ∷ around)) region.rest place stack))
              (pushed_is result operands) u;
          fine = s.fine;
          kind = s.kind;
        },
        s.outer,
      ),
    );
    locals = v.locals;
    globals = v.globals;
    returns = v.returns;
  },
  (left all c.guards + (last_pass all + (own 1 inside + (own 1 region.rest + weight around))), inl (omega arith), b),
)

pub loop_good : {S : Type 0} (world : World S) (all : List LoopCost) (m : ℕ) (result : Option ValueType)
    (inside : Sequence) (region : Region) (around : List Region) (operands : List Value) (c : Configuration S)
    (place : ℕ) →
    Standing world all region around → Vars world c →
    SoundLoop world.context all (None ∷ labels_of (region ∷ around)) result inside →
    Leaves region.result
    (types world.context (labels_of (region ∷ around)) region.rest place (push_result result (closed operands))) →
    left all c.guards + (last_pass all + (own 1 region.rest + weight around)) < m →
    GoodStep world all m (enter (turns inside) result inside region around operands c)
loop_good world all m result inside region around operands c place s v l u b =
    begin_good world all m result inside (record region { operands = operands } ∷ around) c l (
      record {
        place = place;
        typed =
            subst
            (λ stack. Leaves region.result (types world.context (labels_of (region ∷ around)) region.rest place stack))
            (pushed_is result operands) u;
        fine = s.fine;
        kind = s.kind;
      },
      s.outer,
    ) v b

pub node_good : {S : Type 0} (world : World S) (all : List LoopCost) (m : ℕ) (code : Sequence) (region : Region)
    (around : List Region) (c : Configuration S) (place : ℕ) →
    Fine world.context all code → SoundKind world.context all (labels_of (region ∷ around)) region.result region.kind →
    Around region.kind around (AllSound world.context all around (slots_of region.result)) → Vars world c →
    left all c.guards + (last_pass all + (own 1 code + weight around)) ≤ m →
    Leaves region.result (types world.context (labels_of (region ∷ around)) code place (closed region.operands)) →
    GoodStep world all m (node world code region around c)
node_good world all m done region around c place f k a v b t =
    on_whole (GoodStep world all m) region.result region.operands (λ out. close region.kind out around c) t
    (λ out r.
    close_good world all m (labels_of (region ∷ around)) region.kind region.result out around c k a r v (omega arith))
node_good world all m (plain instruction rest) region around c place f k a v b t =
    plain_good world all m instruction (record region { rest = rest }) around region.operands c
    (λ stack. Leaves region.result (types world.context (labels_of (region ∷ around)) rest (place + 1) stack))
    (record {
      standing = record { fine = fine_plain world.context all instruction rest f; kind = k; outer = a };
      enough = omega arith;
      place = place + 1;
      typed = λ stack h. h;
    }) v
    (on_go region.result place (effect world.context (labels_of (region ∷ around)) instruction (closed region.operands))
    (types world.context (labels_of (region ∷ around)) rest (place + 1)) t)
node_good world all m (block result inside rest) region around c place f k a v b t =
    let parts : Leaves result (types world.context (result ∷ labels_of (region ∷ around)) inside (place + 1) fresh) ×
    Leaves region.result (types world.context (labels_of (region ∷ around)) rest (place + 2 + size inside)
    (push_result result (closed region.operands))) = on_region result region.result _ _ _ t in
    enter_good world all m result inside (record region { rest = rest }) around region.operands c (place + 1)
    (place + 2 + size inside)
    (record {
      fine = record { guarded = f.guarded.1; within = within_back all (loops 1 inside) (loops 1 rest) f.within };
      kind = k;
      outer = a;
    }) v
    (record { guarded = f.guarded.0; within = within_front all (loops 1 inside) (loops 1 rest) f.within }) parts.0
    parts.1 (omega arith)
node_good world all m (loop result inside rest) region around c place f k a v b t =
    let parts : Leaves result (types world.context (None ∷ labels_of (region ∷ around)) inside (place + 1) fresh) ×
    Leaves region.result (types world.context (labels_of (region ∷ around)) rest (place + 2 + size inside)
    (push_result result (closed region.operands))) = on_region result region.result _ _ _ t in
    loop_good world all m result inside (record region { rest = rest }) around region.operands c
    (place + 2 + size inside)
    (record {
      fine = record { guarded = f.guarded.2; within = within_back all (loops 1 inside) (loops 1 rest) f.within.1 };
      kind = k;
      outer = a;
    }) v
    (record {
      guarded = f.guarded.0;
      place = place + 1;
      typed = parts.0;
      fine = record { guarded = f.guarded.1; within = within_front all (loops 1 inside) (loops 1 rest) f.within.1 };
      among = f.within.0;
    })
    parts.1 (omega arith)
node_good world all m (if_then result inside rest) region around c place f k a v b t =
    on_word (GoodStep world all m) region.operands
    (λ condition left.
    if condition == 0 then onward (record region { rest = rest }) around left c
    else enter inner result inside (record region { rest = rest }) around left c)
    (λ below. Leaves region.result (after_region result (place + 1 + size inside)
    (types world.context (result ∷ labels_of (region ∷ around)) inside (place + 1) fresh)
    (no_result result (place + 1 + size inside)
    (types world.context (labels_of (region ∷ around)) rest (place + 2 + size inside) below))))
    (on_go region.result place (pop I32 (closed region.operands)) _ t)
    (λ condition left h. choose (condition == 0) left (on_region result region.result _ _ _ h))
  where
    choose : (zero_condition : Bool) (left_over : List Value) →
        Leaves result (types world.context (result ∷ labels_of (region ∷ around)) inside (place + 1) fresh) ×
        Leaves region.result (no_result result (place + 1 + size inside)
        (types world.context (labels_of (region ∷ around)) rest (place + 2 + size inside) (closed left_over))) →
        GoodStep world all m (if zero_condition then onward (record region { rest = rest }) around left_over c
        else enter inner result inside (record region { rest = rest }) around left_over c)
    choose true left_over p =
        onward_good world all m (record region { rest = rest }) around left_over c (place + 2 + size inside)
        (record {
          fine = record { guarded = f.guarded.1; within = within_back all (loops 1 inside) (loops 1 rest) f.within };
          kind = k;
          outer = a;
        }) v (omega arith)
        (none_left result region.result (place + 1 + size inside)
        (types world.context (labels_of (region ∷ around)) rest (place + 2 + size inside) (closed left_over)) p.1).1
    choose false left_over p =
        let n : (result ≡ None)
        × Leaves region.result
        (types world.context (labels_of (region ∷ around)) rest (place + 2 + size inside) (closed left_over)) =
        none_left result region.result (place + 1 + size inside)
        (types world.context (labels_of (region ∷ around)) rest (place + 2 + size inside) (closed left_over)) p.1 in
        enter_good world all m result inside (record region { rest = rest }) around left_over c (place + 1)
        (place + 2 + size inside)
        (record {
          fine = record { guarded = f.guarded.1; within = within_back all (loops 1 inside) (loops 1 rest) f.within };
          kind = k;
          outer = a;
        }) v
        (record { guarded = f.guarded.0; within = within_front all (loops 1 inside) (loops 1 rest) f.within }) p.0
        (subst (λ r.
        Leaves region.result (types world.context (labels_of (region ∷ around)) rest (place + 2 + size inside)
        (push_result r (closed left_over)))) (sym n.0) n.1) (omega arith)
node_good world all m (if_else result one other rest) region around c place f k a v b t =
    on_word (GoodStep world all m) region.operands
    (λ condition left.
    enter inner result (if condition == 0 then other else one) (record region { rest = rest }) around left c)
    (λ below. Leaves region.result (after_region result (place + 1 + size one)
    (types world.context (result ∷ labels_of (region ∷ around)) one (place + 1) fresh)
    (after_region result (place + 2 + size one + size other)
    (types world.context (result ∷ labels_of (region ∷ around)) other (place + 2 + size one) fresh)
    (types world.context (labels_of (region ∷ around)) rest (place + 3 + size one + size other)
    (push_result result below)))))
    (on_go region.result place (pop I32 (closed region.operands)) _ t)
    (λ condition left h. choose (condition == 0) left (on_region result region.result _ _ _ h))
  where
    standing : Standing world all (record region { rest = rest }) around
    standing = record {
      fine = record {
        guarded = f.guarded.2;
        within = within_back all (loops 1 one ++ loops 1 other) (loops 1 rest) f.within;
      };
      kind = k;
      outer = a;
    }

    choose : (zero_condition : Bool) (left_over : List Value) →
        Leaves result (types world.context (result ∷ labels_of (region ∷ around)) one (place + 1) fresh) ×
        Leaves region.result (after_region result (place + 2 + size one + size other)
        (types world.context (result ∷ labels_of (region ∷ around)) other (place + 2 + size one) fresh)
        (types world.context (labels_of (region ∷ around)) rest (place + 3 + size one + size other)
        (push_result result (closed left_over)))) →
        GoodStep world all m
        (enter inner result (if zero_condition then other else one) (record region { rest = rest }) around left_over c)
    choose true left_over p =
        let q : Leaves result
        (types world.context (result ∷ labels_of (region ∷ around)) other (place + 2 + size one) fresh) ×
        Leaves region.result (types world.context (labels_of (region ∷ around)) rest (place + 3 + size one + size other)
        (push_result result (closed left_over))) = on_region result region.result _ _ _ p.1 in
        enter_good world all m result other (record region { rest = rest }) around left_over c (place + 2 + size one)
        (place + 3 + size one + size other) standing v
        (record {
          guarded = f.guarded.1;
          within =
              within_back all (loops 1 one) (loops 1 other)
              (within_front all (loops 1 one ++ loops 1 other) (loops 1 rest) f.within);
        }) q.0 q.1 (omega arith)
    choose false left_over p =
        let q : Leaves result
        (types world.context (result ∷ labels_of (region ∷ around)) other (place + 2 + size one) fresh) ×
        Leaves region.result (types world.context (labels_of (region ∷ around)) rest (place + 3 + size one + size other)
        (push_result result (closed left_over))) = on_region result region.result _ _ _ p.1 in
        enter_good world all m result one (record region { rest = rest }) around left_over c (place + 1)
        (place + 3 + size one + size other) standing v
        (record {
          guarded = f.guarded.0;
          within =
              within_front all (loops 1 one) (loops 1 other)
              (within_front all (loops 1 one ++ loops 1 other) (loops 1 rest) f.within);
        }) p.0 q.1 (omega arith)

-- one of a loop's first three instructions
pub head_good : {S : Type 0} (world : World S) (all : List LoopCost) (m : ℕ) (kind : Kind) (result : Option ValueType)
    (rest : Sequence) (operands : List Value) (around : List Region) (c : Configuration S) (place j : ℕ) →
    IsHead world.context.calls kind rest operands j →
    SoundKind world.context all (carried kind result ∷ labels_of around) result kind →
    Around kind around (AllSound world.context all around (slots_of result)) → Vars world c →
    Fine world.context all rest → left all c.guards + (weight around + j) ≤ m →
    Leaves result (types world.context (carried kind result ∷ labels_of around) rest place (closed operands)) →
    GoodStep world all m (node world rest (region_of kind result operands rest) around c)
head_good world all m _ result _ _ around c place _ (at_first {id} {limit} {function} {rest} e) k a v f b t = (
  record {
    regions = (
      record {
        place = place + 1;
        typed = t;
        fine =
            fine_plain world.context all (op.I32Const id) (plain (op.I32Const limit) (plain (op.Call function) rest))
            f;
        kind = k;
      },
      a,
    );
    locals = v.locals;
    globals = v.globals;
    returns = v.returns;
  },
  (left all c.guards + (weight around + 2), inr (2, at_second e, omega arith), omega arith),
)
head_good world all m _ result _ _ around c place _ (at_second {id} {limit} {function} {rest} e) k a v f b t = (
  record {
    regions = (
      record {
        place = place + 1;
        typed = t;
        fine = fine_plain world.context all (op.I32Const limit) (plain (op.Call function) rest) f;
        kind = k;
      },
      a,
    );
    locals = v.locals;
    globals = v.globals;
    returns = v.returns;
  },
  (left all c.guards + (weight around + 1), inr (1, at_third e, omega arith), omega arith),
)
head_good world all m _ result _ _ around c place _ (at_third {id} {limit} {function} {rest} e) k a v f b t =
    subst (λ found.
    GoodStep world all m (with_some found
    (λ callee. with_all (takes callee) (word32 (cast_unsigned w32 limit) ∷ word32 (cast_unsigned w32 id) ∷ [])
    (λ arguments left.
    call world callee arguments (region_of
    (turns (plain (op.I32Const id) (plain (op.I32Const limit) (plain (op.Call function) rest)))) result
    (word32 (cast_unsigned w32 limit) ∷ word32 (cast_unsigned w32 id) ∷ []) rest) around left c)))) (sym e)
    (choose (nat_lt (c.guards (cast_unsigned w32 id)) (cast_unsigned w32 limit)) refl)
  where
    later : Leaves result (types world.context (None ∷ labels_of around) rest (place + 1) (closed (word32 1 ∷ [])))
    later =
        subst (λ found.
        Leaves result (go_on place (and_then found (λ callee.
        changed (takes callee) (gives callee)
        (closed (word32 (cast_unsigned w32 limit) ∷ word32 (cast_unsigned w32 id) ∷ []))))
        (types world.context (None ∷ labels_of around) rest (place + 1)))) e t

    choose : (passes : Bool) → nat_lt (c.guards (cast_unsigned w32 id)) (cast_unsigned w32 limit) ≡ passes →
        GoodStep world all m (if passes
        then onward (region_of
        (turns (plain (op.I32Const id) (plain (op.I32Const limit) (plain (op.Call function) rest)))) result
        (word32 (cast_unsigned w32 limit) ∷ word32 (cast_unsigned w32 id) ∷ []) rest) around (word32 1 ∷ [])
        (record c { guards = counted (cast_unsigned w32 id) c.guards })
        else ended (GuardViolated (cast_unsigned w32 id) (cast_unsigned w32 limit))
        (record c { guards = counted (cast_unsigned w32 id) c.guards }))
    choose true p =
        let passed : c.guards (cast_unsigned w32 id) < cast_unsigned w32 limit = grind (arith, nat_tests) in
        let l : SoundLoop world.context all (None ∷ labels_of around) result
        (plain (op.I32Const id) (plain (op.I32Const limit) (plain (op.Call function) rest))) =
        k in
        let paid : left all (counted (cast_unsigned w32 id) c.guards) +
        own 1 (plain (op.I32Const id) (plain (op.I32Const limit) (plain (op.Call function) rest))) ≤ left all c.guards =
        left_pays all (loop_cost 1 (plain (op.I32Const id) (plain (op.I32Const limit) (plain (op.Call function) rest))))
        c.guards l.among passed in
        onward_good world all m (region_of
        (turns (plain (op.I32Const id) (plain (op.I32Const limit) (plain (op.Call function) rest)))) result
        (word32 (cast_unsigned w32 limit) ∷ word32 (cast_unsigned w32 id) ∷ []) rest) around (word32 1 ∷ [])
        (record c { guards = counted (cast_unsigned w32 id) c.guards }) (place + 1)
        (record { fine = fine_plain world.context all (op.Call function) rest f; kind = k; outer = a })
        (record { locals = v.locals; globals = v.globals; returns = v.returns })
        (omega (
          arith,
          paid,
          last_pass_is all
              (loop_cost 1 (plain (op.I32Const id) (plain (op.I32Const limit) (plain (op.Call function) rest))))
              l.among,
        ))
        later
    choose false p = omega arith

pub innermost_good : {S : Type 0} (world : World S) (all : List LoopCost) (m : ℕ) (regions : List Region)
    (c : Configuration S) →
    AllSound world.context all regions [] → Vars world c → Needs world.context all regions c.guards m →
    GoodStep world all m (innermost world regions c)
innermost_good world all m [] c a v n = absurd a
innermost_good world all m (region ∷ around) c a v (inl b) =
    let s : Sound world.context all (labels_of (region ∷ around)) [] region = a.0 in
    node_good world all m region.rest region around c s.place s.fine s.kind a.1 v b s.typed
innermost_good world all m (region ∷ around) c a v (inr h) =
    let s : Sound world.context all (labels_of (region ∷ around)) [] region = a.0 in
    head_good world all m region.kind region.result region.rest region.operands around c s.place h.0 h.1 s.kind a.1 v
    s.fine h.2 s.typed

pub ticked_good : {S : Type 0} (world : World S) (all : List LoopCost) (m count : ℕ) (made : Step S) →
    GoodStep world all m made → GoodStep world all m (ticked count made)
ticked_good world all m count (next c) g =
    let s : Sane world all c = g.0 in
    (record { regions = s.regions; locals = s.locals; globals = s.globals; returns = s.returns }, g.1)
ticked_good world all m count (ended outcome c) g = g
ticked_good world all m count fault g = g

pub needs_more : (context : Context) (all : List LoopCost) (regions : List Region) (guards : ℕ → ℕ) (n m : ℕ) →
    Needs context all regions guards n → n ≤ m → Needs context all regions guards m
needs_more context all regions guards n m (inl b) h = inl (omega arith)
needs_more context all [] guards n m (inr b) h = absurd b
needs_more context all (region ∷ around) guards n m (inr b) h = inr (b.0, b.1, omega (arith, b.2))

-- how a run ends from a step on
pub record After {S : Type 0} (world : World S) (most : ℕ) (made : Step S) : Type 0 where
  pub more : ℕ
  pub outcome : Outcome
  pub last : Configuration S
  pub within : suc more ≤ most
  pub ends : EndsAfter made more outcome last (λ later. Ends world more later outcome last)

pub after_good : {S : Type 0} (world : World S) (all : List LoopCost) (m : ℕ) (made : Step S) →
    GoodStep world all (suc m) made →
    ((c : Configuration S) → Sane world all c → Needs world.context all c.regions c.guards m → EndsWithin world m c) →
    After world (suc m) made
after_good world all m (next c) g later =
    let need : (n : ℕ) × Needs world.context all c.regions c.guards n × (n < suc m) = g.1 in
    let e : EndsWithin world m c =
    later c g.0 (needs_more world.context all c.regions c.guards need.0 m need.1 (omega (arith, need.2))) in
    record { more = e.steps; outcome = e.outcome; last = e.last; within = omega (arith, e.within); ends = e.ends }
after_good world all m (ended outcome c) g later = record {
  more = 0;
  outcome = outcome;
  last = c;
  within = omega arith;
  ends = (refl, refl, refl);
}
after_good world all m fault g later = absurd g

pub none_good : {S : Type 0} (world : World S) (all : List LoopCost) (made : Step S) → GoodStep world all 0 made → ⊥
none_good world all (next c) g =
    let need : (n : ℕ) × Needs world.context all c.regions c.guards n × (n < 0) = g.1 in absurd (omega (arith, need.2))
none_good world all (ended outcome c) g = absurd (omega (arith, g))
none_good world all fault g = g

pub ends_by : {S : Type 0} (world : World S) (all : List LoopCost) (m : ℕ) (c : Configuration S) → Sane world all c →
    Needs world.context all c.regions c.guards m → EndsWithin world m c
ends_by world all zero c s n =
    absurd (none_good world all (step world c) (ticked_good world all 0 (suc c.count) (innermost world c.regions c)
    (innermost_good world all 0 c.regions c s.regions
    (record { locals = s.locals; globals = s.globals; returns = s.returns }) n)))
ends_by world all (suc m) c s n =
    let a : After world (suc m) (step world c) =
    after_good world all m (step world c) (ticked_good world all (suc m) (suc c.count) (innermost world c.regions c)
    (innermost_good world all (suc m) c.regions c s.regions
    (record { locals = s.locals; globals = s.globals; returns = s.returns }) n)) (λ d t k. ends_by world all m d t k) in
    record { steps = suc a.more; outcome = a.outcome; last = a.last; within = a.within; ends = a.ends }

pub within_bound : (S : Type 0) → WithinBound S
within_bound S world code locals globals memory host l g r t f =
    ends_by world (loops 1 code) (bound_at 1 code) (start world code locals globals memory host)
    (record {
      regions = (
        record {
          place = 0;
          typed = t;
          fine = record { guarded = f; within = within_itself (loops 1 code) };
          kind = refl;
        },
        refl,
      );
      locals = l;
      globals = g;
      returns = r;
    })
    (inl (omega (arith, left_first (loops 1 code))))
