-- How far an instruction raises the counts of operands and of open regions.
use Rattle.std.proofs.Common.{◌≡◌, ℕ, ◌+◌, ◌≤◌, ◌^◌, ◌&&◌, nat_le, length, arith, List, [], ◌∷◌, Option, Some, None}
use Rattle.std.proofs.Common.{Bool, true, false, if◌then◌else◌, slice_get, subst, refl}
use Rattle.wa_ops.specs.declared.op.Op.{Op}
use Rattle.wa_ops.specs.declared.op.Op.TheVariants as op
use Rattle.wa_ops.specs.declared.op.ValueType.{ValueType}
use Rattle.wa_ops.specs.declared.op.ValueType.TheVariants.{I32}
use Rattle.wa_ops.specs.Accesses.{load_type, load_width, store_type, store_width, number_takes, number_gives}
use Rattle.wa_ops.specs.Callees.{Callee, takes, gives}
use Rattle.wa_ops.specs.Opcodes.{is_load, is_store, is_number}
use Rattle.wa_ops.specs.Sequences.{Nesting, nesting, opens_block, opens_loop, opens_if, turns, closes, stands}
use Rattle.wa_ops.specs.Typing.{Context, GlobalType, Slot, Stack, loosened, push, is_of, popped, pop, dropped, one_of}
use Rattle.wa_ops.specs.Typing.{selected, and_then, pop_all, pop_result, push_result, changed, all_carry, left_with}
use Rattle.wa_ops.specs.Typing.{stored, no_slots, effect}
use Rattle.wa_validate.specs.declared.region.Region.{Region}
use Rattle.wa_validate.specs.declared.open_regions.OpenRegions.{OpenRegions}
use Rattle.wa_validate.specs.Labels.{rest_of}
use Rattle.wa_validate.specs.Steps.{with_operands, entered, ended, in_second_arm, turned, handed, closed, lacks_else}
use Rattle.wa_validate.specs.Steps.{step, step_by}

-- so many operands at most, where there is a stack
abbrev pub AtMost : ℕ → Option Stack → Type 0
AtMost n None = Unit {0}
AtMost n (Some stack) = length stack.slots ≤ n

pub at_most_then : {A : Type 0} (n : ℕ) (o : Option A) (next : A → Option Stack) → ((a : A) → AtMost n (next a)) →
    AtMost n (and_then o next)
at_most_then n None next h = tt
at_most_then n (Some a) next h = h a

pub at_most_on : (n m : ℕ) (o : Option Stack) (next : Stack → Option Stack) → AtMost n o →
    ((stack : Stack) → length stack.slots ≤ n → AtMost m (next stack)) → AtMost m (and_then o next)
at_most_on n m None next h k = tt
at_most_on n m (Some stack) next h k = k stack h

pub at_most_if : (n : ℕ) (b : Bool) (o : Option Stack) → AtMost n o → AtMost n (if b then o else None)
at_most_if n true o h = h
at_most_if n false o h = tt

pub at_most_more : (n m : ℕ) (o : Option Stack) → n ≤ m → AtMost n o → AtMost m o
at_most_more n m None e h = tt
at_most_more n m (Some stack) e h = let less : length stack.slots ≤ n = h in omega arith

pub popped_few : (kind : ValueType) (slots : List Slot) (loose : Bool) → AtMost (length slots) (popped kind slots loose)
popped_few kind [] true = omega arith
popped_few kind [] false = tt
popped_few kind (slot ∷ slots) loose =
    at_most_if (length (slot ∷ slots)) (is_of kind slot) (Some (record { slots = slots; loose = loose })) (omega arith)

pub pop_few : (n : ℕ) (kind : ValueType) (stack : Stack) → length stack.slots ≤ n → AtMost n (pop kind stack)
pop_few n kind stack h =
    at_most_more (length stack.slots) n (pop kind stack) h (popped_few kind stack.slots stack.loose)

pub pop_all_few : (n : ℕ) (kinds : List ValueType) (stack : Stack) → length stack.slots ≤ n →
    AtMost n (pop_all kinds stack)
pop_all_few n [] stack h = h
pop_all_few n (kind ∷ kinds) stack h =
    at_most_on n n (pop kind stack) (pop_all kinds) (pop_few n kind stack h) (λ left k. pop_all_few n kinds left k)

pub pop_result_few : (n : ℕ) (result : Option ValueType) (stack : Stack) → length stack.slots ≤ n →
    AtMost n (pop_result result stack)
pop_result_few n None stack h = h
pop_result_few n (Some kind) stack h = pop_few n kind stack h

pub changed_few : (n : ℕ) (kinds : List ValueType) (given : ValueType) (stack : Stack) → length stack.slots ≤ n →
    AtMost (n + 1) (changed kinds given stack)
changed_few n kinds given stack h =
    at_most_on n (n + 1) (pop_all kinds stack) (λ below. Some (push given below)) (pop_all_few n kinds stack h)
    (λ left k. omega arith)

pub push_result_few : (n : ℕ) (result : Option ValueType) (stack : Stack) → length stack.slots ≤ n →
    length (push_result result stack).slots ≤ n + 1
push_result_few n None stack h = omega arith
push_result_few n (Some kind) stack h = omega arith

pub left_few : (n : ℕ) (result : Option ValueType) (stack : Stack) → AtMost n (left_with result stack)
left_few n result stack = at_most_then n (pop_result result stack) (λ below. Some loosened) (λ below. omega arith)

pub dropped_few : (n : ℕ) (slots : List Slot) (loose : Bool) → length slots ≤ n → AtMost n (dropped slots loose)
dropped_few n [] true h = h
dropped_few n [] false h = tt
dropped_few n (slot ∷ slots) loose h = omega arith

pub selected_few : (n : ℕ) (slots : List Slot) (loose : Bool) → length slots ≤ n → AtMost (n + 1) (selected slots loose)
selected_few n [] true h = omega arith
selected_few n [] false h = tt
selected_few n (slot ∷ []) true h = omega arith
selected_few n (slot ∷ []) false h = tt
selected_few n (slot ∷ other ∷ slots) loose h =
    at_most_then (n + 1) (one_of slot other) (λ left. Some (record { slots = left ∷ slots; loose = loose }))
    (λ left. omega arith)

pub effect_few : (n : ℕ) (context : Context) (labels : List (Option ValueType)) (instruction : Op) (stack : Stack) →
    length stack.slots ≤ n → AtMost (n + 1) (effect context labels instruction stack)
effect_few n context labels op.Unreachable stack h = omega arith
effect_few n context labels op.Nop stack h = omega arith
effect_few n context labels (op.Br label) stack h =
    at_most_then (n + 1) (slice_get labels label) (λ result. left_with result stack)
    (λ result. left_few (n + 1) result stack)
effect_few n context labels (op.BrIf label) stack h =
    at_most_on n (n + 1) (pop I32 stack) (λ below.
    and_then (slice_get labels label)
    (λ result. and_then (pop_result result below) (λ left. Some (push_result result left)))) (pop_few n I32 stack h)
    (λ below k. at_most_then (n + 1) (slice_get labels label)
    (λ result. and_then (pop_result result below) (λ left. Some (push_result result left)))
    (λ result.
    at_most_on n (n + 1) (pop_result result below) (λ left. Some (push_result result left))
    (pop_result_few n result below k) (λ left m. push_result_few n result left m)))
effect_few n context labels (op.BrTable listed last) stack h =
    at_most_then (n + 1) (pop I32 stack) (λ below.
    and_then (slice_get labels last)
    (λ result. if all_carry labels result listed then left_with result below else None))
    (λ below. at_most_then (n + 1) (slice_get labels last)
    (λ result. if all_carry labels result listed then left_with result below else None)
    (λ result.
    at_most_if (n + 1) (all_carry labels result listed) (left_with result below) (left_few (n + 1) result below)))
effect_few n context labels op.Return stack h = left_few (n + 1) context.result stack
effect_few n context labels (op.Call function) stack h =
    at_most_then (n + 1) (slice_get context.calls function) (λ callee. changed (takes callee) (gives callee) stack)
    (λ callee. changed_few n (takes callee) (gives callee) stack h)
effect_few n context labels op.Drop stack h =
    at_most_more n (n + 1) (dropped stack.slots stack.loose) (omega arith) (dropped_few n stack.slots stack.loose h)
effect_few n context labels op.Select stack h =
    at_most_on n (n + 1) (pop I32 stack) (λ below. selected below.slots below.loose) (pop_few n I32 stack h)
    (λ below k. selected_few n below.slots below.loose k)
effect_few n context labels (op.LocalGet local) stack h =
    at_most_then (n + 1) (slice_get context.locals local) (λ kind. Some (push kind stack)) (λ kind. omega arith)
effect_few n context labels (op.LocalSet local) stack h =
    at_most_then (n + 1) (slice_get context.locals local) (λ kind. pop kind stack)
    (λ kind. pop_few (n + 1) kind stack (omega arith))
effect_few n context labels (op.LocalTee local) stack h =
    at_most_then (n + 1) (slice_get context.locals local) (λ kind. changed (kind ∷ []) kind stack)
    (λ kind. changed_few n (kind ∷ []) kind stack h)
effect_few n context labels (op.GlobalGet global) stack h =
    at_most_then (n + 1) (slice_get context.globals global) (λ found. Some (push found.kind stack))
    (λ found. omega arith)
effect_few n context labels (op.GlobalSet global) stack h =
    at_most_then (n + 1) (slice_get context.globals global) (λ found. stored context found stack)
    (λ found.
    at_most_if (n + 1) found.is_mutable (pop found.kind stack) (pop_few (n + 1) found.kind stack (omega arith)))
effect_few n context labels (op.Load opcode align offset) stack h =
    at_most_if (n + 1) (context.has_memory && (is_load opcode && nat_le (2 ^ align) (load_width opcode)))
    (changed (I32 ∷ []) (load_type opcode) stack) (changed_few n (I32 ∷ []) (load_type opcode) stack h)
effect_few n context labels (op.Store opcode align offset) stack h =
    at_most_if (n + 1) (context.has_memory && (is_store opcode && nat_le (2 ^ align) (store_width opcode)))
    (pop_all (store_type opcode ∷ I32 ∷ []) stack)
    (pop_all_few (n + 1) (store_type opcode ∷ I32 ∷ []) stack (omega arith))
effect_few n context labels op.MemorySize stack h =
    at_most_if (n + 1) context.has_memory (Some (push I32 stack)) (omega arith)
effect_few n context labels (op.I32Const value) stack h = omega arith
effect_few n context labels (op.I64Const value) stack h = omega arith
effect_few n context labels (op.Number opcode) stack h =
    at_most_if (n + 1) (is_number opcode) (changed (number_takes opcode) (number_gives opcode) stack)
    (changed_few n (number_takes opcode) (number_gives opcode) stack h)
effect_few n context labels instruction stack h = tt

-- the operands of each region, with those around it
abbrev pub AllFew : ℕ → List Region → Type 0
AllFew n [] = Unit {0}
AllFew n (region ∷ regions) = (region.below + length region.operands.slots ≤ n) × AllFew n regions

-- at a place there are at most so many operands, and one region more
pub record AreFewAt (n : ℕ) (r : OpenRegions) : Type 0 where
  pub inner : r.inner.below + length r.inner.operands.slots ≤ n
  pub around : AllFew n r.around
  pub labels : length r.labels ≤ n + 1

abbrev pub FewOn : ℕ → Option OpenRegions → Type 0
FewOn n None = Unit {0}
FewOn n (Some r) = AreFewAt n r

pub all_more : (n m : ℕ) (regions : List Region) → n ≤ m → AllFew n regions → AllFew m regions
all_more n m [] e h = tt
all_more n m (region ∷ regions) e h =
    let less : region.below + length region.operands.slots ≤ n = h.0 in (omega arith, all_more n m regions e h.1)

pub few_if : (n : ℕ) (b : Bool) (o : Option OpenRegions) → FewOn n o → FewOn n (if b then o else None)
few_if n true o h = h
few_if n false o h = tt

pub few_unless : (n : ℕ) (b : Bool) (o : Option OpenRegions) → FewOn n o → FewOn n (if b then None else o)
few_unless n true o h = tt
few_unless n false o h = h

pub few_then : (n : ℕ) (o : Option Stack) (next : Stack → Option OpenRegions) →
    ((stack : Stack) → o ≡ Some stack → FewOn n (next stack)) → FewOn n (and_then o next)
few_then n None next h = tt
few_then n (Some stack) next h = h stack refl

-- where an operand was taken, or a result
pub with_few : (n m : ℕ) (r : OpenRegions) (stack : Stack) → AreFewAt n r → n ≤ m →
    r.inner.below + length stack.slots ≤ m → AreFewAt m (with_operands stack r)
with_few n m r stack few e h =
    let less : length r.labels ≤ n + 1 = few.labels in
    record { inner = h; around = all_more n m r.around e few.around; labels = omega arith }

pub few_of : (n : ℕ) (o : Option Stack) (stack : Stack) → o ≡ Some stack → AtMost n o → length stack.slots ≤ n
few_of n o stack e h = subst (AtMost n) e h

pub ended_few : (n : ℕ) (r : OpenRegions) (go : OpenRegions → Option OpenRegions) → AreFewAt n r →
    ((left : Stack) → AreFewAt n (with_operands left r) → FewOn (n + 1) (go (with_operands left r))) →
    FewOn (n + 1) (and_then (ended r) go)
ended_few n r go few h =
    at (pop_result r.inner.result r.inner.operands)
    (pop_result_few (length r.inner.operands.slots) r.inner.result r.inner.operands (omega arith))
  where
    pick : (left : Stack) (b : Bool) → length left.slots ≤ length r.inner.operands.slots →
        FewOn (n + 1) (and_then (if b then Some (with_operands left r) else None) go)
    pick left true k =
        h left (with_few n n r left few (omega arith)
        (let less : r.inner.below + length r.inner.operands.slots ≤ n = few.inner in omega arith))
    pick left false k = tt

    at : (o : Option Stack) → AtMost (length r.inner.operands.slots) o →
        FewOn (n + 1)
        (and_then (and_then o (λ left. if no_slots left.slots then Some (with_operands left r) else None)) go)
    at None k = tt
    at (Some left) k = pick left (no_slots left.slots) k

pub rest_few : {A : Type 0} (xs : List A) (n : ℕ) → length xs ≤ n → length (rest_of xs) ≤ n
rest_few [] n h = h
rest_few (x ∷ xs) n h = omega arith

pub handed_few : (n : ℕ) (r : OpenRegions) (around : List Region) → AreFewAt n r → AllFew n around →
    AreFewAt (n + 1) (handed r around)
handed_few n r [] few h =
    let less : r.inner.below + length r.inner.operands.slots ≤ n = few.inner in
    let fewer : length r.labels ≤ n + 1 = few.labels in
    record { inner = omega arith; around = all_more n (n + 1) r.around (omega arith) few.around; labels = omega arith }
handed_few n r (outer ∷ around) few h =
    let less : outer.below + length outer.operands.slots ≤ n = h.0 in
    let pushed : length (push_result r.inner.result outer.operands).slots ≤ length outer.operands.slots + 1 =
    push_result_few (length outer.operands.slots) r.inner.result outer.operands (omega arith) in
    let fewer : length r.labels ≤ n + 1 = few.labels in
    record {
      inner = omega arith;
      around = all_more n (n + 1) around (omega arith) h.1;
      labels = rest_few r.labels (n + 1 + 1) (omega arith);
    }

pub step_by_few : (n : ℕ) (kind : Nesting) (context : Context) (instruction : Op) (r : OpenRegions) → AreFewAt n r →
    FewOn (n + 1) (step_by kind context instruction r)
step_by_few n (opens_block result) context instruction r few =
    let less : r.inner.below + length r.inner.operands.slots ≤ n = few.inner in
    let fewer : length r.labels ≤ n + 1 = few.labels in
    record {
      inner = omega arith;
      around = (omega arith, all_more n (n + 1) r.around (omega arith) few.around);
      labels = omega arith;
    }
step_by_few n (opens_loop result) context instruction r few =
    let less : r.inner.below + length r.inner.operands.slots ≤ n = few.inner in
    let fewer : length r.labels ≤ n + 1 = few.labels in
    record {
      inner = omega arith;
      around = (omega arith, all_more n (n + 1) r.around (omega arith) few.around);
      labels = omega arith;
    }
step_by_few n (opens_if result) context instruction r few =
    few_then (n + 1) (pop I32 r.inner.operands) (λ left. Some (entered true result result (with_operands left r)))
    (λ left e.
    let taken : length left.slots ≤ length r.inner.operands.slots =
    few_of (length r.inner.operands.slots) (pop I32 r.inner.operands) left e
    (pop_few (length r.inner.operands.slots) I32 r.inner.operands (omega arith)) in
    let less : r.inner.below + length r.inner.operands.slots ≤ n = few.inner in
    let fewer : length r.labels ≤ n + 1 = few.labels in
    record {
      inner = omega arith;
      around = (omega arith, all_more n (n + 1) r.around (omega arith) few.around);
      labels = omega arith;
    })
step_by_few n turns context instruction r few =
    ended_few n r turned few (λ left f. few_if (n + 1) r.inner.first_arm (Some (in_second_arm (with_operands left r)))
    (let less : r.inner.below + length left.slots ≤ n = f.inner in let fewer : length r.labels ≤ n + 1 = f.labels in
    record { inner = omega arith; around = all_more n (n + 1) r.around (omega arith) f.around; labels = omega arith }))
step_by_few n closes context instruction r few =
    ended_few n r closed few (λ left f.
    few_unless (n + 1) (lacks_else r.inner.first_arm r.inner.result) (Some (handed (with_operands left r) r.around))
    (handed_few n (with_operands left r) r.around f f.around))
step_by_few n stands context instruction r few =
    few_then (n + 1) (effect context r.labels instruction r.inner.operands) (λ stack. Some (with_operands stack r))
    (λ stack e.
    let grown : length stack.slots ≤ length r.inner.operands.slots + 1 =
    few_of (length r.inner.operands.slots + 1) (effect context r.labels instruction r.inner.operands) stack e
    (effect_few (length r.inner.operands.slots) context r.labels instruction r.inner.operands (omega arith)) in
    let less : r.inner.below + length r.inner.operands.slots ≤ n = few.inner in
    with_few n (n + 1) r stack few (omega arith) (omega arith))

pub step_few : (n : ℕ) (context : Context) (instruction : Op) (r next : OpenRegions) → AreFewAt n r →
    step context instruction r ≡ Some next → AreFewAt (n + 1) next
step_few n context instruction r next few e =
    subst (FewOn (n + 1)) e (step_by_few n (nesting instruction) context instruction r few)
