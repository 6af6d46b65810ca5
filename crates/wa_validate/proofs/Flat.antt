-- Typing of flat code with a stack of open regions, against the typing of its tree.
use Rattle.std.proofs.Common.{◌≡◌, ℕ, ◌+◌, max, length, arith, List, [], ◌∷◌, Option, Some, None, Bool, true, false}
use Rattle.std.proofs.Common.{if◌then◌else◌, sym, ◌∙◌, ap, subst, refl}
use Rattle.wa_ops.specs.declared.op.Op.{Op}
use Rattle.wa_ops.specs.declared.op.Op.TheVariants.{Block, Loop, If, Else, End}
use Rattle.wa_ops.specs.declared.op.ValueType.{ValueType}
use Rattle.wa_ops.specs.declared.op.ValueType.TheVariants.{I32}
use Rattle.wa_ops.specs.Sequences.{Sequence, done, plain, block, loop, if_then, if_else, Nesting, nesting, stands}
use Rattle.wa_ops.specs.Sequences.{IsTree, flat, Reads, size}
use Rattle.wa_ops.specs.Typing.{Context, Stack, Typing, leaves, fails, fresh, pop, pop_result, push_result, and_then}
use Rattle.wa_ops.specs.Typing.{no_slots, is_empty, effect, go_on, after_region, no_result, types}
use Rattle.wa_validate.specs.declared.body.Verdict.{Verdict}
use Rattle.wa_validate.specs.declared.body.Verdict.TheVariants.{Typed, Untyped}
use Rattle.wa_validate.specs.declared.depth.Depth.{Depth}
use Rattle.wa_validate.specs.declared.region.Region.{Region}
use Rattle.wa_validate.specs.declared.open_regions.OpenRegions.{OpenRegions}
use Rattle.wa_validate.specs.Depths.{surface, deeper, depth_at, depth_on, peak, body_depth}
use Rattle.wa_validate.specs.Steps.{begun, with_operands, ended, turned, closed, lacks_else, step, step_by}
use Rattle.wa_validate.specs.Untyped.{body_typing}
use Rattle.wa_validate.specs.Verdicts.{verdict_of}

abbrev pub on_step : ℕ → Option OpenRegions → (OpenRegions → Verdict) → Verdict
on_step place None next = Untyped place
on_step place (Some r) next = next r

abbrev pub on_typing : Typing → (Stack → Verdict) → Verdict
on_typing (fails place) next = Untyped place
on_typing (leaves stack) next = next stack

abbrev pub depth_of : OpenRegions → Depth
depth_of r = depth_at r.labels r.inner.below r.inner.operands

abbrev pub verdict : Context → List Op → ℕ → OpenRegions → Depth → Verdict
verdict context [] place r most = Typed most
verdict context (op ∷ ops) place r most =
    on_step place (step context op r) (λ next. verdict context ops (place + 1) next (deeper most (depth_of r)))

-- the same where the depth at this place is counted already
abbrev pub counted : Context → Op → List Op → ℕ → OpenRegions → Depth → Verdict
counted context op ops place r most =
    on_step place (step context op r) (λ next. verdict context ops (place + 1) next most)

-- in a region with these operands
abbrev pub within : List (Option ValueType) → Region → List Region → Stack → OpenRegions
within labels region around stack = record {
  labels = labels;
  inner = record region { operands = stack };
  around = around;
}

abbrev pub depth_by : ℕ → ℕ → Depth
depth_by operands labels = record { operands = operands; labels = labels }

pub same_depth : (a b : Depth) → a.operands ≡ b.operands → a.labels ≡ b.labels → a ≡ b
same_depth a b p q = ap (λ n. depth_by n a.labels) p ∙ ap (depth_by b.operands) q

pub deeper_assoc : (a b c : Depth) → deeper (deeper a b) c ≡ deeper a (deeper b c)
deeper_assoc a b c = same_depth (deeper (deeper a b) c) (deeper a (deeper b c)) (omega arith) (omega arith)

pub above_surface : (a : Depth) → deeper surface a ≡ a
above_surface a = same_depth (deeper surface a) a (omega arith) (omega arith)

-- what code comes to where it is followed by this instruction
abbrev pub behind : Context → Op → List Op → List (Option ValueType) → Region → List Region → Typing → ℕ → Depth →
    Verdict
behind context op ops labels region around t place most =
    on_typing t (λ stack. counted context op ops place (within labels region around stack) most)

pub end_case : (o : Option Stack) (r : OpenRegions) (go : OpenRegions → Option OpenRegions) (place : ℕ)
    (next : OpenRegions → Verdict) (t : Typing) (k : Stack → Verdict) →
    ((left : Stack) → on_step place (go (with_operands left r)) next ≡ on_typing t k) →
    on_step place (and_then (and_then o (λ left. if no_slots left.slots then Some (with_operands left r) else None)) go)
    next ≡ on_typing (if is_empty o then t else fails place) k
end_case None r go place next t k h = refl
end_case (Some left) r go place next t k h = pick (no_slots left.slots)
  where
    pick : (b : Bool) →
        on_step place (and_then (if b then Some (with_operands left r) else None) go) next
        ≡ on_typing (if b then t else fails place) k
    pick true = h left
    pick false = refl

pub region_case : (typing : Typing) (r : Stack → OpenRegions) (result : Option ValueType)
    (go : OpenRegions → Option OpenRegions) (place : ℕ) (next : OpenRegions → Verdict) (t : Typing)
    (k : Stack → Verdict) →
    ((out left : Stack) → on_step place (go (with_operands left (r out))) next ≡ on_typing t k) →
    on_typing typing (λ out.
    on_step place (and_then
    (and_then (pop_result result out) (λ left. if no_slots left.slots then Some (with_operands left (r out)) else None))
    go) next)
    ≡ on_typing (after_region result place typing t) k
region_case (fails failure) r result go place next t k h = refl
region_case (leaves out) r result go place next t k h =
    end_case (pop_result result out) (r out) go place next t k (h out)

pub plain_case : (context : Context) (o : Option Stack) (op : Op) (ops code : List Op)
    (labels : List (Option ValueType)) (region : Region) (around : List Region) (place next : ℕ)
    (most here : Depth) (after : Stack → Typing) (deep : Stack → Depth) →
    ((stack : Stack) →
    verdict context code (place + 1) (within labels region around stack) (deeper most here)
    ≡ behind context op ops labels region around (after stack) next (deeper (deeper most here) (deep stack))) →
    on_step place (and_then o (λ stack. Some (within labels region around stack)))
    (λ r. verdict context code (place + 1) r (deeper most here))
    ≡ behind context op ops labels region around (go_on place o after) next
    (deeper most (deeper here (depth_on o deep)))
plain_case context None op ops code labels region around place next most here after deep h = refl
plain_case context (Some stack) op ops code labels region around place next most here after deep h =
    h stack
    ∙ ap (λ d. behind context op ops labels region around (after stack) next d) (deeper_assoc most here (deep stack))

pub behind_at : (context : Context) (op : Op) (ops : List Op) (labels : List (Option ValueType)) (region : Region)
    (around : List Region) (t : Typing) (place next : ℕ) (most more : Depth) → place ≡ next → most ≡ more →
    behind context op ops labels region around t place most ≡ behind context op ops labels region around t next more
behind_at context op ops labels region around t place next most more e d =
    ap (λ p. behind context op ops labels region around t p most) e
    ∙ ap (λ m. behind context op ops labels region around t next m) d

-- an operand is taken first
pub popped_case : (o : Option Stack) (place : ℕ) (go : Stack → OpenRegions) (next : OpenRegions → Verdict)
    (after : Stack → Typing) (k : Stack → Depth → Verdict) (deep : Stack → Depth) →
    ((stack : Stack) → next (go stack) ≡ on_typing (after stack) (λ out. k out (deep stack))) →
    on_step place (and_then o (λ stack. Some (go stack))) next
    ≡ on_typing (go_on place o after) (λ out. k out (depth_on o deep))
popped_case None place go next after k deep h = refl
popped_case (Some stack) place go next after k deep h = h stack

-- an `if` that ends without an `else`
pub if_end : (result : Option ValueType) (r : OpenRegions) (place : ℕ) (next : OpenRegions → Verdict) (t : Typing)
    (k : Stack → Verdict) →
    (result ≡ None → next r ≡ on_typing t k) →
    on_step place (if lacks_else true result then None else Some r) next ≡ on_typing (no_result result place t) k
if_end None r place next t k h = h refl
if_end (Some kind) r place next t k h = refl

pub pushed_none : (result : Option ValueType) (stack : Stack) → result ≡ None → push_result result stack ≡ stack
pushed_none None stack e = refl
pushed_none (Some kind) stack e = absurd cc

-- what `walk` says of this code
abbrev pub Walks : Context → Sequence → Op → List Op → ℕ → List (Option ValueType) → Region → List Region → Stack →
    Depth → Type 0
Walks context code op ops place labels region around stack most =
    verdict context (flat code (op ∷ ops)) place (within labels region around stack) most
    ≡ behind context op ops labels region around (types context labels code place stack) (place + size code)
    (deeper most (peak context labels code region.below stack))

-- the code behind a region
pub rest_case : (context : Context) (rest : Sequence) (op : Op) (ops : List Op) (begin place last : ℕ)
    (labels : List (Option ValueType)) (region : Region) (around : List Region) (stack : Stack) (most all : Depth) →
    begin ≡ place → place + size rest ≡ last → deeper most (peak context labels rest region.below stack) ≡ all →
    Walks context rest op ops place labels region around stack most →
    verdict context (flat rest (op ∷ ops)) begin (within labels region around stack) most
    ≡ behind context op ops labels region around (types context labels rest place stack) last all
rest_case context rest op ops begin place last labels region around stack most all p q d w =
    ap (λ n. verdict context (flat rest (op ∷ ops)) n (within labels region around stack) most) p ∙ w
    ∙ behind_at context op ops labels region around (types context labels rest place stack) (place + size rest) last
    (deeper most (peak context labels rest region.below stack)) all q d

pub three : (most here a b : Depth) → deeper (deeper (deeper most here) a) b ≡ deeper most (deeper here (deeper a b))
three most here a b = deeper_assoc (deeper most here) a b ∙ deeper_assoc most here (deeper a b)

pub four : (most here a b c : Depth) →
    deeper (deeper (deeper (deeper most here) a) b) c ≡ deeper most (deeper here (deeper a (deeper b c)))
four most here a b c = deeper_assoc (deeper (deeper most here) a) b c ∙ three most here a (deeper b c)

-- a region that begins within another
abbrev pub region_in : Bool → Option ValueType → ℕ → Stack → Region
region_in first_arm result below stack = record {
  first_arm = first_arm;
  result = result;
  below = below + length stack.slots;
  operands = fresh;
}

-- a block or a loop, with this label
pub plain_region : (context : Context) (label result : Option ValueType) (body rest : Sequence) (op : Op)
    (ops : List Op) (place : ℕ) (labels : List (Option ValueType)) (region : Region) (around : List Region)
    (stack : Stack) (most here : Depth) →
    Walks context body End (flat rest (op ∷ ops)) (place + 1) (label ∷ labels)
    (region_in false result region.below stack) (record region { operands = stack } ∷ around) fresh (deeper most here) →
    ((d : Depth) → Walks context rest op ops (place + 2 + size body) labels region around (push_result result stack) d)
    →
    verdict context (flat body (End ∷ flat rest (op ∷ ops))) (place + 1) (within (label ∷ labels)
    (region_in false result region.below stack) (record region { operands = stack } ∷ around) fresh) (deeper most here)
    ≡ behind context op ops labels region around
    (after_region result (place + 1 + size body) (types context (label ∷ labels) body (place + 1) fresh)
    (types context labels rest (place + 2 + size body) (push_result result stack)))
    (place + (2 + size body + size rest))
    (deeper most (deeper here (deeper (peak context (label ∷ labels) body (region.below + length stack.slots) fresh)
    (peak context labels rest region.below (push_result result stack)))))
plain_region context label result body rest op ops place labels region around stack most here inside after =
    let deep : Depth = peak context (label ∷ labels) body (region.below + length stack.slots) fresh in
    let last : Depth = peak context labels rest region.below (push_result result stack) in
    inside
    ∙ region_case (types context (label ∷ labels) body (place + 1) fresh)
    (within (label ∷ labels) (region_in false result region.below stack) (record region { operands = stack } ∷ around))
    result closed (place + 1 + size body)
    (λ r. verdict context (flat rest (op ∷ ops)) (place + 1 + size body + 1) r (deeper (deeper most here) deep))
    (types context labels rest (place + 2 + size body) (push_result result stack))
    (λ out.
    counted context op ops (place + (2 + size body + size rest)) (within labels region around out)
    (deeper most (deeper here (deeper deep last))))
    (λ out left. rest_case context rest op ops (place + 1 + size body + 1) (place + 2 + size body)
    (place + (2 + size body + size rest)) labels region around (push_result result stack)
    (deeper (deeper most here) deep) (deeper most (deeper here (deeper deep last))) (omega arith) (omega arith)
    (three most here deep last) (after (deeper (deeper most here) deep)))

-- an `if` without an `else`, behind its operand
pub one_arm : (context : Context) (result : Option ValueType) (body rest : Sequence) (op : Op) (ops : List Op)
    (place : ℕ) (labels : List (Option ValueType)) (region : Region) (around : List Region) (stack : Stack)
    (most here : Depth) →
    Walks context body End (flat rest (op ∷ ops)) (place + 1) (result ∷ labels)
    (region_in true result region.below stack) (record region { operands = stack } ∷ around) fresh (deeper most here) →
    ((d : Depth) → Walks context rest op ops (place + 2 + size body) labels region around stack d) →
    verdict context (flat body (End ∷ flat rest (op ∷ ops))) (place + 1) (within (result ∷ labels)
    (region_in true result region.below stack) (record region { operands = stack } ∷ around) fresh) (deeper most here)
    ≡ behind context op ops labels region around
    (after_region result (place + 1 + size body) (types context (result ∷ labels) body (place + 1) fresh)
    (no_result result (place + 1 + size body) (types context labels rest (place + 2 + size body) stack)))
    (place + (2 + size body + size rest))
    (deeper most (deeper here (deeper (peak context (result ∷ labels) body (region.below + length stack.slots) fresh)
    (peak context labels rest region.below stack))))
one_arm context result body rest op ops place labels region around stack most here inside after =
    let deep : Depth = peak context (result ∷ labels) body (region.below + length stack.slots) fresh in
    let last : Depth = peak context labels rest region.below stack in
    let next : OpenRegions → Verdict =
    λ r. verdict context (flat rest (op ∷ ops)) (place + 1 + size body + 1) r (deeper (deeper most here) deep) in
    let k : Stack → Verdict =
    λ out.
    counted context op ops (place + (2 + size body + size rest)) (within labels region around out)
    (deeper most (deeper here (deeper deep last))) in
    inside
    ∙ region_case (types context (result ∷ labels) body (place + 1) fresh)
    (within (result ∷ labels) (region_in true result region.below stack) (record region { operands = stack } ∷ around))
    result closed (place + 1 + size body)
    next (no_result result (place + 1 + size body) (types context labels rest (place + 2 + size body) stack)) k
    (λ out left. if_end result (within labels region around (push_result result stack)) (place + 1 + size body) next
    (types context labels rest (place + 2 + size body) stack) k
    (λ none. ap (λ s. next (within labels region around s)) (pushed_none result stack none)
    ∙ rest_case context rest op ops (place + 1 + size body + 1) (place + 2 + size body)
    (place + (2 + size body + size rest)) labels region around stack
    (deeper (deeper most here) deep) (deeper most (deeper here (deeper deep last))) (omega arith) (omega arith)
    (three most here deep last) (after (deeper (deeper most here) deep))))

-- an `if` with an `else`, behind its operand
pub two_arms : (context : Context) (result : Option ValueType) (first second rest : Sequence) (op : Op) (ops : List Op)
    (place : ℕ) (labels : List (Option ValueType)) (region : Region) (around : List Region) (stack : Stack)
    (most here : Depth) →
    Walks context first Else (flat second (End ∷ flat rest (op ∷ ops))) (place + 1) (result ∷ labels)
    (region_in true result region.below stack) (record region { operands = stack } ∷ around) fresh (deeper most here) →
    ((d : Depth) →
    Walks context second End (flat rest (op ∷ ops)) (place + 2 + size first) (result ∷ labels)
    (region_in false result region.below stack) (record region { operands = stack } ∷ around) fresh d) →
    ((d : Depth) →
    Walks context rest op ops (place + 3 + size first + size second) labels region around (push_result result stack) d)
    →
    verdict context (flat first (Else ∷ flat second (End ∷ flat rest (op ∷ ops)))) (place + 1)
    (within (result ∷ labels) (region_in true result region.below stack) (record region { operands = stack } ∷ around)
    fresh) (deeper most here)
    ≡ behind context op ops labels region around
    (after_region result (place + 1 + size first) (types context (result ∷ labels) first (place + 1) fresh)
    (after_region result (place + 2 + size first + size second)
    (types context (result ∷ labels) second (place + 2 + size first) fresh)
    (types context labels rest (place + 3 + size first + size second) (push_result result stack))))
    (place + (3 + size first + size second + size rest))
    (deeper most (deeper here (deeper (peak context (result ∷ labels) first (region.below + length stack.slots) fresh)
    (deeper (peak context (result ∷ labels) second (region.below + length stack.slots) fresh)
    (peak context labels rest region.below (push_result result stack))))))
two_arms context result first second rest op ops place labels region around stack most here inside other after =
    let one : Depth = peak context (result ∷ labels) first (region.below + length stack.slots) fresh in
    let two : Depth = peak context (result ∷ labels) second (region.below + length stack.slots) fresh in
    let last : Depth = peak context labels rest region.below (push_result result stack) in
    let outside : List Region = record region { operands = stack } ∷ around in
    let ending : Typing = types context labels rest (place + 3 + size first + size second) (push_result result stack) in
    let k : Stack → Verdict =
    λ out.
    counted context op ops (place + (3 + size first + size second + size rest)) (within labels region around out)
    (deeper most (deeper here (deeper one (deeper two last)))) in
    inside
    ∙ region_case (types context (result ∷ labels) first (place + 1) fresh)
    (within (result ∷ labels) (region_in true result region.below stack) outside) result turned (place + 1 + size first)
    (λ r.
    verdict context (flat second (End ∷ flat rest (op ∷ ops))) (place + 1 + size first + 1) r
    (deeper (deeper most here) one))
    (after_region result (place + 2 + size first + size second)
    (types context (result ∷ labels) second (place + 2 + size first) fresh) ending) k
    (λ out left.
    rest_case context second End (flat rest (op ∷ ops)) (place + 1 + size first + 1) (place + 2 + size first)
    (place + 2 + size first + size second) (result ∷ labels) (region_in false result region.below stack) outside fresh
    (deeper (deeper most here) one) (deeper (deeper (deeper most here) one) two) (omega arith) refl refl
    (other (deeper (deeper most here) one))
    ∙ region_case (types context (result ∷ labels) second (place + 2 + size first) fresh)
    (within (result ∷ labels) (region_in false result region.below stack) outside) result closed
    (place + 2 + size first + size second)
    (λ r.
    verdict context (flat rest (op ∷ ops)) (place + 2 + size first + size second + 1) r
    (deeper (deeper (deeper most here) one) two)) ending k
    (λ out left. rest_case context rest op ops (place + 2 + size first + size second + 1)
    (place + 3 + size first + size second) (place + (3 + size first + size second + size rest)) labels region around
    (push_result result stack)
    (deeper (deeper (deeper most here) one) two) (deeper most (deeper here (deeper one (deeper two last))))
    (omega arith) (omega arith) (four most here one two last) (after (deeper (deeper (deeper most here) one) two))))

-- code that is followed by an instruction comes to what its tree's typing says, and then to what that instruction does
pub walk : (context : Context) (code : Sequence) (op : Op) (ops : List Op) (place : ℕ)
    (labels : List (Option ValueType)) (region : Region) (around : List Region) (stack : Stack) (most : Depth) →
    IsTree code →
    Walks context code op ops place labels region around stack most
walk context done op ops place labels region around stack most t =
    ap (λ p.
    counted context op ops p (within labels region around stack) (deeper most (depth_at labels region.below stack)))
    (let e : place ≡ place + 0 = omega arith in e)
walk context (plain instruction rest) op ops place labels region around stack most t =
    let here : Depth = depth_at labels region.below stack in
    ap (λ n.
    on_step place (step_by n context instruction (within labels region around stack))
    (λ r. verdict context (flat rest (op ∷ ops)) (place + 1) r (deeper most here))) t.0
    ∙ plain_case context (effect context labels instruction stack) op ops (flat rest (op ∷ ops)) labels region around
    place (place + (1 + size rest)) most here
    (types context labels rest (place + 1)) (peak context labels rest region.below)
    (λ s. rest_case context rest op ops (place + 1) (place + 1) (place + (1 + size rest)) labels region around s
    (deeper most here) (deeper (deeper most here) (peak context labels rest region.below s)) refl (omega arith) refl
    (walk context rest op ops (place + 1) labels region around s (deeper most here) t.1))
walk context (block result body rest) op ops place labels region around stack most t =
    let here : Depth = depth_at labels region.below stack in
    plain_region context result result body rest op ops place labels region around stack most here
    (walk context body End (flat rest (op ∷ ops)) (place + 1) (result ∷ labels)
    (region_in false result region.below stack) (record region { operands = stack } ∷ around) fresh (deeper most here)
    t.0)
    (λ d. walk context rest op ops (place + 2 + size body) labels region around (push_result result stack) d t.1)
walk context (loop result body rest) op ops place labels region around stack most t =
    let here : Depth = depth_at labels region.below stack in
    plain_region context None result body rest op ops place labels region around stack most here
    (walk context body End (flat rest (op ∷ ops)) (place + 1) (None ∷ labels)
    (region_in false result region.below stack) (record region { operands = stack } ∷ around) fresh (deeper most here)
    t.0)
    (λ d. walk context rest op ops (place + 2 + size body) labels region around (push_result result stack) d t.1)
walk context (if_then result body rest) op ops place labels region around stack most t =
    let here : Depth = depth_at labels region.below stack in
    popped_case (pop I32 stack) place (λ left.
    within (result ∷ labels) (region_in true result region.below left) (record region { operands = left } ∷ around)
    fresh)
    (λ r. verdict context (flat body (End ∷ flat rest (op ∷ ops))) (place + 1) r (deeper most here))
    (λ left.
    after_region result (place + 1 + size body) (types context (result ∷ labels) body (place + 1) fresh)
    (no_result result (place + 1 + size body) (types context labels rest (place + 2 + size body) left)))
    (λ out d.
    counted context op ops (place + (2 + size body + size rest)) (within labels region around out)
    (deeper most (deeper here d)))
    (λ left.
    deeper (peak context (result ∷ labels) body (region.below + length left.slots) fresh)
    (peak context labels rest region.below left))
    (λ left. one_arm context result body rest op ops place labels region around left most here
    (walk context body End (flat rest (op ∷ ops)) (place + 1) (result ∷ labels)
    (region_in true result region.below left) (record region { operands = left } ∷ around) fresh (deeper most here) t.0)
    (λ d. walk context rest op ops (place + 2 + size body) labels region around left d t.1))
walk context (if_else result first second rest) op ops place labels region around stack most t =
    let here : Depth = depth_at labels region.below stack in
    popped_case (pop I32 stack) place (λ left.
    within (result ∷ labels) (region_in true result region.below left) (record region { operands = left } ∷ around)
    fresh)
    (λ r.
    verdict context (flat first (Else ∷ flat second (End ∷ flat rest (op ∷ ops)))) (place + 1) r (deeper most here))
    (λ left. after_region result (place + 1 + size first) (types context (result ∷ labels) first (place + 1) fresh)
    (after_region result (place + 2 + size first + size second)
    (types context (result ∷ labels) second (place + 2 + size first) fresh)
    (types context labels rest (place + 3 + size first + size second) (push_result result left))))
    (λ out d.
    counted context op ops (place + (3 + size first + size second + size rest)) (within labels region around out)
    (deeper most (deeper here d)))
    (λ left. deeper (peak context (result ∷ labels) first (region.below + length left.slots) fresh)
    (deeper (peak context (result ∷ labels) second (region.below + length left.slots) fresh)
    (peak context labels rest region.below (push_result result left))))
    (λ left. two_arms context result first second rest op ops place labels region around left most here
    (walk context first Else (flat second (End ∷ flat rest (op ∷ ops))) (place + 1) (result ∷ labels)
    (region_in true result region.below left) (record region { operands = left } ∷ around) fresh (deeper most here) t.0)
    (λ d.
    walk context second End (flat rest (op ∷ ops)) (place + 2 + size first) (result ∷ labels)
    (region_in false result region.below left) (record region { operands = left } ∷ around) fresh d t.1)
    (λ d.
    walk context rest op ops (place + 3 + size first + size second) labels region around (push_result result left) d
    t.2))

pub settled : (t : Typing) (depth : Depth) → on_typing t (λ stack. Typed depth) ≡ verdict_of t depth
settled (fails place) depth = refl
settled (leaves stack) depth = refl

-- flat code comes to what the typing of its tree says
pub body_walk : (context : Context) (ops : List Op) (body : Sequence) → Reads ops body →
    verdict context ops 0 (begun context.result) surface
    ≡ verdict_of (body_typing context body) (body_depth context body)
body_walk context ops body r =
    let inner : Region = record { first_arm = false; result = context.result; below = 0; operands = fresh } in
    ap (λ os. verdict context os 0 (begun context.result) surface) r.instructions
    ∙ walk context body End [] 0 (context.result ∷ []) inner [] fresh surface r.tree
    ∙ ap (λ p.
    behind context End [] (context.result ∷ []) inner [] (types context (context.result ∷ []) body 0 fresh) p
    (deeper surface (body_depth context body))) (let e : 0 + size body ≡ size body = omega arith in e)
    ∙ region_case (types context (context.result ∷ []) body 0 fresh) (within (context.result ∷ []) inner [])
    context.result closed (size body)
    (λ r. verdict context [] (size body + 1) r (deeper surface (body_depth context body)))
    (leaves fresh) (λ stack. Typed (body_depth context body))
    (λ out left. ap Typed (above_surface (body_depth context body)))
    ∙ settled (body_typing context body) (body_depth context body)
