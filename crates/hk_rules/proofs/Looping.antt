-- Going over flat code finds the loops of its tree.
use Rattle.std.proofs.Common.{ℕ, ◌≡◌, ◌+◌, ◌<◌, ◌≤◌, suc, zero, List, [], ◌∷◌, ◌++◌, ◌∙◌, Bool, true, false, Option}
use Rattle.std.proofs.Common.{Some, None, refl, sym, ap, ap₂, length, get_or, drop, length-append, arith}
use Rattle.std.specs.Prelude.{slice_get, map, option_map}
use Rattle.std.proofs.lemmas.List.{append_assoc, append-nil}
use Rattle.std.proofs.Math.ListN.{drop_of_length-le}
use Rattle.wa_ops.specs.declared.modules.Code.{Code}
use Rattle.wa_ops.specs.declared.op.Op.{Op}
use Rattle.wa_ops.specs.declared.op.Op.TheVariants.{Loop, Else, End, I32Const}
use Rattle.wa_ops.specs.Bound.{loops}
use Rattle.wa_ops.specs.Ends.{behind}
use Rattle.wa_ops.specs.HookRules.{is_loop}
use Rattle.wa_ops.specs.Sequences.{Sequence, done, plain, block, loop, if_then, if_else, Nesting, opens_block}
use Rattle.wa_ops.specs.Sequences.{opens_loop, opens_if, turns, closes, nesting, stands, IsTree, flat, Reads, IsNested}
use Rattle.wa_ops.proofs.Parsing.{found_tree}
use Rattle.wa_ops.proofs.Places.{read_drop}
use Rattle.hk_rules.specs.declared.guards.LoopGuard.{LoopGuard}
use Rattle.hk_rules.specs.declared.guards.FunctionGuards.{FunctionGuards}
use Rattle.hk_rules.specs.Loops.{loop_guard, loop_guards, innermost, body_guards, code_guards}
use Rattle.hk_rules.specs.Passing.{Open, guard_by, number_in, passed}

-- ---- loops in order of place

abbrev pub put_loop : Bool → LoopGuard → List LoopGuard → List LoopGuard
put_loop true guard more = guard ∷ more
put_loop false guard more = more

-- the loops of flat code that begins at this place
abbrev pub found_loops : List Op → ℕ → List LoopGuard
found_loops [] at = []
found_loops (op ∷ ops) at =
    put_loop (is_loop op) (guard_by at (number_in (slice_get ops 0)) (number_in (slice_get ops 1)))
    (found_loops ops (at + 1))

-- the numbers of a guard are the first two constants of the body
pub head_numbers : (body : Sequence) (at : ℕ) (after : List Op) →
    guard_by at (number_in (slice_get (flat body (End ∷ after)) 0)) (number_in (slice_get (flat body (End ∷ after)) 1))
    ≡ loop_guard body at
head_numbers (plain (I32Const id) (plain (I32Const limit) rest)) at after = refl
head_numbers body at after = refl

pub stands_no_loop : (op : Op) → nesting op ≡ stands → is_loop op ≡ false
stands_no_loop (Loop result) e = absurd (cc e)
stands_no_loop op e = refl

two_parts : (front middle more whole rest : List LoopGuard) → whole ≡ front ++ rest → rest ≡ middle ++ more →
    whole ≡ (front ++ middle) ++ more
two_parts front middle more whole rest e f = e ∙ ap (λ xs. front ++ xs) f ∙ sym (append_assoc front middle more)

pub found_flat : (code : Sequence) (at : ℕ) (after : List Op) → IsTree code →
    found_loops (flat code after) at ≡ loop_guards code at ++ found_loops after (behind code at)
found_flat done at after tree = refl
found_flat (plain op rest) at after tree =
    ap (λ b.
    put_loop b (guard_by at (number_in (slice_get (flat rest after) 0)) (number_in (slice_get (flat rest after) 1)))
    (found_loops (flat rest after) (at + 1))) (stands_no_loop op tree.0)
    ∙ found_flat rest (at + 1) after tree.1
found_flat (block result body rest) at after tree =
    two_parts _ _ _ _ _ (found_flat body (at + 1) (End ∷ flat rest after) tree.0)
    (found_flat rest (behind body (at + 1) + 1) after tree.1)
found_flat (loop result body rest) at after tree =
    ap₂ (λ x xs. x ∷ xs) (head_numbers body at (flat rest after))
    (two_parts _ _ _ _ _ (found_flat body (at + 1) (End ∷ flat rest after) tree.0)
    (found_flat rest (behind body (at + 1) + 1) after tree.1))
found_flat (if_then result body rest) at after tree =
    two_parts _ _ _ _ _ (found_flat body (at + 1) (End ∷ flat rest after) tree.0)
    (found_flat rest (behind body (at + 1) + 1) after tree.1)
found_flat (if_else result first second rest) at after tree =
    two_parts _ _ _ _ _
    (two_parts _ _ _ _ _ (found_flat first (at + 1) (Else ∷ flat second (End ∷ flat rest after)) tree.0)
    (found_flat second (behind first (at + 1) + 1) (End ∷ flat rest after) tree.1))
    (found_flat rest (behind second (behind first (at + 1) + 1) + 1) after tree.2)

-- ---- the innermost loop

abbrev pub marks : List Op → Open → List (Option ℕ)
marks [] here = []
marks (op ∷ ops) here = here.inner ∷ marks ops (passed (nesting op) here)

abbrev pub opened : Option ℕ → List (Option ℕ) → ℕ → Open
opened inner around count = record { inner = inner; around = around; count = count }

pub marks_flat : (code : Sequence) (inner : Option ℕ) (around : List (Option ℕ)) (count : ℕ) (after : List Op) →
    IsTree code
    → marks (flat code after) (opened inner around count)
    ≡ innermost inner count code (marks after (opened inner around (count + length (loops 0 code))))
marks_flat done inner around count after tree =
    let e : count ≡ count + 0 = omega arith in ap (λ n. marks after (opened inner around n)) e
marks_flat (plain op rest) inner around count after tree =
    ap (λ n. inner ∷ marks (flat rest after) (passed n (opened inner around count))) tree.0
    ∙ ap (λ xs. inner ∷ xs) (marks_flat rest inner around count after tree.1)
marks_flat (block result body rest) inner around count after tree =
    let n : count + length (loops 0 body) + length (loops 0 rest) ≡ count + length (loops 0 body ++ loops 0 rest) =
    omega (arith, length-append (loops 0 body) (loops 0 rest)) in
    ap (λ xs. inner ∷ xs) (marks_flat body inner (inner ∷ around) count (End ∷ flat rest after) tree.0)
    ∙ ap (λ xs. inner ∷ innermost inner count body (inner ∷ xs)) (marks_flat rest inner around
    (count + length (loops 0 body)) after tree.1
    ∙ ap (λ k. innermost inner (count + length (loops 0 body)) rest (marks after (opened inner around k))) n)
marks_flat (loop result body rest) inner around count after tree =
    let n : count + 1 + length (loops 0 body) + length (loops 0 rest)
    ≡ count + suc (length (loops 0 body ++ loops 0 rest)) =
    omega (arith, length-append (loops 0 body) (loops 0 rest)) in
    ap (λ xs. inner ∷ xs) (marks_flat body (Some count) (inner ∷ around) (count + 1) (End ∷ flat rest after) tree.0)
    ∙ ap (λ xs. inner ∷ innermost (Some count) (count + 1) body (Some count ∷ xs)) (marks_flat rest inner around
    (count + 1 + length (loops 0 body)) after tree.1
    ∙ ap (λ k. innermost inner (count + 1 + length (loops 0 body)) rest (marks after (opened inner around k))) n)
marks_flat (if_then result body rest) inner around count after tree =
    let n : count + length (loops 0 body) + length (loops 0 rest) ≡ count + length (loops 0 body ++ loops 0 rest) =
    omega (arith, length-append (loops 0 body) (loops 0 rest)) in
    ap (λ xs. inner ∷ xs) (marks_flat body inner (inner ∷ around) count (End ∷ flat rest after) tree.0)
    ∙ ap (λ xs. inner ∷ innermost inner count body (inner ∷ xs)) (marks_flat rest inner around
    (count + length (loops 0 body)) after tree.1
    ∙ ap (λ k. innermost inner (count + length (loops 0 body)) rest (marks after (opened inner around k))) n)
marks_flat (if_else result first second rest) inner around count after tree =
    let n : count + length (loops 0 first) + length (loops 0 second) + length (loops 0 rest)
    ≡ count + length (loops 0 first ++ loops 0 second ++ loops 0 rest) =
    omega (
      arith,
      length-append (loops 0 first) (loops 0 second),
      length-append (loops 0 first ++ loops 0 second) (loops 0 rest),
    ) in
    ap (λ xs. inner ∷ xs)
    (marks_flat first inner (inner ∷ around) count (Else ∷ flat second (End ∷ flat rest after)) tree.0)
    ∙ ap (λ xs. inner ∷ innermost inner count first (inner ∷ xs)) (marks_flat second inner (inner ∷ around)
    (count + length (loops 0 first)) (End ∷ flat rest after) tree.1
    ∙ ap (λ xs. innermost inner (count + length (loops 0 first)) second (inner ∷ xs)) (marks_flat rest inner around
    (count + length (loops 0 first) + length (loops 0 second)) after tree.2
    ∙ ap (λ k.
    innermost inner (count + length (loops 0 first) + length (loops 0 second)) rest
    (marks after (opened inner around k))) n))

-- ---- the loops over flat code

pub get_dropped : (ops : List Op) (n k : ℕ) → slice_get (drop n ops) k ≡ slice_get ops (n + k)
get_dropped ops zero k = let e : k ≡ 0 + k = omega arith in ap (slice_get ops) e
get_dropped [] (suc n) k = let e : suc (n + k) ≡ suc n + k = omega arith in ap (slice_get []) e
get_dropped (op ∷ ops) (suc n) k =
    let e : suc (n + k) ≡ suc n + k = omega arith in get_dropped ops n k ∙ ap (slice_get (op ∷ ops)) e

-- what was found and what is still found come to what all has
abbrev pub Found : List Op → ℕ → List LoopGuard → Type 0
Found ops place guards = guards ++ found_loops (drop place ops) place ≡ found_loops ops 0

pub found_none : (ops : List Op) → Found ops 0 []
found_none ops = refl

found_here : (ops : List Op) (i : ℕ) (op : Op) (guard : LoopGuard) (b : Bool) → i < length ops → op ≡ get_or ops i op →
    is_loop op ≡ b
    → guard ≡ guard_by i (number_in (slice_get ops (i + 1))) (number_in (slice_get ops (i + 2)))
    → found_loops (drop i ops) i ≡ put_loop b guard (found_loops (drop (i + 1) ops) (i + 1))
found_here ops i op guard b h e is g =
    let one : slice_get (drop (i + 1) ops) 0 ≡ slice_get ops (i + 1) =
    get_dropped ops (i + 1) 0 ∙ (let n : i + 1 + 0 ≡ i + 1 = omega arith in ap (slice_get ops) n) in
    let two : slice_get (drop (i + 1) ops) 1 ≡ slice_get ops (i + 2) =
    get_dropped ops (i + 1) 1 ∙ (let n : i + 1 + 1 ≡ i + 2 = omega arith in ap (slice_get ops) n) in
    ap (λ os. found_loops os i) (read_drop ops i op h e)
    ∙ ap₂
    (λ x y. put_loop (is_loop op) (guard_by i (number_in x) (number_in y)) (found_loops (drop (i + 1) ops) (i + 1))) one
    two
    ∙ ap₂ (λ x y. put_loop x y (found_loops (drop (i + 1) ops) (i + 1))) is (sym g)

pub found_one : (ops : List Op) (i : ℕ) (op : Op) (guard : LoopGuard) (guards : List LoopGuard) → i < length ops →
    op ≡ get_or ops i op → is_loop op ≡ true
    → guard ≡ guard_by i (number_in (slice_get ops (i + 1))) (number_in (slice_get ops (i + 2))) → Found ops i guards →
    Found ops (i + 1) (guards ++ guard ∷ [])
found_one ops i op guard guards h e is g before =
    append_assoc guards (guard ∷ []) (found_loops (drop (i + 1) ops) (i + 1))
    ∙ ap (λ xs. guards ++ xs) (sym (found_here ops i op guard true h e is g))
    ∙ before

pub found_other : (ops : List Op) (i : ℕ) (op : Op) (guards : List LoopGuard) → i < length ops → op ≡ get_or ops i op →
    is_loop op ≡ false
    → Found ops i guards → Found ops (i + 1) guards
found_other ops i op guards h e is before =
    ap (λ xs. guards ++ xs) (sym (found_here ops i op _ false h e is refl)) ∙ before

pub found_all : (ops : List Op) (i : ℕ) (guards : List LoopGuard) (body : Sequence) → length ops ≤ i →
    Found ops i guards → Reads ops body → guards ≡ loop_guards body 0
found_all ops i guards body past found reads =
    sym (append-nil guards) ∙ ap (λ os. guards ++ found_loops os i) (sym (drop_of_length-le ops past)) ∙ found
    ∙ ap (λ os. found_loops os 0) reads.instructions
    ∙ found_flat body 0 (End ∷ []) reads.tree
    ∙ append-nil (loop_guards body 0)

pub record Marked (ops : List Op) (place : ℕ) (found : List (Option ℕ)) (here : Open) : Type 0 where
  pub all : found ++ marks (drop place ops) here ≡ marks ops (opened None [] 0)
  pub few : here.count ≤ place

pub marked_none : (ops : List Op) → Marked ops 0 [] (opened None [] 0)
marked_none ops = record { all = refl; few = omega arith }

passed_few : (n : Nesting) (here : Open) → (passed n here).count ≤ here.count + 1
passed_few (opens_block result) here = omega arith
passed_few (opens_loop result) here = omega arith
passed_few (opens_if result) here = omega arith
passed_few turns here = omega arith
passed_few closes here = omega arith
passed_few stands here = omega arith

pub marked_next : (ops : List Op) (i : ℕ) (op : Op) (found : List (Option ℕ)) (here : Open) → i < length ops →
    op ≡ get_or ops i op
    → Marked ops i found here → Marked ops (i + 1) (found ++ here.inner ∷ []) (passed (nesting op) here)
marked_next ops i op found here h e before = record {
  all = append_assoc found (here.inner ∷ []) (marks (drop (i + 1) ops) (passed (nesting op) here))
      ∙ ap (λ os. found ++ marks os here) (sym (read_drop ops i op h e)) ∙ before.all;
  few = let n : here.count ≤ i = before.few in omega (arith, n, passed_few (nesting op) here);
}

pub marked_all : (ops : List Op) (i : ℕ) (found : List (Option ℕ)) (here : Open) (body : Sequence) → length ops ≤ i →
    Marked ops i found here → Reads ops body
    → found ≡ innermost None 0 body (None ∷ [])
marked_all ops i found here body past marked reads =
    sym (append-nil found) ∙ ap (λ os. found ++ marks os here) (sym (drop_of_length-le ops past)) ∙ marked.all
    ∙ ap (λ os. marks os (opened None [] 0)) reads.instructions ∙ marks_flat body None [] 0 (End ∷ []) reads.tree

-- ---- the functions

abbrev pub Gathered : List Code → ℕ → List FunctionGuards → Type 0
Gathered codes index functions =
    map (λ guards. Some guards) functions ++ code_guards (drop index codes) ≡ code_guards codes

pub push_guards : (functions : List FunctionGuards) (guards : FunctionGuards) (more : List (Option FunctionGuards))
    → map (λ x. Some x) (functions ++ guards ∷ []) ++ more ≡ map (λ x. Some x) functions ++ (Some guards ∷ more)
push_guards [] guards more = refl
push_guards (first ∷ functions) guards more = ap (λ xs. Some first ∷ xs) (push_guards functions guards more)

pub gathered_next : (codes : List Code) (i : ℕ) (code : Code) (guards : FunctionGuards)
    (functions : List FunctionGuards) → i < length codes → code ≡ get_or codes i code
    → IsNested code.ops → ((body : Sequence) → Reads code.ops body → guards ≡ body_guards body)
    → Gathered codes i functions → Gathered codes (i + 1) (functions ++ guards ∷ [])
gathered_next codes i code guards functions h e nested is before =
    push_guards functions guards (code_guards (drop (i + 1) codes))
    ∙ ap (λ o. map (λ x. Some x) functions ++ (o ∷ code_guards (drop (i + 1) codes)))
    (ap Some (is nested.0 nested.1) ∙ sym (ap (option_map body_guards) (found_tree code.ops nested.0 nested.1)))
    ∙ ap (λ cs. map (λ x. Some x) functions ++ code_guards cs) (sym (read_drop codes i code h e))
    ∙ before

pub gathered_all : (codes : List Code) (i : ℕ) (functions : List FunctionGuards) → length codes ≤ i →
    Gathered codes i functions
    → map (λ guards. Some guards) functions ≡ code_guards codes
gathered_all codes i functions past before =
    sym (append-nil (map (λ x. Some x) functions))
    ∙ ap (λ cs. map (λ x. Some x) functions ++ code_guards cs) (sym (drop_of_length-le codes past))
    ∙ before
