-- The sum over flat code is the bound of its tree.
use Rattle.std.proofs.Common.{ℕ, ◌≡◌, ◌+◌, ◌*◌, ◌<◌, ◌≤◌, suc, zero, List, [], ◌∷◌, ◌++◌, ◌∙◌, Bool, true, false}
use Rattle.std.proofs.Common.{Option, Some, None, refl, sym, ap, ap₂, subst, length, get_or, drop, add-one}
use Rattle.std.proofs.Common.{length-append, arith}
use Rattle.std.specs.Prelude.{slice_get, map, option_map}
use Rattle.std.specs.Option.{option_map_or}
use Rattle.std.proofs.lemmas.List.{append_assoc, append-nil, map-append}
use Rattle.std.proofs.Math.ListN.{drop_of_length-le}
use Rattle.wa_ops.specs.declared.op.Op.{Op}
use Rattle.wa_ops.specs.declared.op.Op.TheVariants.{Block, Loop, If, Else, End, I32Const}
use Rattle.wa_ops.specs.Bound.{LoopCost, cost, loop_cost, loops, own, turns, last_pass, bound_at}
use Rattle.wa_ops.specs.Sequences.{Sequence, done, plain, block, loop, if_then, if_else, nesting, stands, IsTree, flat}
use Rattle.wa_ops.specs.Sequences.{Reads, IsNested, tree_of}
use Rattle.wa_ops.specs.Ends.{behind}
use Rattle.wa_ops.specs.declared.modules.Code.{Code}
use Rattle.wa_ops.proofs.Parsing.{found_tree}
use Rattle.wa_ops.proofs.Places.{read_drop}
use Rattle.wa_ops.specs.declared.modules.Module.{Module}
use Rattle.wa_ops.specs.Soundness.{Each, IsSound, IsSoundBody}
use Rattle.wa_ops.specs.Typing.{and_then}
use Rattle.hk_rules.specs.declared.guards.Guards.{Guards}
use Rattle.hk_bound.specs.Bounds.{bound_of}
use Rattle.std.proofs.lemmas.Option.{slice_get_read}
use Rattle.hk_rules.specs.declared.guards.LoopGuard.{LoopGuard}
use Rattle.hk_rules.specs.declared.guards.FunctionGuards.{FunctionGuards}
use Rattle.hk_rules.specs.Loops.{loop_guard, loop_guards, innermost, body_guards, code_guards}
use Rattle.hk_rules.specs.Passing.{first_around, others_around}
use Rattle.hk_bound.specs.Weights.{weight, counted, inner_of, total, last_turns}

-- ---- where the loops of a sequence stand among all loops

-- from this number on come these loops, by their limits
abbrev pub Stand : List LoopGuard → ℕ → List LoopCost → Type 0
Stand all count those =
    (i : ℕ) → i < length those →
    option_map (λ g. g.limit) (slice_get all (count + i)) ≡ option_map (λ l. l.limit) (slice_get those i)

get_left : {A : Type 0} (xs ys : List A) (i : ℕ) → i < length xs → slice_get (xs ++ ys) i ≡ slice_get xs i
get_left [] ys i h = absurd (omega (arith, h))
get_left (x ∷ xs) ys zero h = refl
get_left (x ∷ xs) ys (suc i) h = get_left xs ys i (omega (arith, h))

get_right : {A : Type 0} (xs ys : List A) (i : ℕ) → slice_get (xs ++ ys) (length xs + i) ≡ slice_get ys i
get_right [] ys i = let e : 0 + i ≡ i = omega arith in ap (slice_get ys) e
get_right (x ∷ xs) ys i =
    let e : suc (length xs) + i ≡ suc (length xs + i) = omega arith in
    ap (slice_get (x ∷ (xs ++ ys))) e ∙ get_right xs ys i

pub stand_left : (all : List LoopGuard) (count : ℕ) (xs ys : List LoopCost) → Stand all count (xs ++ ys) →
    Stand all count xs
stand_left all count xs ys s i h =
    s i (omega (arith, h, length-append xs ys)) ∙ ap (option_map (λ l. l.limit)) (get_left xs ys i h)

pub stand_right : (all : List LoopGuard) (count : ℕ) (xs ys : List LoopCost) → Stand all count (xs ++ ys) →
    Stand all (count + length xs) ys
stand_right all count xs ys s i h =
    let e : count + length xs + i ≡ count + (length xs + i) = omega arith in
    ap (λ n. option_map (λ g. g.limit) (slice_get all n)) e
    ∙ s (length xs + i) (omega (arith, h, length-append xs ys))
    ∙ ap (option_map (λ l. l.limit)) (get_right xs ys i)

pub stand_tail : (all : List LoopGuard) (count : ℕ) (x : LoopCost) (xs : List LoopCost) → Stand all count (x ∷ xs) →
    Stand all (count + 1) xs
stand_tail all count x xs s i h =
    let e : count + 1 + i ≡ count + suc i = omega arith in
    ap (λ n. option_map (λ g. g.limit) (slice_get all n)) e ∙ s (suc i) (omega (arith, h))

limit_found : (o : Option LoopGuard) (limit : ℕ) → option_map (λ g. g.limit) o ≡ Some limit →
    option_map_or (λ g. g.limit) o 0 ≡ limit
limit_found None limit e = absurd (cc e)
limit_found (Some guard) limit e = cc e

pub stand_weight : (all : List LoopGuard) (count : ℕ) (x : LoopCost) (xs : List LoopCost) → Stand all count (x ∷ xs) →
    weight all (Some count) ≡ x.limit
stand_weight all count x xs s =
    let e : count ≡ count + 0 = omega arith in
    limit_found (slice_get all count) x.limit
    (ap (λ n. option_map (λ g. g.limit) (slice_get all n)) e ∙ s 0 (omega arith))

-- ---- sums

pub spread_region : (t a b : ℕ) → t * (2 + a + b) ≡ t + t * a + t + t * b
spread_region t a b = omega arith

pub spread_node : (t a : ℕ) → t * (1 + a) ≡ t + t * a
spread_node t a = omega arith

pub turns_both : (xs ys : List LoopCost) → turns (xs ++ ys) ≡ turns xs + turns ys
turns_both [] ys = omega arith
turns_both (x ∷ xs) ys = omega (arith, turns_both xs ys)

spread_three : (t a b c : ℕ) → t * (2 + a + b + c) ≡ t + t * a + t * b + t + t * c
spread_three t a b c = omega arith

spread_own : (t a : ℕ) → t * (a + 1) ≡ t * a + t
spread_own t a = omega arith

cost_own : (body : Sequence) → (loop_cost 0 body).cost ≡ own 0 body
cost_own body = refl

stands_counted : (op : Op) (times : ℕ) → nesting op ≡ stands → counted op times ≡ times
stands_counted Else times e = absurd (cc e)
stands_counted op times e = refl

pub total_flat : (all : List LoopGuard) (code : Sequence) (around : Option ℕ) (count : ℕ) (after : List Op)
    (marks : List (Option ℕ)) → IsTree code → Stand all count (loops 0 code)
    → total all (flat code after) (innermost around count code marks)
    ≡ weight all around * cost 0 code + turns (loops 0 code) + total all after marks
total_flat all done around count after marks tree s = omega arith
total_flat all (plain op rest) around count after marks tree s =
    omega (
      arith,
      stands_counted op (weight all around) tree.0,
      total_flat all rest around count after marks tree.1 s,
      spread_node (weight all around) (cost 0 rest),
    )
total_flat all (block result body rest) around count after marks tree s =
    omega (
      arith,
      spread_region (weight all around) (cost 0 body) (cost 0 rest),
      turns_both (loops 0 body) (loops 0 rest),
      total_flat all body around count (End ∷ flat rest after)
          (around ∷ innermost around (count + length (loops 0 body)) rest marks) tree.0
          (stand_left all count (loops 0 body) (loops 0 rest) s),
      total_flat all rest around (count + length (loops 0 body)) after marks tree.1
          (stand_right all count (loops 0 body) (loops 0 rest) s),
    )
total_flat all (loop result body rest) around count after marks tree s =
    let inside : Stand all (count + 1) (loops 0 body ++ loops 0 rest) =
    stand_tail all count (loop_cost 0 body) (loops 0 body ++ loops 0 rest) s in
    let limit : weight all (Some count) ≡ (loop_cost 0 body).limit =
    stand_weight all count (loop_cost 0 body) (loops 0 body ++ loops 0 rest) s in
    omega (
      arith,
      spread_node (weight all around) (cost 0 rest),
      turns_both (loops 0 body) (loops 0 rest),
      limit,
      ap (λ n. n * cost 0 body) limit,
      ap (λ n. (loop_cost 0 body).limit * n) (cost_own body),
      spread_own (loop_cost 0 body).limit (cost 0 body),
      total_flat all body (Some count) (count + 1) (End ∷ flat rest after)
          (Some count ∷ innermost around (count + 1 + length (loops 0 body)) rest marks) tree.0
          (stand_left all (count + 1) (loops 0 body) (loops 0 rest) inside),
      total_flat all rest around (count + 1 + length (loops 0 body)) after marks tree.1
          (stand_right all (count + 1) (loops 0 body) (loops 0 rest) inside),
    )
total_flat all (if_then result body rest) around count after marks tree s =
    omega (
      arith,
      spread_region (weight all around) (cost 0 body) (cost 0 rest),
      turns_both (loops 0 body) (loops 0 rest),
      total_flat all body around count (End ∷ flat rest after)
          (around ∷ innermost around (count + length (loops 0 body)) rest marks) tree.0
          (stand_left all count (loops 0 body) (loops 0 rest) s),
      total_flat all rest around (count + length (loops 0 body)) after marks tree.1
          (stand_right all count (loops 0 body) (loops 0 rest) s),
    )
total_flat all (if_else result first second rest) around count after marks tree s =
    let arms : Stand all count (loops 0 first ++ loops 0 second) =
    stand_left all count (loops 0 first ++ loops 0 second) (loops 0 rest) s in
    let behind_arms : Stand all (count + length (loops 0 first ++ loops 0 second)) (loops 0 rest) =
    stand_right all count (loops 0 first ++ loops 0 second) (loops 0 rest) s in
    let n : count + length (loops 0 first ++ loops 0 second)
    ≡ count + length (loops 0 first) + length (loops 0 second) =
    omega (arith, length-append (loops 0 first) (loops 0 second)) in
    omega (
      arith,
      spread_three (weight all around) (cost 0 first) (cost 0 second) (cost 0 rest),
      turns_both (loops 0 first) (loops 0 second),
      turns_both (loops 0 first ++ loops 0 second) (loops 0 rest),
      total_flat all first around count (Else ∷ flat second (End ∷ flat rest after))
          (around ∷
          innermost around (count + length (loops 0 first)) second
          (around ∷ innermost around (count + length (loops 0 first) + length (loops 0 second)) rest marks)) tree.0
          (stand_left all count (loops 0 first) (loops 0 second) arms),
      total_flat all second around (count + length (loops 0 first)) (End ∷ flat rest after)
          (around ∷ innermost around (count + length (loops 0 first) + length (loops 0 second)) rest marks) tree.1
          (stand_right all count (loops 0 first) (loops 0 second) arms),
      total_flat all rest around (count + length (loops 0 first) + length (loops 0 second)) after marks tree.2
          (subst (λ k. Stand all k (loops 0 rest)) n behind_arms),
    )

-- ---- a whole body

abbrev pub guard_limits : List LoopGuard → List ℕ
guard_limits guards = map (λ g. g.limit) guards

abbrev pub cost_limits : List LoopCost → List ℕ
cost_limits costs = map (λ l. l.limit) costs

both_limits : (a b : List LoopGuard) (x y : List LoopCost) → guard_limits a ≡ cost_limits x →
    guard_limits b ≡ cost_limits y → guard_limits (a ++ b) ≡ cost_limits (x ++ y)
both_limits a b x y e f =
    map-append (λ g. g.limit) a b ∙ ap₂ (λ xs ys. xs ++ ys) e f ∙ sym (map-append (λ l. l.limit) x y)

pub same_limits : (code : Sequence) (at : ℕ) → guard_limits (loop_guards code at) ≡ cost_limits (loops 0 code)
same_limits done at = refl
same_limits (plain op rest) at = same_limits rest (at + 1)
same_limits (block result body rest) at =
    both_limits _ _ _ _ (same_limits body (at + 1)) (same_limits rest (behind body (at + 1) + 1))
same_limits (loop result body rest) at =
    ap (λ xs. (loop_cost 0 body).limit ∷ xs)
    (both_limits _ _ _ _ (same_limits body (at + 1)) (same_limits rest (behind body (at + 1) + 1)))
same_limits (if_then result body rest) at =
    both_limits _ _ _ _ (same_limits body (at + 1)) (same_limits rest (behind body (at + 1) + 1))
same_limits (if_else result first second rest) at =
    both_limits _ _ _ _
    (both_limits _ _ _ _ (same_limits first (at + 1)) (same_limits second (behind first (at + 1) + 1)))
    (same_limits rest (behind second (behind first (at + 1) + 1) + 1))

get_mapped : {A B : Type 0} (f : A → B) (xs : List A) (i : ℕ) → slice_get (map f xs) i ≡ option_map f (slice_get xs i)
get_mapped f [] i = refl
get_mapped f (x ∷ xs) zero = refl
get_mapped f (x ∷ xs) (suc i) = get_mapped f xs i

pub all_stand : (code : Sequence) (at : ℕ) → Stand (loop_guards code at) 0 (loops 0 code)
all_stand code at i h =
    let e : 0 + i ≡ i = omega arith in
    ap (λ n. option_map (λ g. g.limit) (slice_get (loop_guards code at) n)) e
    ∙ sym (get_mapped (λ g. g.limit) (loop_guards code at) i)
    ∙ ap (λ xs. slice_get xs i) (same_limits code at)
    ∙ get_mapped (λ l. l.limit) (loops 0 code) i

same_last : (guards : List LoopGuard) (costs : List LoopCost) → guard_limits guards ≡ cost_limits costs →
    last_turns guards ≡ last_pass costs
same_last [] [] e = refl
same_last (guard ∷ guards) (cost ∷ costs) e = refl
same_last [] (cost ∷ costs) e = absurd (cc e)
same_last (guard ∷ guards) [] e = absurd (cc e)

pub body_bound : (ops : List Op) (body : Sequence) → Reads ops body →
    total (loop_guards body 0) ops (innermost None 0 body (None ∷ [])) + last_turns (loop_guards body 0)
    ≡ bound_at 0 body
body_bound ops body reads =
    omega (
      arith,
      ap (λ os. total (loop_guards body 0) os (innermost None 0 body (None ∷ []))) reads.instructions,
      total_flat (loop_guards body 0) body None 0 (End ∷ []) (None ∷ []) reads.tree (all_stand body 0),
      same_last (loop_guards body 0) (loops 0 body) (same_limits body 0),
    )

-- ---- the loop over the instructions

pub first_dropped : (marks : List (Option ℕ)) (i : ℕ) → first_around (drop i marks) ≡ inner_of (slice_get marks i)
first_dropped [] zero = refl
first_dropped [] (suc i) = refl
first_dropped (mark ∷ marks) zero = refl
first_dropped (mark ∷ marks) (suc i) = first_dropped marks i

pub others_dropped : (marks : List (Option ℕ)) (i : ℕ) → others_around (drop i marks) ≡ drop (i + 1) marks
others_dropped marks i = at marks i ∙ ap (λ n. drop n marks) (sym (add-one i))
  where
    at : (ms : List (Option ℕ)) (k : ℕ) → others_around (drop k ms) ≡ drop (suc k) ms
    at [] zero = refl
    at [] (suc k) = refl
    at (mark ∷ ms) zero = refl
    at (mark ∷ ms) (suc k) = at ms k

-- what was added and what is still added come to the whole
pub record Adding (loops : List LoopGuard) (ops : List Op) (marks : List (Option ℕ)) (place sum : ℕ) : Type 0 where
  pub whole : sum + total loops (drop place ops) (drop place marks) ≡ total loops ops marks
  pub small : sum ≤ place * 4294967295

pub adding_none : (loops : List LoopGuard) (ops : List Op) (marks : List (Option ℕ)) → Adding loops ops marks 0 0
adding_none loops ops marks = record { whole = omega arith; small = omega arith }

pub adding_next : (loops : List LoopGuard) (ops : List Op) (marks : List (Option ℕ)) (i sum added : ℕ) (op : Op) →
    i < length ops → op ≡ get_or ops i op
    → added ≡ counted op (weight loops (inner_of (slice_get marks i))) → added < 4294967296 →
    Adding loops ops marks i sum → Adding loops ops marks (i + 1) (sum + added)
adding_next loops ops marks i sum added op h e is few before =
    let here : total loops (drop i ops) (drop i marks) ≡ added + total loops (drop (i + 1) ops) (drop (i + 1) marks) =
    ap (λ os. total loops os (drop i marks)) (read_drop ops i op h e)
    ∙ ap₂ (λ x ms. counted op (weight loops x) + total loops (drop (i + 1) ops) ms) (first_dropped marks i)
    (others_dropped marks i)
    ∙ ap (λ n. n + total loops (drop (i + 1) ops) (drop (i + 1) marks)) (sym is) in
    record { whole = omega (arith, here, before.whole); small = omega (arith, few, before.small) }

pub adding_all : (loops : List LoopGuard) (ops : List Op) (marks : List (Option ℕ)) (i sum : ℕ) → length ops ≤ i →
    Adding loops ops marks i sum → sum ≡ total loops ops marks
adding_all loops ops marks i sum past before =
    let none : total loops (drop i ops) (drop i marks) ≡ 0 =
    ap (λ os. total loops os (drop i marks)) (drop_of_length-le ops past) in
    omega (arith, none, before.whole)

-- ---- the guards of one function

pub same_number : (functions : List FunctionGuards) (codes : List Code) →
    map (λ g. Some g) functions ≡ code_guards codes → length functions ≡ length codes
same_number [] [] e = refl
same_number [] (code ∷ codes) e = absurd (cc e)
same_number (guards ∷ functions) [] e = absurd (cc e)
same_number (guards ∷ functions) (code ∷ codes) e =
    ap suc (same_number functions codes (rest (Some guards) (map (λ g. Some g) functions) _ (code_guards codes) e))
  where
    rest : (x : Option FunctionGuards) (xs : List (Option FunctionGuards)) (y : Option FunctionGuards)
        (ys : List (Option FunctionGuards)) → x ∷ xs ≡ y ∷ ys → xs ≡ ys
    rest x xs y ys e = cc e

pub guards_at : (functions : List FunctionGuards) (codes : List Code) (i : ℕ) (guards : FunctionGuards) (code : Code) →
    map (λ g. Some g) functions ≡ code_guards codes
    → slice_get functions i ≡ Some guards → slice_get codes i ≡ Some code →
    Some guards ≡ option_map body_guards (tree_of code.ops)
guards_at functions codes i guards code e f g =
    let here : slice_get (map (λ x. Some x) functions) i ≡ Some (Some guards) =
    get_mapped (λ x. Some x) functions i ∙ ap (option_map (λ x. Some x)) f in
    let there : slice_get (code_guards codes) i ≡ Some (option_map body_guards (tree_of code.ops)) =
    get_mapped (λ c. option_map body_guards (tree_of c.ops)) codes i
    ∙ ap (option_map (λ c. option_map body_guards (tree_of c.ops))) g in
    same (Some guards) (option_map body_guards (tree_of code.ops)) (sym here ∙ ap (λ xs. slice_get xs i) e ∙ there)
  where
    same : (x y : Option FunctionGuards) → Some x ≡ Some y → x ≡ y
    same x y h = cc h
