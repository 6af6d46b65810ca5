-- What version 1 of the bound spares, and the bound of a function in each version.
use Rattle.std.proofs.Common.{ℕ, ◌≡◌, ◌+◌, ◌-◌, ◌*◌, ◌<◌, ◌≤◌, suc, zero, List, [], ◌∷◌, ◌++◌, ◌∙◌, Option, Some, None}
use Rattle.std.proofs.Common.{refl, sym, ap, ap₂, subst, length, get_or, drop, add-one, length-append, arith}
use Rattle.std.specs.Prelude.{slice_get, map, max, min, option_map}
use Rattle.std.proofs.lemmas.Option.{slice_get_read}
use Rattle.std.proofs.Math.ListN.{drop_of_length-le}
use Rattle.wa_ops.specs.declared.modules.Code.{Code}
use Rattle.wa_ops.specs.declared.modules.Module.{Module}
use Rattle.wa_ops.specs.declared.op.Op.{Op}
use Rattle.wa_ops.specs.Bound.{LoopCost, cost, loop_cost, loops, turns, bound_at}
use Rattle.wa_ops.specs.Functions.{body_of}
use Rattle.wa_ops.specs.Sequences.{Sequence, done, plain, block, loop, if_then, if_else, Reads, IsNested, tree_of}
use Rattle.wa_ops.specs.Soundness.{Each, IsSound, IsSoundBody}
use Rattle.wa_ops.specs.Typing.{and_then}
use Rattle.wa_ops.proofs.FinerBound.{last_passes}
use Rattle.wa_ops.proofs.Parsing.{found_tree}
use Rattle.hk_rules.specs.declared.guards.FunctionGuards.{FunctionGuards}
use Rattle.hk_rules.specs.declared.guards.Guards.{Guards}
use Rattle.hk_rules.specs.declared.guards.LoopGuard.{LoopGuard}
use Rattle.hk_rules.specs.Loops.{loop_guards, innermost, body_guards, code_guards}
use Rattle.hk_rules.specs.Sparing.{spared}
use Rattle.wa_ops.proofs.Places.{each_at}
use Rattle.hk_bound.specs.Bounds.{bound_of}
use Rattle.hk_bound.specs.Weights.{weight, inner_of, savings, whole, spared_by, weighed}
use Rattle.hk_bound.proofs.Summing.{Stand, stand_left, stand_right, stand_tail, stand_weight, turns_both, all_stand}
use Rattle.hk_bound.proofs.Summing.{body_bound, same_number, spread_region, spread_node, guards_at, first_dropped}
use Rattle.hk_bound.proofs.Summing.{others_dropped}

-- ---- over flat code

spread_three : (t a b c : ℕ) → t * (2 + (a + b) + c) ≡ t + t * a + t * b + t + t * c
spread_three t a b c = omega arith

spread_own : (t a : ℕ) → t * (a + 1) ≡ t * a + t
spread_own t a = omega arith

spread_both : (t a b : ℕ) → t * (a + b) ≡ t * a + t * b
spread_both t a b = omega arith

-- the dearer arm and the cheaper one are both arms
both_arms : (t a b : ℕ) → t * min a b + t * max a b ≡ t * a + t * b
both_arms t a b =
    let e : min a b + max a b ≡ a + b = omega arith in
    omega (arith, spread_both t (min a b) (max a b), ap (λ n. t * n) e, spread_both t a b)

-- the sum of version 1 and what is spared come to the sum of version 0
pub savings_flat : (all : List LoopGuard) (code : Sequence) (around : Option ℕ) (count : ℕ) (marks : List (Option ℕ))
    (after : List ℕ) → Stand all count (loops 0 code)
    → savings all (innermost around count code marks) (spared code after) +
    (weight all around * cost 1 code + turns (loops 1 code))
    ≡ weight all around * cost 0 code + turns (loops 0 code) + savings all marks after
savings_flat all done around count marks after s = omega arith
savings_flat all (plain op rest) around count marks after s =
    omega (
      arith,
      savings_flat all rest around count marks after s,
      spread_node (weight all around) (cost 0 rest),
      spread_node (weight all around) (cost 1 rest),
    )
savings_flat all (block result body rest) around count marks after s =
    omega (
      arith,
      spread_region (weight all around) (cost 0 body) (cost 0 rest),
      spread_region (weight all around) (cost 1 body) (cost 1 rest),
      turns_both (loops 0 body) (loops 0 rest),
      turns_both (loops 1 body) (loops 1 rest),
      savings_flat all body around count (around ∷ innermost around (count + length (loops 0 body)) rest marks)
          (0 ∷ spared rest after)
          (stand_left all count (loops 0 body) (loops 0 rest) s),
      savings_flat all rest around (count + length (loops 0 body)) marks after
          (stand_right all count (loops 0 body) (loops 0 rest) s),
    )
savings_flat all (loop result body rest) around count marks after s =
    let inside : Stand all (count + 1) (loops 0 body ++ loops 0 rest) =
    stand_tail all count (loop_cost 0 body) (loops 0 body ++ loops 0 rest) s in
    let limit : weight all (Some count) ≡ (loop_cost 0 body).limit =
    stand_weight all count (loop_cost 0 body) (loops 0 body ++ loops 0 rest) s in
    omega (
      arith,
      spread_node (weight all around) (cost 0 rest),
      spread_node (weight all around) (cost 1 rest),
      turns_both (loops 0 body) (loops 0 rest),
      turns_both (loops 1 body) (loops 1 rest),
      limit,
      ap (λ n. n * cost 0 body) limit,
      ap (λ n. n * cost 1 body) limit,
      spread_own (loop_cost 0 body).limit (cost 0 body),
      spread_own (loop_cost 0 body).limit (cost 1 body),
      savings_flat all body (Some count) (count + 1)
          (Some count ∷ innermost around (count + 1 + length (loops 0 body)) rest marks) (0 ∷ spared rest after)
          (stand_left all (count + 1) (loops 0 body) (loops 0 rest) inside),
      savings_flat all rest around (count + 1 + length (loops 0 body)) marks after
          (stand_right all (count + 1) (loops 0 body) (loops 0 rest) inside),
    )
savings_flat all (if_then result body rest) around count marks after s =
    omega (
      arith,
      spread_region (weight all around) (cost 0 body) (cost 0 rest),
      spread_region (weight all around) (cost 1 body) (cost 1 rest),
      turns_both (loops 0 body) (loops 0 rest),
      turns_both (loops 1 body) (loops 1 rest),
      savings_flat all body around count (around ∷ innermost around (count + length (loops 0 body)) rest marks)
          (0 ∷ spared rest after)
          (stand_left all count (loops 0 body) (loops 0 rest) s),
      savings_flat all rest around (count + length (loops 0 body)) marks after
          (stand_right all count (loops 0 body) (loops 0 rest) s),
    )
savings_flat all (if_else result first second rest) around count marks after s =
    let arms : Stand all count (loops 0 first ++ loops 0 second) =
    stand_left all count (loops 0 first ++ loops 0 second) (loops 0 rest) s in
    let behind_arms : Stand all (count + length (loops 0 first ++ loops 0 second)) (loops 0 rest) =
    stand_right all count (loops 0 first ++ loops 0 second) (loops 0 rest) s in
    let n : count + length (loops 0 first ++ loops 0 second)
    ≡ count + length (loops 0 first) + length (loops 0 second) =
    omega (arith, length-append (loops 0 first) (loops 0 second)) in
    omega (
      arith,
      spread_three (weight all around) (cost 0 first) (cost 0 second) (cost 0 rest),
      spread_region (weight all around) (max (cost 1 first) (cost 1 second)) (cost 1 rest),
      both_arms (weight all around) (cost 1 first) (cost 1 second),
      turns_both (loops 0 first) (loops 0 second),
      turns_both (loops 0 first ++ loops 0 second) (loops 0 rest),
      turns_both (loops 1 first) (loops 1 second),
      turns_both (loops 1 first ++ loops 1 second) (loops 1 rest),
      savings_flat all first around count
          (around ∷
          innermost around (count + length (loops 0 first)) second
          (around ∷ innermost around (count + length (loops 0 first) + length (loops 0 second)) rest marks))
          (0 ∷ spared second (0 ∷ spared rest after)) (stand_left all count (loops 0 first) (loops 0 second) arms),
      savings_flat all second around (count + length (loops 0 first))
          (around ∷ innermost around (count + length (loops 0 first) + length (loops 0 second)) rest marks)
          (0 ∷ spared rest after) (stand_right all count (loops 0 first) (loops 0 second) arms),
      savings_flat all rest around (count + length (loops 0 first) + length (loops 0 second)) marks after
          (subst (λ k. Stand all k (loops 0 rest)) n behind_arms),
    )

-- ---- a whole body

pub whole_spares : (ops : List Op) (body : Sequence) → Reads ops body →
    whole ops (body_guards body) ≡ bound_at 1 body + spared_by (body_guards body)
whole_spares ops body reads =
    omega (
      arith,
      body_bound ops body reads,
      savings_flat (loop_guards body 0) body None 0 (None ∷ []) (0 ∷ []) (all_stand body 0),
      last_passes body,
    )

pub weighed_is : (version : ℕ) (ops : List Op) (body : Sequence) → version ≤ 1 → Reads ops body →
    weighed version ops (body_guards body) ≡ bound_at version body
weighed_is zero ops body known reads = body_bound ops body reads
weighed_is (suc zero) ops body known reads = omega (arith, whole_spares ops body reads)
weighed_is (suc (suc more)) ops body known reads = absurd (omega (arith, known))

-- ---- the loop over the entries

-- what was added and what is still added come to the whole
abbrev pub Saving : List LoopGuard → List (Option ℕ) → List ℕ → ℕ → ℕ → Type 0
Saving loops marks entries place sum =
    sum + savings loops (drop place marks) (drop place entries) ≡ savings loops marks entries

pub saving_none : (loops : List LoopGuard) (marks : List (Option ℕ)) (entries : List ℕ) → Saving loops marks entries 0 0
saving_none loops marks entries = omega arith

-- an entry and all behind it
at_entry : (entries : List ℕ) (i n : ℕ) → slice_get entries i ≡ Some n → drop i entries ≡ n ∷ drop (suc i) entries
at_entry [] i n e = absurd (cc e)
at_entry (m ∷ entries) zero n e = let p : m ≡ n = cc e in ap (λ x. x ∷ entries) p
at_entry (m ∷ entries) (suc i) n e = at_entry entries i n e

saving_here : (loops : List LoopGuard) (marks : List (Option ℕ)) (entries : List ℕ) (i n : ℕ) →
    slice_get entries i ≡ Some n
    → savings loops (drop i marks) (drop i entries)
    ≡ weight loops (inner_of (slice_get marks i)) * n + savings loops (drop (i + 1) marks) (drop (i + 1) entries)
saving_here loops marks entries i n e =
    ap (savings loops (drop i marks)) (at_entry entries i n e ∙ ap (λ k. n ∷ drop k entries) (sym (add-one i)))
    ∙ ap₂ (λ x ms. weight loops x * n + savings loops ms (drop (i + 1) entries)) (first_dropped marks i)
    (others_dropped marks i)

pub saving_next : (loops : List LoopGuard) (marks : List (Option ℕ)) (entries : List ℕ) (i sum added n : ℕ) →
    slice_get entries i ≡ Some n
    → added ≡ weight loops (inner_of (slice_get marks i)) * n → Saving loops marks entries i sum →
    Saving loops marks entries (i + 1) (sum + added)
saving_next loops marks entries i sum added n e is before =
    omega (arith, saving_here loops marks entries i n e, is, before)

-- the sum stays below the whole
pub saving_within : (loops : List LoopGuard) (marks : List (Option ℕ)) (entries : List ℕ) (i sum n : ℕ) →
    slice_get entries i ≡ Some n
    → Saving loops marks entries i sum →
    sum + weight loops (inner_of (slice_get marks i)) * n ≤ savings loops marks entries
saving_within loops marks entries i sum n e before = omega (arith, saving_here loops marks entries i n e, before)

pub saving_all : (loops : List LoopGuard) (marks : List (Option ℕ)) (entries : List ℕ) (i sum : ℕ) →
    length entries ≤ i → Saving loops marks entries i sum → sum ≡ savings loops marks entries
saving_all loops marks entries i sum past before =
    let none : savings loops (drop i marks) (drop i entries) ≡ 0 =
    ap (savings loops (drop i marks)) (drop_of_length-le entries past) in
    omega (arith, none, before)

-- ---- the guards of one function

-- the body of a function, and what was found of it
pub record IsFunction (m : Module) (func : ℕ) (found : FunctionGuards) (ops : List Op) : Type 0 where
  pub body : Sequence
  pub is_body : body_of m func ≡ Some body
  pub reads : Reads ops body
  pub guards_are : found ≡ body_guards body

pub function_at : (m : Module) (guards : Guards) (func : ℕ) (code : Code) (found : FunctionGuards) (codes : List Code)
    (functions : List FunctionGuards) (ops : List Op)
    → IsSound m → map (λ g. Some g) guards.functions ≡ code_guards m.codes → func < length m.codes
    → codes ≡ m.codes → code ≡ get_or codes func code → functions ≡ guards.functions →
    found ≡ get_or functions func found → ops ≡ code.ops
    → IsFunction m func found ops
function_at m guards func code found codes functions ops sound kept less same_codes is_code same_functions is_found
    same_ops =
    let many : length codes ≡ length m.codes = ap length same_codes in
    let each : length functions ≡ length m.codes =
    ap length same_functions ∙ same_number guards.functions m.codes kept in
    let at_code : slice_get m.codes func ≡ Some code =
    ap (λ xs. slice_get xs func) (sym same_codes)
    ∙ slice_get_read codes (length codes) func code refl (omega (arith, less, many)) is_code in
    let at_guards : slice_get guards.functions func ≡ Some found =
    ap (λ xs. slice_get xs func) (sym same_functions)
    ∙ slice_get_read functions (length functions) func found refl (omega (arith, less, each)) is_found in
    let nested : IsNested code.ops =
    (each_at IsSoundBody codes func code (omega (arith, less, many)) is_code
    (subst (Each IsSoundBody) (sym same_codes) sound.codes.each)).ops.nested in
    let tree : tree_of code.ops ≡ Some nested.0 = found_tree code.ops nested.0 nested.1 in
    record {
      body = nested.0;
      is_body = ap (λ o. and_then o (λ c. tree_of c.ops)) at_code ∙ tree;
      reads = subst (λ os. Reads os nested.0) (sym same_ops) nested.1;
      guards_are =
          some_is found (body_guards nested.0)
          (guards_at guards.functions m.codes func found code kept at_guards at_code
          ∙ ap (option_map body_guards) tree);
    }
  where
    some_is : (x y : FunctionGuards) → Some x ≡ Some y → x ≡ y
    some_is x y h = cc h

pub function_spares : (m : Module) (func : ℕ) (found : FunctionGuards) (ops : List Op) → IsFunction m func found ops →
    spared_by found ≤ whole ops found
function_spares m func found ops f =
    let both : whole ops (body_guards f.body) ≡ bound_at 1 f.body + spared_by (body_guards f.body) =
    whole_spares ops f.body f.reads in
    omega (arith, both, ap (whole ops) f.guards_are, ap spared_by f.guards_are)

pub function_bound : (version : ℕ) (m : Module) (func n : ℕ) (found : FunctionGuards) (ops : List Op) →
    IsFunction m func found ops → version ≤ 1
    → n ≡ weighed version ops found → bound_of version m func ≡ Some n
function_bound version m func n found ops f known e =
    let is : n ≡ bound_at version f.body =
    e ∙ ap (weighed version ops) f.guards_are ∙ weighed_is version ops f.body known f.reads in
    ap (option_map (bound_at version)) f.is_body ∙ ap Some (sym is)
