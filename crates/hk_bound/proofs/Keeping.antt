-- What is kept of an exported function is that of its code.
use Rattle.std.proofs.Common.{ℕ, ◌≡◌, ◌+◌, ◌<◌, ◌≤◌, List, [], ◌∷◌, ◌++◌, ◌∙◌, Some, false, refl, sym, ap, ap₂, subst}
use Rattle.std.proofs.Common.{length, length-append, get_or, arith}
use Rattle.std.specs.Prelude.{slice_get, map, nat_lt, replicate, sum_by}
use Rattle.std.specs.Option.{option_map_or}
use Rattle.std.proofs.lemmas.Bool.{ltb-false}
use Rattle.std.proofs.lemmas.List.{length-replicate}
use Rattle.std.proofs.lemmas.List.Sums.{sum_by-cons}
use Rattle.std.proofs.lemmas.Option.{slice_get_read}
use Rattle.wa_ops.proofs.Parsing.{tree_reads}
use Rattle.wa_ops.proofs.RulesByName.{rules_by_name}
use Rattle.wa_ops.specs.Contexts.{context_of, expanded, function_type, locals_of, parameters_of}
use Rattle.wa_ops.specs.Ends.{ends_of}
use Rattle.wa_ops.specs.Functions.{body_of}
use Rattle.wa_ops.specs.HookRules.{IsRuled, count_of_locals}
use Rattle.wa_ops.specs.Sequences.{Sequence, Reads, tree_of}
use Rattle.wa_ops.specs.Soundness.{IsSound}
use Rattle.wa_ops.specs.Typing.{and_then}
use Rattle.wa_ops.specs.declared.modules.Code.{Code}
use Rattle.wa_ops.specs.declared.modules.Module.{Module}
use Rattle.wa_ops.specs.declared.op.Op.{Op}
use Rattle.wa_ops.specs.declared.op.ValueType.{ValueType}
use Rattle.wa_validate.specs.Depths.{body_depth}
use Rattle.wa_validate.specs.Needs.{IsBodyCode}
use Rattle.wa_validate.specs.Untyped.{HasDepths}
use Rattle.wa_validate.specs.declared.depth.Depth.{Depth}
use Rattle.hk_bound.proofs.Refusing.{all_bodies}
use Rattle.hk_bound.proofs.Ruled.{ruled_imports}
use Rattle.hk_bound.specs.Laws.{Typables}

-- what typing needs of a decoded module that meets the rules
pub typables : Typables
typables m sound ruled = record {
  imports = ruled_imports m ruled;
  bodies = all_bodies m.codes sound.codes;
  few = omega (arith, sound.functions, sound.paired);
}

-- each run of locals counts once for each
locals_counted : (runs : List (ℕ × ValueType)) → length (expanded runs) ≡ sum_by (λ run. run.0) runs
locals_counted [] = refl
locals_counted (run ∷ runs) =
    length-append (replicate run.0 run.1) (expanded runs)
    ∙ ap₂ (λ a b. a + b) (length-replicate run.0 run.1) (locals_counted runs)
    ∙ sym (sum_by-cons (λ r. r.0) run runs)

-- the item that was read at the place of a function
pub item_at : {A : Type 0} (all items : List A) (func : ℕ) (item : A) → items ≡ all → item ≡ get_or items func item →
    func < length all → slice_get all func ≡ Some item
item_at all items func item same is less =
    let many : length items ≡ length all = ap length same in
    ap (λ xs. slice_get xs func) (sym same)
    ∙ slice_get_read items (length items) func item refl (omega (arith, less, many)) is

pub body_code : (m : Module) (func : ℕ) (code : Code) → IsSound m → slice_get m.codes func ≡ Some code → IsBodyCode code
body_code m func code sound at = all_bodies m.codes sound.codes func code at

pub few_locals : (m : Module) (func : ℕ) (code : Code) → IsRuled m → slice_get m.codes func ≡ Some code →
    sum_by (λ run. run.0) code.locals ≤ 4096
few_locals m func code kept at =
    let few : nat_lt 4096 (count_of_locals m func code) ≡ false =
    sym (ap (λ o. option_map_or (λ c. nat_lt 4096 (count_of_locals m func c)) o false) at)
    ∙ (rules_by_name m kept).locals func in
    let most : length (parameters_of (function_type m func)) + sum_by (λ run. run.0) code.locals ≤ 4096 =
    ltb-false 4096 (count_of_locals m func code) few in
    omega (arith, most)

pub ends_made : (m : Module) (func : ℕ) (code : Code) (ops : List Op) (ends : List ℕ) →
    slice_get m.codes func ≡ Some code → ops ≡ code.ops
    → ((tree : Sequence) → Reads ops tree → ends ≡ ends_of tree 0 (0 ∷ [])) → (tree : Sequence) →
    body_of m func ≡ Some tree → ends ≡ ends_of tree 0 (0 ∷ [])
ends_made m func code ops ends at same is tree body =
    let found : tree_of code.ops ≡ Some tree = ap (λ o. and_then o (λ c. tree_of c.ops)) (sym at) ∙ body in
    is tree (subst (λ os. Reads os tree) (sym same) ((tree_reads code.ops tree).1 found))

pub locals_made : (m : Module) (func count : ℕ) (code : Code) (runs : List (ℕ × ValueType)) →
    slice_get m.codes func ≡ Some code → runs ≡ code.locals → count ≡ sum_by (λ run. run.0) runs
    → count ≡ length (locals_of (slice_get m.codes func))
locals_made m func count code runs at same e =
    e ∙ ap (sum_by (λ run. run.0)) same ∙ sym (locals_counted code.locals) ∙ ap (λ o. length (locals_of o)) (sym at)

pub depth_made : (m : Module) (func : ℕ) (depths : List Depth) (depth : Depth) → HasDepths m depths →
    slice_get depths func ≡ Some depth
    → (body : Sequence) → body_of m func ≡ Some body → depth ≡ body_depth (context_of m func) body
depth_made m func depths depth has at body found =
    some_is depth (body_depth (context_of m func) body) (sym at ∙ has.deepest func body found)
  where
    some_is : (x y : Depth) → Some x ≡ Some y → x ≡ y
    some_is x y h = cc h
