-- From the rule on loops at each place of flat code to the loops of its tree.
use Rattle.std.proofs.Common.{ℕ, ◌≡◌, ◌+◌, ◌<◌, ◌≤◌, ◌&&◌, suc, zero, List, [], ◌∷◌, ◌∙◌, not, Bool, true, false}
use Rattle.std.proofs.Common.{Option, Some, None, refl, sym, ap, subst, length, nat_lt, arith}
use Rattle.std.specs.Prelude.{slice_get}
use Rattle.std.specs.Option.{option_map_or}
use Rattle.std.proofs.lemmas.Bool.{ltb-false}
use Rattle.wa_ops.specs.declared.modules.Code.{Code}
use Rattle.wa_ops.specs.declared.modules.Module.{Module}
use Rattle.wa_ops.specs.declared.op.Op.{Op}
use Rattle.wa_ops.specs.declared.op.Op.TheVariants.{Block, Loop, If, Else, End, I32Const, Call}
use Rattle.wa_ops.specs.Bound.{HasGuard, IsGuarded}
use Rattle.wa_ops.specs.Callees.{Callee, guard}
use Rattle.wa_ops.specs.Contexts.{calls_of}
use Rattle.wa_ops.specs.HookRules.{in_code, is_constant, is_guard, is_guard_call, is_loop, IsRuled, lacks_guard, passes}
use Rattle.wa_ops.specs.Sequences.{Sequence, done, plain, block, loop, if_then, if_else, flat, Reads, tree_of}
use Rattle.wa_ops.specs.Typing.{and_then}
use Rattle.wa_ops.proofs.Parsing.{tree_reads}
use Rattle.wa_ops.proofs.RulesByName.{rules_by_name}
use Rattle.wa_ops.specs.Functions.{body_of}
use Rattle.hk_rules.proofs.Least.{passes_past}

-- the rule at a place, by the places of the guard
abbrev pub lacks_by : List Callee → List Op → ℕ → ℕ → ℕ → ℕ → Bool
lacks_by calls ops at a b c =
    passes is_loop ops at &&
    not (passes is_constant ops a && (passes is_constant ops b && passes (is_guard_call calls) ops c))

abbrev pub Kept : List Callee → List Op → Type 0
Kept calls ops = (at : ℕ) → lacks_by calls ops at (at + 1) (at + 2) (at + 3) ≡ false

kept_tail : (calls : List Callee) (op : Op) (ops : List Op) → Kept calls (op ∷ ops) → Kept calls ops
kept_tail calls op ops kept at =
    let a : suc (at + 1) ≡ suc at + 1 = omega arith in
    let b : suc (at + 2) ≡ suc at + 2 = omega arith in
    let c : suc (at + 3) ≡ suc at + 3 = omega arith in
    ap (λ n. lacks_by calls (op ∷ ops) (suc at) n (suc (at + 2)) (suc (at + 3))) a
    ∙ ap (λ n. lacks_by calls (op ∷ ops) (suc at) (suc at + 1) n (suc (at + 3))) b
    ∙ ap (λ n. lacks_by calls (op ∷ ops) (suc at) (suc at + 1) (suc at + 2) n) c
    ∙ kept (suc at)

guard_is : (callee : Option Callee) → not (is_guard callee) ≡ false → callee ≡ Some guard
guard_is (Some guard) e = refl
guard_is callee e = absurd (cc e)

head_guard : (calls : List Callee) (body : Sequence) (after : List Op)
    → not
    (passes is_constant (flat body (End ∷ after)) 0 &&
    (passes is_constant (flat body (End ∷ after)) 1 && passes (is_guard_call calls) (flat body (End ∷ after)) 2))
    ≡ false
    → HasGuard calls body
head_guard calls (plain (I32Const id) (plain (I32Const limit) (plain (Call function) rest))) after e =
    record {
      id = id;
      limit = limit;
      function = function;
      rest = rest;
      is = refl;
      counts = guard_is (slice_get calls function) e;
    }
head_guard calls body after e = absurd (cc e)

pub guarded : (calls : List Callee) (code : Sequence) (after : List Op) → Kept calls (flat code after) →
    IsGuarded calls code × Kept calls after
guarded calls done after kept = (tt, kept)
guarded calls (plain op rest) after kept = guarded calls rest after (kept_tail calls op (flat rest after) kept)
guarded calls (block result body rest) after kept =
    let b =
    guarded calls body (End ∷ flat rest after)
    (kept_tail calls (Block result) (flat body (End ∷ flat rest after)) kept) in
    let r = guarded calls rest after (kept_tail calls End (flat rest after) b.1) in
    ((b.0, r.0), r.1)
guarded calls (loop result body rest) after kept =
    let b =
    guarded calls body (End ∷ flat rest after)
    (kept_tail calls (Loop result) (flat body (End ∷ flat rest after)) kept) in
    let r = guarded calls rest after (kept_tail calls End (flat rest after) b.1) in
    ((head_guard calls body (flat rest after) (kept 0), b.0, r.0), r.1)
guarded calls (if_then result body rest) after kept =
    let b =
    guarded calls body (End ∷ flat rest after) (kept_tail calls (If result) (flat body (End ∷ flat rest after)) kept) in
    let r = guarded calls rest after (kept_tail calls End (flat rest after) b.1) in
    ((b.0, r.0), r.1)
guarded calls (if_else result first second rest) after kept =
    let a =
    guarded calls first (Else ∷ flat second (End ∷ flat rest after))
    (kept_tail calls (If result) (flat first (Else ∷ flat second (End ∷ flat rest after))) kept) in
    let b =
    guarded calls second (End ∷ flat rest after) (kept_tail calls Else (flat second (End ∷ flat rest after)) a.1) in
    let r = guarded calls rest after (kept_tail calls End (flat rest after) b.1) in
    ((a.0, b.0, r.0), r.1)

-- ---- the rule about functions

kept_at : (calls : List Callee) (codes : List Code) (func : ℕ) (code : Code) → slice_get codes func ≡ Some code
    → ((i at : ℕ) → in_code (lacks_guard calls) codes i at ≡ false) → Kept calls code.ops
kept_at calls codes func code e kept at =
    test (nat_lt at (length code.ops)) refl
    (sym (ap (λ o. option_map_or (λ c. nat_lt at (length c.ops) && lacks_guard calls c.ops at) o false) e)
    ∙ kept func at)
  where
    test : (b : Bool) → nat_lt at (length code.ops) ≡ b →
        (nat_lt at (length code.ops) && lacks_guard calls code.ops at) ≡ false → lacks_guard calls code.ops at ≡ false
    test true h k = ap (λ b. b && lacks_guard calls code.ops at) (sym h) ∙ k
    test false h k =
        ap (λ b.
        b &&
        not (passes is_constant code.ops (at + 1) &&
        (passes is_constant code.ops (at + 2) && passes (is_guard_call calls) code.ops (at + 3))))
        (passes_past is_loop code.ops at (ltb-false at (length code.ops) h))

pub ruled_guarded : (m : Module) (func : ℕ) (body : Sequence) → IsRuled m → body_of m func ≡ Some body →
    IsGuarded (calls_of m.imports) body
ruled_guarded m func body kept e = at (slice_get m.codes func) refl e
  where
    at : (o : Option Code) → slice_get m.codes func ≡ o → and_then o (λ code. tree_of code.ops) ≡ Some body →
        IsGuarded (calls_of m.imports) body
    at None h k = absurd (cc k)
    at (Some code) h k =
        let reads : Reads code.ops body = (tree_reads code.ops body).1 k in
        (guarded (calls_of m.imports) body (End ∷ []) (subst (Kept (calls_of m.imports)) reads.instructions
        (kept_at (calls_of m.imports) m.codes func code h (rules_by_name m kept).loop_guards))).0
