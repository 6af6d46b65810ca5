-- The loops over a body's instructions and over a module's functions.
use Rattle.std.proofs.Common.{◌≡◌, ℕ, zero, suc, ◌+◌, ◌<◌, ◌≤◌, length, get_or, drop, length-append, below_more, arith}
use Rattle.std.proofs.Common.{List, [], ◌∷◌, ◌++◌, Option, Some, None, Bool, true, false, if◌then◌else◌, slice_get}
use Rattle.std.proofs.Common.{Result, Err, sym, ◌∙◌, ap, subst, refl}
use Rattle.std.proofs.Math.ListN.{drop_of_length-le}
use Rattle.std.proofs.lemmas.Option.{slice_get_read, slice_get_within}
use Rattle.wa_ops.proofs.Parsing.{tree_reads}
use Rattle.wa_ops.proofs.Places.{read_drop}
use Rattle.wa_ops.specs.declared.modules.Code.{Code}
use Rattle.wa_ops.specs.declared.modules.Module.{Module}
use Rattle.wa_ops.specs.declared.op.Op.{Op}
use Rattle.wa_ops.specs.Contexts.{context_of}
use Rattle.wa_ops.specs.Sequences.{Sequence, Reads, IsNested, size, tree_of}
use Rattle.wa_ops.specs.Typing.{Context, Typing, Stack, leaves, fails, fresh, and_then, pop_result, is_empty}
use Rattle.wa_ops.specs.Typing.{after_region, types, Leaves, IsTyped}
use Rattle.wa_ops.specs.declared.op.ValueType.{ValueType}
use Rattle.wa_validate.specs.declared.body.Verdict.{Verdict}
use Rattle.wa_validate.specs.declared.body.Verdict.TheVariants.{Typed, Untyped}
use Rattle.wa_validate.specs.declared.depth.Depth.{Depth}
use Rattle.wa_validate.specs.declared.open_regions.OpenRegions.{OpenRegions}
use Rattle.wa_validate.specs.declared.validation.TypeFault.{TypeFault}
use Rattle.wa_validate.specs.declared.validation.TypeFault.TheVariants as fault
use Rattle.wa_validate.specs.Depths.{surface, deeper, body_depth}
use Rattle.wa_validate.specs.Steps.{begun, step}
use Rattle.wa_validate.specs.Untyped.{body_typing, IsTypedAt, IsUntyped, HasDepths}
use Rattle.wa_ops.specs.Functions.{body_of}
use Rattle.wa_validate.specs.Verdicts.{verdict_of}
use Rattle.wa_validate.proofs.Bounds.{AreFewAt, step_few}
use Rattle.wa_validate.proofs.Flat.{on_step, depth_of, verdict, body_walk}

-- what is left of a body comes to what the whole does
pub record Going (context : Context) (ops : List Op) (place : ℕ) (r : OpenRegions) (most : Depth) : Type 0 where
  pub total : verdict context ops 0 (begun context.result) surface ≡ verdict context (drop place ops) place r most
  pub few : AreFewAt place r

pub going_start : (context : Context) (ops : List Op) (r : OpenRegions) → r ≡ begun context.result →
    Going context ops 0 r surface
going_start context ops r e =
    subst (λ x. Going context ops 0 x surface) (sym e)
    (record { total = refl; few = record { inner = omega arith; around = tt; labels = omega arith } })

pub going_step : (context : Context) (ops : List Op) (i : ℕ) (op : Op) (r : OpenRegions) (most : Depth)
    (o : Option OpenRegions) → i < length ops → op ≡ get_or ops i op → Going context ops i r most →
    step context op r ≡ o →
    verdict context ops 0 (begun context.result) surface
    ≡ on_step i o (λ next. verdict context (drop (i + 1) ops) (i + 1) next (deeper most (depth_of r)))
going_step context ops i op r most o h e g k =
    g.total
    ∙ ap (λ os. verdict context os i r most) (read_drop ops i op h e)
    ∙ ap (λ x. on_step i x (λ next. verdict context (drop (i + 1) ops) (i + 1) next (deeper most (depth_of r)))) k

pub going_on : (context : Context) (ops : List Op) (i : ℕ) (op : Op) (r next : OpenRegions) (most : Depth) →
    i < length ops → op ≡ get_or ops i op → Going context ops i r most → step context op r ≡ Some next →
    Going context ops (i + 1) next (deeper most (depth_of r))
going_on context ops i op r next most h e g k = record {
  total = going_step context ops i op r most (Some next) h e g k;
  few = step_few i context op r next g.few k;
}

pub going_begins : (context : Context) (ops : List Op) (r : OpenRegions) (most : Depth)
    (result kind : Option ValueType) → r ≡ begun kind → kind ≡ result → result ≡ context.result → most ≡ surface →
    Going context ops 0 r most
going_begins context ops r most result kind e k h m =
    subst (Going context ops 0 r) (sym m) (going_start context ops r (e ∙ ap begun (k ∙ h)))

pub going_past : (context : Context) (ops : List Op) (i : ℕ) (op : Op) (r next : OpenRegions) (most here more : Depth) →
    i < length ops → op ≡ get_or ops i op → Going context ops i r most → step context op r ≡ Some next →
    here ≡ depth_of r → more ≡ deeper most here → Going context ops (i + 1) next more
going_past context ops i op r next most here more h e g k d m =
    subst (Going context ops (i + 1) next) (sym (m ∙ ap (deeper most) d))
    (going_on context ops i op r next most h e g k)

-- a verdict on flat code is the one on its tree
pub record IsVerdict (context : Context) (ops : List Op) (found : Verdict) : Type 0 where
  pub on_tree : (body : Sequence) → Reads ops body →
      found ≡ verdict_of (body_typing context body) (body_depth context body)

pub judged : (context : Context) (ops : List Op) (found : Verdict) →
    verdict context ops 0 (begun context.result) surface ≡ found → IsVerdict context ops found
judged context ops found e = record { on_tree = λ body r. sym e ∙ body_walk context ops body r }

pub going_fails : (context : Context) (ops : List Op) (i : ℕ) (op : Op) (r : OpenRegions) (most : Depth) →
    i < length ops → op ≡ get_or ops i op → Going context ops i r most → step context op r ≡ None →
    IsVerdict context ops (Untyped i)
going_fails context ops i op r most h e g k =
    judged context ops (Untyped i) (going_step context ops i op r most None h e g k)

pub going_ends : (context : Context) (ops : List Op) (i : ℕ) (r : OpenRegions) (most : Depth) → length ops ≤ i →
    Going context ops i r most → IsVerdict context ops (Typed most)
going_ends context ops i r most h g =
    judged context ops (Typed most) (g.total ∙ ap (λ os. verdict context os i r most) (drop_of_length-le ops h))

-- a body that leaves its result is well typed
pub typed_by : (result : Option ValueType) (place : ℕ) (t : Typing) (depth found : Depth) →
    Typed found ≡ verdict_of (after_region result place t (leaves fresh)) depth → Leaves result t × (found ≡ depth)
typed_by result place (fails p) depth found h = absurd cc
typed_by result place (leaves stack) depth found h = at (is_empty (pop_result result stack)) refl h
  where
    at : (b : Bool) → is_empty (pop_result result stack) ≡ b →
        Typed found ≡ verdict_of (if b then leaves fresh else fails place) depth →
        (is_empty (pop_result result stack) ≡ true) × (found ≡ depth)
    at true e h = (e, cc)
    at false e h = absurd cc

pub untyped_by : (t : Typing) (depth : Depth) (place : ℕ) → Untyped place ≡ verdict_of t depth → t ≡ fails place
untyped_by (fails p) depth place h = cc
untyped_by (leaves stack) depth place h = absurd cc

-- the functions so far are well typed, and these are their depths
pub record Judged (m : Module) (count : ℕ) (depths : List Depth) : Type 0 where
  pub typed : (earlier : ℕ) → earlier < count → IsTypedAt m earlier
  pub each : length depths ≡ count
  pub deepest : (earlier : ℕ) (body : Sequence) → earlier < count → body_of m earlier ≡ Some body →
      slice_get depths earlier ≡ Some (body_depth (context_of m earlier) body)

pub judged_none : (m : Module) → Judged m 0 []
judged_none m = record {
  typed = λ earlier h. absurd (omega arith);
  each = refl;
  deepest = λ earlier body h. absurd (omega arith);
}

pub body_at : (m : Module) (function : ℕ) (code : Code) (body : Sequence) → slice_get m.codes function ≡ Some code →
    body_of m function ≡ Some body → Reads code.ops body
body_at m function code body h e = (tree_reads code.ops body).1 (sym (ap (λ o. and_then o (λ c. tree_of c.ops)) h) ∙ e)

pub get_front : (xs ys : List Depth) (i : ℕ) → i < length xs → slice_get (xs ++ ys) i ≡ slice_get xs i
get_front [] ys i h = absurd (omega arith)
get_front (x ∷ xs) ys zero h = refl
get_front (x ∷ xs) ys (suc i) h = get_front xs ys i (omega arith)

pub get_last : (xs : List Depth) (y : Depth) → slice_get (xs ++ y ∷ []) (length xs) ≡ Some y
get_last [] y = refl
get_last (x ∷ xs) y = get_last xs y

pub body_judged : (m : Module) (function : ℕ) (code : Code) (depth : Depth) (body : Sequence) →
    slice_get m.codes function ≡ Some code → IsVerdict (context_of m function) code.ops (Typed depth) →
    body_of m function ≡ Some body →
    IsTyped (context_of m function) body × (depth ≡ body_depth (context_of m function) body)
body_judged m function code depth body h v e =
    typed_by (context_of m function).result (size body)
    (types (context_of m function) ((context_of m function).result ∷ []) body 0 fresh)
    (body_depth (context_of m function) body) depth
    (v.on_tree body (body_at m function code body h e))

-- the depth that is kept for this function is that of its body
abbrev pub IsDepthAt : Module → List Depth → ℕ → Type 0
IsDepthAt m depths function =
    (body : Sequence) → body_of m function ≡ Some body →
    slice_get depths function ≡ Some (body_depth (context_of m function) body)

pub last_depth : (m : Module) (function : ℕ) (code : Code) (depth : Depth) (depths : List Depth) →
    slice_get m.codes function ≡ Some code → IsVerdict (context_of m function) code.ops (Typed depth) →
    length depths ≡ function →
    IsDepthAt m (depths ++ depth ∷ []) function
last_depth m function code depth depths h v n body e =
    ap (slice_get (depths ++ depth ∷ [])) (sym n)
    ∙ get_last depths depth
    ∙ ap Some (body_judged m function code depth body h v e).1

pub judged_more : (m : Module) (function : ℕ) (code : Code) (depth : Depth) (depths : List Depth) →
    slice_get m.codes function ≡ Some code → IsVerdict (context_of m function) code.ops (Typed depth) →
    Judged m function depths → Judged m (function + 1) (depths ++ depth ∷ [])
judged_more m function code depth depths h v j =
    let count : length depths ≡ function = j.each in
    record {
      typed = below_more (IsTypedAt m) function j.typed (λ body e. (body_judged m function code depth body h v e).0);
      each = omega (arith, length-append depths (depth ∷ []));
      deepest = λ earlier body k e. below_more (IsDepthAt m (depths ++ depth ∷ [])) function
          (λ n less. λ other found. get_front depths (depth ∷ []) n (omega arith) ∙ j.deepest n other less found)
          (last_depth m function code depth depths h v count) earlier k body e;
    }

pub function_within : (m : Module) (function : ℕ) (body : Sequence) → body_of m function ≡ Some body →
    function < length m.codes
function_within m function body e = at (slice_get m.codes function) refl e
  where
    at : (o : Option Code) → slice_get m.codes function ≡ o → and_then o (λ code. tree_of code.ops) ≡ Some body →
        function < length m.codes
    at None h e = absurd cc
    at (Some code) h e = slice_get_within m.codes function code h

pub all_typed : (m : Module) (count : ℕ) (depths : List Depth) → count ≡ length m.codes → Judged m count depths →
    (function : ℕ) → IsTypedAt m function
all_typed m count depths n j function body e =
    j.typed function (let less : function < length m.codes = function_within m function body e in omega arith) body e

pub all_deep : (m : Module) (count : ℕ) (depths : List Depth) → count ≡ length m.codes → Judged m count depths →
    HasDepths m depths
all_deep m count depths n j = let kept : length depths ≡ count = j.each in record {
  each = omega arith;
  deepest =
      λ function body e.
      j.deepest function body (let less : function < length m.codes = function_within m function body e in omega arith)
      e;
}

pub judged_fails : (m : Module) (function place : ℕ) (code : Code) (depths : List Depth) →
    slice_get m.codes function ≡ Some code → IsNested code.ops →
    IsVerdict (context_of m function) code.ops (Untyped place) →
    Judged m function depths → IsUntyped m function place
judged_fails m function place code depths h nested v j = record {
  body = nested.0;
  found = ap (λ o. and_then o (λ c. tree_of c.ops)) h ∙ (tree_reads code.ops nested.0).0 nested.1;
  failed =
      untyped_by (body_typing (context_of m function) nested.0) (body_depth (context_of m function) nested.0) place
      (v.on_tree nested.0 nested.1);
  first = j.typed;
}

-- what the loop reads
pub code_at : (m : Module) (items : List Code) (i : ℕ) (code : Code) → items ≡ m.codes → i < length items →
    code ≡ get_or items i code → slice_get m.codes i ≡ Some code
code_at m items i code e h k = ap (λ xs. slice_get xs i) (sym e) ∙ slice_get_read items (length items) i code refl h k

pub verdict_at : (scope context : Context) (items ops : List Op) (found is : Verdict) → scope ≡ context → items ≡ ops →
    found ≡ is →
    ((body : Sequence) → Reads items body → found ≡ verdict_of (body_typing scope body) (body_depth scope body)) →
    IsVerdict context ops is
verdict_at scope context items ops found is p q e h =
    subst (λ s. IsVerdict s ops is) p
    (subst (λ os. IsVerdict scope os is) q (subst (IsVerdict scope items) e (record { on_tree = h })))

pub fault_is : {T : Type 0} (m : Module) (a b func op : ℕ) →
    ◌≡◌ {A = Result T TypeFault} (Err (fault.Untyped a b)) (Err (fault.Untyped func op)) → IsUntyped m a b →
    IsUntyped m func op
fault_is m a b func op e h =
    let p : a ≡ func = cc in
    let q : b ≡ op = cc in
    subst (λ n. IsUntyped m n op) p (subst (IsUntyped m a) q h)
