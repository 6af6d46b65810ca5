-- The values that the variables of a run begin with: their types, their words, and that these fit.
use Rattle.std.proofs.Common.{ℕ, ◌≡◌, suc, zero, List, [], ◌∷◌, ◌++◌, not, false, refl, sym, ap₂, length, arith}
use Rattle.std.specs.Prelude.{map, replicate}
use Rattle.std.specs.List.{list_any}
use Rattle.std.proofs.lemmas.Bool.{or_parts}
use Rattle.wa_machine.specs.Law.{types_of, kinds_of}
use Rattle.wa_machine.specs.Machine.{type_of, word_of, value_of}
use Rattle.wa_machine.specs.Starts.{first_word, global_value, zero_of}
use Rattle.wa_ops.specs.Contexts.{expanded, global_types}
use Rattle.wa_ops.specs.HookRules.{is_float, passes, is_one, is_constant_of}
use Rattle.wa_ops.specs.Soundness.{Each}
use Rattle.wa_ops.specs.declared.modules.ModuleGlobal.{ModuleGlobal}
use Rattle.wa_ops.specs.declared.op.Op.{Op}
use Rattle.wa_ops.specs.declared.op.Op.TheVariants.{I32Const, I64Const}
use Rattle.wa_ops.specs.declared.op.ValueType.{ValueType}
use Rattle.wa_ops.specs.declared.op.ValueType.TheVariants.{I32, I64, F32, F64}
use Rattle.wa_run.specs.Flat.{words_of, IsValue, AllValues}
use Rattle.wa_run.specs.Starts.{first_globals, HasWidth}
use Rattle.wa_run.proofs.Numeric.{value_word}

value_typed : (kind : ValueType) (n : ℕ) → is_float kind ≡ false → type_of (value_of kind n) ≡ kind
value_typed I32 n e = refl
value_typed I64 n e = refl
value_typed F32 n e = absurd (cc e)
value_typed F64 n e = absurd (cc e)

-- ---- locals

run_typed : (n : ℕ) (kind : ValueType) (more : List ValueType) → is_float kind ≡ false →
    types_of (map zero_of more) ≡ more
    → types_of (map zero_of (replicate n kind ++ more)) ≡ replicate n kind ++ more
run_typed zero kind more none e = e
run_typed (suc n) kind more none e = ap₂ (λ k ks. k ∷ ks) (value_typed kind 0 none) (run_typed n kind more none e)

pub locals_typed : (runs : List (ℕ × ValueType)) → list_any (λ run. is_float run.1) runs ≡ false →
    types_of (map zero_of (expanded runs)) ≡ expanded runs
locals_typed [] e = refl
locals_typed (run ∷ runs) e =
    let parts : (is_float run.1 ≡ false) × (list_any (λ r. is_float r.1) runs ≡ false) =
    or_parts (is_float run.1) (list_any (λ r. is_float r.1) runs) e in
    run_typed run.0 run.1 (expanded runs) parts.0 (locals_typed runs parts.1)

pub zero_words : (kinds : List ValueType) → words_of (map zero_of kinds) ≡ replicate (length kinds) 0
zero_words [] = refl
zero_words (kind ∷ kinds) = ap₂ (λ n ns. n ∷ ns) (value_word kind 0) (zero_words kinds)

zero_fits : (kind : ValueType) → IsValue (zero_of kind)
zero_fits I32 = omega arith
zero_fits I64 = omega arith
zero_fits F32 = omega arith
zero_fits F64 = omega arith

pub zeros_fit : (kinds : List ValueType) → AllValues (map zero_of kinds)
zeros_fit [] = tt
zeros_fit (kind ∷ kinds) = (zero_fits kind, zeros_fit kinds)

-- ---- globals

pub globals_typed : (globals : List ModuleGlobal) →
    ((i : ℕ) → passes (λ global. is_float global.kind) globals i ≡ false)
    → types_of (map global_value globals) ≡ kinds_of (global_types globals)
globals_typed [] kept = refl
globals_typed (global ∷ globals) kept =
    ap₂ (λ k ks. k ∷ ks) (value_typed global.kind (first_word global.init) (kept 0))
    (globals_typed globals (λ i. kept (suc i)))

pub global_words : (globals : List ModuleGlobal) → first_globals globals ≡ words_of (map global_value globals)
global_words [] = refl
global_words (global ∷ globals) =
    ap₂ (λ n ns. n ∷ ns) (sym (value_word global.kind (first_word global.init))) (global_words globals)

constant_fits : (kind : ValueType) (init : List Op) → not (is_one (is_constant_of kind) init) ≡ false → HasWidth init →
    IsValue (value_of kind (first_word init))
constant_fits kind [] e f = absurd (cc e)
constant_fits I32 (I32Const n ∷ ops) e f = f
constant_fits I64 (I64Const n ∷ ops) e f = f
constant_fits kind (op ∷ ops) e f = absurd (cc e)

pub globals_fit : (globals : List ModuleGlobal) →
    ((i : ℕ) → passes (λ global. not (is_one (is_constant_of global.kind) global.init)) globals i ≡ false)
    → Each (λ global. HasWidth global.init) globals → AllValues (map global_value globals)
globals_fit [] kept fit = tt
globals_fit (global ∷ globals) kept fit =
    (constant_fits global.kind global.init (kept 0) fit.0, globals_fit globals (λ i. kept (suc i)) fit.1)
