-- The body of an exported function, and its bound.
use Rattle.std.proofs.Common.{ℕ, zero, suc, ◌≡◌, ◌==◌, ◌≤◌, List, [], ◌∷◌, ◌∙◌, if◌then◌else◌, Bool, true, false}
use Rattle.std.proofs.Common.{Option, Some, None, refl, sym, ap, subst, length, arith}
use Rattle.std.specs.Prelude.{slice_get, option_map}
use Rattle.hk_bound.specs.Bounds.{bound_of, export_bound}
use Rattle.hk_bound.specs.Checks.{Held, IsHeld, most}
use Rattle.wa_exec.specs.Runs.{named}
use Rattle.hk_bound.specs.declared.fault.Export.{Export}
use Rattle.hk_bound.specs.declared.fault.Export.TheVariants as «export»
use Rattle.wa_ops.proofs.Parsing.{tree_reads}
use Rattle.wa_ops.proofs.FinerBound.{finer_bound}
use Rattle.wa_ops.specs.Bound.{bound_at}
use Rattle.wa_ops.specs.Contexts.{calls_of}
use Rattle.wa_ops.specs.Functions.{body_of, entry_of}
use Rattle.wa_ops.specs.Sequences.{Sequence, Reads, tree_of}
use Rattle.wa_ops.specs.Soundness.{Each, IsSound, IsSoundBody}
use Rattle.wa_ops.specs.Typing.{and_then}
use Rattle.wa_ops.specs.declared.modules.Code.{Code}
use Rattle.wa_ops.specs.declared.modules.Module.{Module}
use Rattle.wa_ops.specs.declared.modules.ModuleExport.{ModuleExport}
use Rattle.hk_bound.proofs.Refusing.{each_got}

-- the function with this number has this body, of this bound
pub record HasTree (version : ℕ) (m : Module) (func n : ℕ) : Type 0 where
  pub code : Code
  pub tree : Sequence
  pub at : slice_get m.codes func ≡ Some code
  pub parsed : tree_of code.ops ≡ Some tree
  pub body : body_of m func ≡ Some tree
  pub bounded : bound_at version tree ≡ n

has_tree : (version : ℕ) (m : Module) (func n : ℕ) → bound_of version m func ≡ Some n → HasTree version m func n
has_tree version m func n e = at_code (slice_get m.codes func) refl e
  where
    at_tree : (code : Code) → slice_get m.codes func ≡ Some code → (o : Option Sequence) → tree_of code.ops ≡ o →
        option_map (bound_at version) o ≡ Some n → HasTree version m func n
    at_tree code g None h f = absurd (cc f)
    at_tree code g (Some tree) h f = record {
      code = code;
      tree = tree;
      at = g;
      parsed = h;
      body = ap (λ c. and_then c (λ x. tree_of x.ops)) g ∙ h;
      bounded = cc f;
    }

    at_code : (o : Option Code) → slice_get m.codes func ≡ o →
        option_map (bound_at version) (and_then o (λ c. tree_of c.ops)) ≡ Some n → HasTree version m func n
    at_code None g f = absurd (cc f)
    at_code (Some code) g f = at_tree code g (tree_of code.ops) refl f

-- and in a decoded module this code
pub record HasBody (version : ℕ) (m : Module) (func n : ℕ) : Type 0 where
  pub code : Code
  pub tree : Sequence
  pub at : slice_get m.codes func ≡ Some code
  pub reads : Reads code.ops tree
  pub body : body_of m func ≡ Some tree
  pub sound : IsSoundBody code
  pub bounded : bound_at version tree ≡ n

has_body : (version : ℕ) (m : Module) (func n : ℕ) → IsSound m → bound_of version m func ≡ Some n →
    HasBody version m func n
has_body version m func n sound e =
    let t : HasTree version m func n = has_tree version m func n e in
    record {
      code = t.code;
      tree = t.tree;
      at = t.at;
      reads = (tree_reads t.code.ops t.tree).1 t.parsed;
      body = t.body;
      sound = each_got IsSoundBody m.codes func t.code t.at sound.codes.each;
      bounded = t.bounded;
    }

-- the exported function's bound is the export's
pub function_bound : (version : ℕ) (m : Module) (is_named : ModuleExport → Bool) (func n : ℕ) →
    entry_of (length (calls_of m.imports)) is_named m.exports ≡ Some func
    → export_bound version is_named m ≡ Some n → bound_of version m func ≡ Some n
function_bound version m is_named func n entry e = ap (λ o. and_then o (bound_of version m)) (sym entry) ∙ e

pub export_tree : (version : ℕ) (m : Module) (is_named : ModuleExport → Bool) (func n : ℕ) →
    entry_of (length (calls_of m.imports)) is_named m.exports ≡ Some func → export_bound version is_named m ≡ Some n →
    HasTree version m func n
export_tree version m is_named func n entry e =
    has_tree version m func n (function_bound version m is_named func n entry e)

pub export_body : (version : ℕ) (m : Module) (is_named : ModuleExport → Bool) (func n : ℕ) → IsSound m →
    entry_of (length (calls_of m.imports)) is_named m.exports ≡ Some func → export_bound version is_named m ≡ Some n →
    HasBody version m func n
export_body version m is_named func n sound entry e =
    has_body version m func n sound (function_bound version m is_named func n entry e)

-- an export that has a bound has a function
pub record IsExported (m : Module) (is_named : ModuleExport → Bool) : Type 0 where
  pub function : ℕ
  pub entry : entry_of (length (calls_of m.imports)) is_named m.exports ≡ Some function

pub exported : (version : ℕ) (m : Module) (is_named : ModuleExport → Bool) (n : ℕ) →
    export_bound version is_named m ≡ Some n → IsExported m is_named
exported version m is_named n e = at (entry_of (length (calls_of m.imports)) is_named m.exports) refl e
  where
    at : (o : Option ℕ) → entry_of (length (calls_of m.imports)) is_named m.exports ≡ o →
        and_then o (bound_of version m) ≡ Some n → IsExported m is_named
    at None g f = absurd (cc f)
    at (Some function) g f = record { function = function; entry = g }

most_small : (version : ℕ) → most version ≤ 262143
most_small version = at (version == 0)
  where
    at : (first : Bool) → (if first then 65535 else 262143) ≤ 262143
    at true = omega arith
    at false = omega arith

pub bound_small : (which : Export) (held : Held) (n : ℕ) → IsHeld held →
    export_bound held.version (named which) held.wasm ≡ Some n → n ≤ 262143
bound_small «export».Hook held n h e = omega (arith, h.holds.hook.hook n e, most_small held.version)
bound_small «export».Cbak held n h e = omega (arith, h.holds.hook.cbak n e, most_small held.version)

-- no version's bound is less than that of version 1
pub finest : (version : ℕ) (tree : Sequence) → version ≤ 1 → bound_at 1 tree ≤ bound_at version tree
finest zero tree known = finer_bound tree
finest (suc zero) tree known = omega arith
finest (suc (suc version)) tree known = absurd (omega (arith, known))
