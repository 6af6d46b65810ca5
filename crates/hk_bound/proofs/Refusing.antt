-- From the fault of one part of the check to the refusal of the code.
use Rattle.std.proofs.Common.{ℕ, ◌≡◌, ◌≢◌, ◌<◌, ◌≤◌, ◌==◌, ◌&&◌, true, false, suc, zero, List, [], ◌∷◌, ◌∙◌, Option}
use Rattle.std.proofs.Common.{Some, refl, sym, ap, subst, length}
use Rattle.std.specs.Prelude.{slice_get, Result, Err, IsErrAnd, IfErr}
use Rattle.std.proofs.lemmas.Bool.{and_parts, eqb-true}
use Rattle.std.proofs.lemmas.Result.{err_from_is_err_and}
use Rattle.wa_decode.proofs.ModuleReaders.{one_module}
use Rattle.wa_decode.specs.Modules.{Spells}
use Rattle.wa_decode.specs.Versions.{SpellsIn, has_extensions}
use Rattle.wa_ops.specs.declared.modules.Code.{Code}
use Rattle.wa_ops.specs.declared.modules.Module.{Module}
use Rattle.wa_ops.specs.declared.rule_fault.RuleFault.{RuleFault}
use Rattle.wa_ops.specs.declared.rule_fault.RuleFault.TheVariants as rule_fault
use Rattle.wa_ops.specs.HookRules.{IsFirst, IsRuled, hook_rules, is_hook}
use Rattle.wa_ops.specs.Soundness.{AreSound, Each, IsSoundBody}
use Rattle.wa_validate.specs.Needs.{AllBodies, IsBodyCode}
use Rattle.hk_bound.specs.Checks.{AllTyped, BreaksRules, FailsTyping, IsCbakFault, IsHookFault, IsRefused, IsSpelled}
use Rattle.hk_bound.specs.Checks.{IsWithin, fault_of}
use Rattle.hk_bound.specs.declared.fault.CheckFault.{CheckFault}
use Rattle.hk_bound.specs.declared.fault.CheckFault.TheVariants as fault
use Rattle.hk_bound.specs.declared.fault.Export.TheVariants as «export»

-- ---- the version's operators

-- no module is spelled in a version that lacks an operator of the one that the bytes spell
pub unspelled : (version : ℕ) (code : List ℕ) (m : Module) → Spells m code →
    ((version == 0) && has_extensions m) ≡ true → (other : Module) → SpellsIn version other code → ⊥
unspelled version code m spelled new other s =
    let parts = and_parts (version == 0) (has_extensions m) new in
    let same : other ≡ m = one_module code other m s.spelled spelled in
    let e : true ≡ false = sym parts.1 ∙ ap has_extensions (sym same) ∙ s.plain (eqb-true version 0 parts.0) in
    absurd cc

pub spelled_in : (version : ℕ) (code : List ℕ) (m : Module) → Spells m code →
    ((version == 0) && has_extensions m) ≡ false → SpellsIn version m code
spelled_in version code m spelled known = record {
  spelled = spelled;
  plain = λ e. subst (λ v. ((v == 0) && has_extensions m) ≡ false) e known;
}

-- ---- the parts of the check

pub breaks_by : (m : Module) (found : RuleFault) → (found ≢ rule_fault.NoMemory → IsFirst (hook_rules m) found) →
    BreaksRules m (fault_of found)
breaks_by m rule_fault.NoMemory first = tt
breaks_by m found first = first (λ e. cc e)

pub refused_typing : (version : ℕ) (code : List ℕ) (m : Module) (found : CheckFault) → IsSpelled version code m →
    IsRuled m → FailsTyping m found → IsRefused version code found
refused_typing version code m (fault.Untyped func op) spelled ruled fails = record {
  wasm = m;
  spelled = spelled;
  ruled = ruled;
  untyped = fails;
}
refused_typing version code m fault.NoMemory spelled ruled fails = tt
refused_typing version code m found spelled ruled fails = absurd fails

pub refused_hook : (version : ℕ) (code : List ℕ) (m : Module) (found : CheckFault) → IsSpelled version code m →
    IsRuled m → AllTyped m → IsHookFault version m found → IsRefused version code found
refused_hook version code m (fault.BoundTooLarge «export».Hook n) spelled ruled typed past = record {
  wasm = m;
  spelled = spelled;
  ruled = ruled;
  typed = typed;
  past = past;
}
refused_hook version code m found spelled ruled typed past = absurd past

pub refused_cbak : (version : ℕ) (code : List ℕ) (m : Module) (found : CheckFault) → IsSpelled version code m →
    IsRuled m → AllTyped m → IsWithin version is_hook m → IsCbakFault version m found → IsRefused version code found
refused_cbak version code m (fault.BoundTooLarge «export».Cbak n) spelled ruled typed hook past = record {
  wasm = m;
  spelled = spelled;
  ruled = ruled;
  typed = typed;
  hook = hook;
  past = past;
}
refused_cbak version code m found spelled ruled typed hook past = absurd past

-- the exit of a `?`
pub exits_with : {A : Type 0} {Q : CheckFault → Type 0} (P : CheckFault → Type 0) (found : CheckFault)
    (r : Result A CheckFault)
    → IsErrAnd r Q → ((e : CheckFault) → Q e → e ≡ found) → P found → IfErr r P
exits_with P found r is same holds =
    let p = err_from_is_err_and r is in
    let e : r ≡ Err found = p.1 ∙ ap Err (same p.0 p.2) in
    let R : Result _ CheckFault → Type 0 = λ x. IfErr x P in subst R (sym e) holds

-- ---- what typing needs

pub each_got : {A : Type 0} (P : A → Type 0) (xs : List A) (i : ℕ) (x : A) → slice_get xs i ≡ Some x → Each P xs → P x
each_got P [] i x e each = absurd (cc e)
each_got P (y ∷ xs) zero x e each = subst P (cc e) each.0
each_got P (y ∷ xs) (suc i) x e each = each_got P xs i x e each.1

pub all_bodies : (codes : List Code) → AreSound IsSoundBody codes → AllBodies codes
all_bodies codes sound function code e =
    let body : IsSoundBody code = each_got IsSoundBody codes function code e sound.each in
    record { nested = body.ops.nested; short = body.ops.sound.counted }
