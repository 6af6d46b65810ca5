-- Acceptance as a function and as a relation; each code has a verdict.
use Rattle.std.proofs.Common.{ℕ, ◌≡◌, ◌≢◌, ◌⊎◌, ◌<◌, ◌≤◌, ◌∙◌, inl, inr, List, Bool, true, false, Option, Some, None}
use Rattle.std.proofs.Common.{length, refl, sym, ap, subst, arith}
use Rattle.std.specs.Prelude.{◌==◌, ◌&&◌, if◌then◌else◌, nat_le}
use Rattle.std.proofs.lemmas.Bool.{and_from, and_parts, eqb-true, leb-true, leb-false, le-leb}
use Rattle.std.proofs.lemmas.Option.{same_Some}
use Rattle.wa_decode.proofs.ModuleReaders.{module_back, module_forth}
use Rattle.wa_decode.specs.ModuleReading.{module_at}
use Rattle.wa_decode.specs.Modules.{Spells}
use Rattle.wa_decode.specs.Versions.{SpellsIn, has_extensions}
use Rattle.wa_ops.specs.declared.modules.Module.{Module}
use Rattle.wa_ops.specs.declared.modules.ModuleExport.{ModuleExport}
use Rattle.wa_ops.specs.HookRules.{IsRuled, is_cbak, is_hook}
use Rattle.wa_ops.specs.Typing.{and_then}
use Rattle.wa_validate.proofs.AreTyped.{some_untyped, typing_decided}
use Rattle.wa_validate.specs.AreTyped.{are_typed}
use Rattle.hk_rules.proofs.Ruling.{rules_decided, some_first}
use Rattle.hk_rules.specs.Ruling.{is_ruled}
use Rattle.hk_bound.specs.Acceptance.{AcceptedIsHook, IsFaulty, SomeVerdict, accepted, if_allowed, in_version}
use Rattle.hk_bound.specs.Acceptance.{is_at_most, is_within, module_in, is_allowed}
use Rattle.hk_bound.specs.Bounds.{export_bound}
use Rattle.hk_bound.specs.Checks.{AllTyped, IsHook, IsPast, IsSpelled, IsWithin, longest, most}
use Rattle.hk_bound.specs.declared.fault.CheckFault.{CheckFault}
use Rattle.hk_bound.specs.declared.fault.CheckFault.TheVariants as fault
use Rattle.hk_bound.specs.declared.fault.Export.TheVariants as «export»

-- ---- decoding in a version

version_back : (version : ℕ) (m found : Module) → in_version version found ≡ Some m →
    (found ≡ m) × (version ≡ 0 → has_extensions m ≡ false)
version_back version m found = at (version == 0) (has_extensions found) refl refl
  where
    at : (first new : Bool) → (version == 0) ≡ first → has_extensions found ≡ new →
        (if first && new then None else Some found) ≡ Some m
        → (found ≡ m) × (version ≡ 0 → has_extensions m ≡ false)
    at true true e n h = absurd (cc h)
    at true false e n h = (same_Some found m h, λ first. ap has_extensions (sym (same_Some found m h)) ∙ n)
    at false new e n h =
        (same_Some found m h, λ first. let k : true ≡ false = sym (ap (λ v. v == 0) first) ∙ e in absurd (cc k))

pub module_in_back : (version : ℕ) (code : List ℕ) (m : Module) → module_in version code ≡ Some m →
    SpellsIn version m code
unfolding module_in
module_in_back version code m h = at (module_at code) refl h
  where
    at : (o : Option Module) → module_at code ≡ o → and_then o (in_version version) ≡ Some m → SpellsIn version m code
    at None e k = absurd (cc k)
    at (Some found) e k =
        let v = version_back version m found k in
        record { spelled = module_back code m (e ∙ ap Some v.0); plain = v.1 }

version_forth : (version : ℕ) (m : Module) → (version ≡ 0 → has_extensions m ≡ false) → in_version version m ≡ Some m
version_forth version m plain = at (version == 0) refl
  where
    at : (first : Bool) → (version == 0) ≡ first → (if first && has_extensions m then None else Some m) ≡ Some m
    at false e = refl
    at true e = ap (λ new. if new then None else Some m) (plain (eqb-true version 0 e))

pub module_in_forth : (version : ℕ) (code : List ℕ) (m : Module) → SpellsIn version m code →
    module_in version code ≡ Some m
unfolding module_in
module_in_forth version code m s =
    ap (λ o. and_then o (in_version version)) (module_forth m code s.spelled) ∙ version_forth version m s.plain

-- ---- bounds

within_back : (version : ℕ) (is_named : ModuleExport → Bool) (m : Module) → is_within version is_named m ≡ true →
    IsWithin version is_named m
within_back version is_named m h n bound = leb-true n (most version) (ap (is_at_most (most version)) (sym bound) ∙ h)

within_forth : (version : ℕ) (is_named : ModuleExport → Bool) (m : Module) → IsWithin version is_named m →
    is_within version is_named m ≡ true
within_forth version is_named m within = at (export_bound version is_named m) refl
  where
    at : (o : Option ℕ) → export_bound version is_named m ≡ o → is_at_most (most version) o ≡ true
    at None e = refl
    at (Some n) e = le-leb n (most version) (within n e)

past_of : (version : ℕ) (is_named : ModuleExport → Bool) (m : Module) → is_within version is_named m ≡ false →
    (n : ℕ) × IsPast version is_named m n
past_of version is_named m h = at (export_bound version is_named m) refl h
  where
    at : (o : Option ℕ) → export_bound version is_named m ≡ o → is_at_most (most version) o ≡ false →
        (n : ℕ) × IsPast version is_named m n
    at None e k = absurd (cc k)
    at (Some n) e k = (n, record { bound = e; large = leb-false n (most version) k })

-- ---- the function

allowed_back : (version : ℕ) (code : List ℕ) (m : Module) → SpellsIn version m code → is_allowed version code m ≡ true →
    IsHook version code m
allowed_back version code m spelled h =
    let parts =
    and_parts (nat_le (length code) longest)
    (is_ruled m && (are_typed m && (is_within version is_hook m && is_within version is_cbak m))) h in
    let ruled =
    and_parts (is_ruled m) (are_typed m && (is_within version is_hook m && is_within version is_cbak m)) parts.1 in
    let typed = and_parts (are_typed m) (is_within version is_hook m && is_within version is_cbak m) ruled.1 in
    let bounds = and_parts (is_within version is_hook m) (is_within version is_cbak m) typed.1 in
    record {
      spelled = record { short = leb-true (length code) longest parts.0; spelled = spelled };
      ruled = (rules_decided m).0 ruled.0;
      typed = (typing_decided m).0 typed.0;
      hook = within_back version is_hook m bounds.0;
      cbak = within_back version is_cbak m bounds.1;
    }

allowed_forth : (version : ℕ) (code : List ℕ) (m : Module) → IsHook version code m → is_allowed version code m ≡ true
allowed_forth version code m h =
    and_from (nat_le (length code) longest)
    (is_ruled m && (are_typed m && (is_within version is_hook m && is_within version is_cbak m)))
    (le-leb (length code) longest h.spelled.short)
    (and_from (is_ruled m) (are_typed m && (is_within version is_hook m && is_within version is_cbak m))
    ((rules_decided m).1 h.ruled)
    (and_from (are_typed m) (is_within version is_hook m && is_within version is_cbak m) ((typing_decided m).1 h.typed)
    (and_from (is_within version is_hook m) (is_within version is_cbak m) (within_forth version is_hook m h.hook)
    (within_forth version is_cbak m h.cbak))))

if_back : (b : Bool) (found m : Module) → (if b then Some found else None) ≡ Some m → (b ≡ true) × (found ≡ m)
if_back true found m h = (refl, same_Some found m h)
if_back false found m h = absurd (cc h)

accepted_back : (version : ℕ) (code : List ℕ) (m : Module) → accepted version code ≡ Some m → IsHook version code m
unfolding accepted
accepted_back version code m h = at (module_in version code) refl h
  where
    at : (o : Option Module) → module_in version code ≡ o → and_then o (if_allowed version code) ≡ Some m →
        IsHook version code m
    at None e k = absurd (cc k)
    at (Some found) e k =
        let p = if_back (is_allowed version code found) found m k in
        subst (IsHook version code) p.1 (allowed_back version code found (module_in_back version code found e) p.0)

accepted_forth : (version : ℕ) (code : List ℕ) (m : Module) → IsHook version code m → accepted version code ≡ Some m
unfolding accepted
accepted_forth version code m h =
    ap (λ o. and_then o (if_allowed version code)) (module_in_forth version code m h.spelled.spelled)
    ∙ ap (λ b. if b then Some m else None) (allowed_forth version code m h)

pub accepted_is_hook : AcceptedIsHook
accepted_is_hook version code m = (accepted_back version code m, accepted_forth version code m)

-- ---- each code has a verdict

abbrev Judged : ℕ → List ℕ → Type 0
Judged version code = ((m : Module) × IsHook version code m) ⊎ IsFaulty version code

judge_cbak : (version : ℕ) (code : List ℕ) (m : Module) → IsSpelled version code m → IsRuled m → AllTyped m →
    IsWithin version is_hook m → Judged version code
judge_cbak version code m spelled ruled typed hook = at (is_within version is_cbak m) refl
  where
    at : (b : Bool) → is_within version is_cbak m ≡ b → Judged version code
    at true e =
        inl (
          m,
          record {
            spelled = spelled;
            ruled = ruled;
            typed = typed;
            hook = hook;
            cbak = within_back version is_cbak m e;
          },
        )
    at false e =
        let p = past_of version is_cbak m e in
        inr (record {
          found = fault.BoundTooLarge «export».Cbak p.0;
          refused = record { wasm = m; spelled = spelled; ruled = ruled; typed = typed; hook = hook; past = p.1 };
          apart = λ same. cc same;
        })

judge_hook : (version : ℕ) (code : List ℕ) (m : Module) → IsSpelled version code m → IsRuled m → AllTyped m →
    Judged version code
judge_hook version code m spelled ruled typed = at (is_within version is_hook m) refl
  where
    at : (b : Bool) → is_within version is_hook m ≡ b → Judged version code
    at true e = judge_cbak version code m spelled ruled typed (within_back version is_hook m e)
    at false e =
        let p = past_of version is_hook m e in
        inr (record {
          found = fault.BoundTooLarge «export».Hook p.0;
          refused = record { wasm = m; spelled = spelled; ruled = ruled; typed = typed; past = p.1 };
          apart = λ same. cc same;
        })

judge_typing : (version : ℕ) (code : List ℕ) (m : Module) → IsSpelled version code m → IsRuled m → Judged version code
judge_typing version code m spelled ruled = at (are_typed m) refl
  where
    at : (b : Bool) → are_typed m ≡ b → Judged version code
    at true e = judge_hook version code m spelled ruled ((typing_decided m).0 e)
    at false e =
        let u = some_untyped m e in
        inr (record {
          found = fault.Untyped u.0 u.1;
          refused = record { wasm = m; spelled = spelled; ruled = ruled; untyped = u.2 };
          apart = λ same. cc same;
        })

judge_rules : (version : ℕ) (code : List ℕ) (m : Module) → IsSpelled version code m → Judged version code
judge_rules version code m spelled = at (is_ruled m) refl
  where
    at : (b : Bool) → is_ruled m ≡ b → Judged version code
    at true e = judge_typing version code m spelled ((rules_decided m).0 e)
    at false e =
        let f = some_first m e in
        inr (record {
          found = fault.Rule f.0;
          refused = record { wasm = m; spelled = spelled; first = f.1 };
          apart = λ same. cc same;
        })

judge_spelling : (version : ℕ) (code : List ℕ) → length code ≤ longest → Judged version code
judge_spelling version code short = at (module_in version code) refl
  where
    at : (o : Option Module) → module_in version code ≡ o → Judged version code
    at (Some m) e = judge_rules version code m (record { short = short; spelled = module_in_back version code m e })
    at None e = inr (record {
      found = fault.Malformed;
      refused = (short, λ m s. let k : None ≡ Some m = sym e ∙ module_in_forth version code m s in absurd (cc k));
      apart = λ same. cc same;
    })

pub some_verdict : SomeVerdict
some_verdict version code = at (nat_le (length code) longest) refl
  where
    at : (b : Bool) → nat_le (length code) longest ≡ b → Judged version code
    at true e = judge_spelling version code (leb-true (length code) longest e)
    at false e =
        inr (record { found = fault.TooLong; refused = leb-false (length code) longest e; apart = λ same. cc same })
