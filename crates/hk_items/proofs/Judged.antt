-- What is found in a code, by the answer of its check.
use Rattle.std.proofs.Common.{◌≡◌, ◌≢◌, ◌∙◌, ap, sym, refl, ℕ, List, Option, Some, None}
use Rattle.std.specs.Option.{option_map}
use Rattle.wa_ops.specs.declared.modules.Module.{Module}
use Rattle.wa_ops.specs.HookRules.{is_hook, is_cbak}
use Rattle.wa_ops.specs.Typing.{and_then}
use Rattle.hk_bound.specs.declared.fault.CheckFault.{CheckFault}
use Rattle.hk_bound.specs.declared.fault.CheckFault.TheVariants as fault
use Rattle.hk_bound.specs.Acceptance.{accepted}
use Rattle.hk_bound.specs.Bounds.{export_bound}
use Rattle.hk_bound.specs.Checks.{Held, Holds, IsRefused, hash_of}
use Rattle.hk_bound.proofs.Acceptance.{accepted_is_hook}
use Rattle.hk_bound.proofs.Verdicts.{one_verdict}
use Rattle.hk_items.specs.Checks.{bounded, checked, checked_in, found_in}

-- of a code that is accepted
pub held : (version : ℕ) (code : List ℕ) (h : Held) → Holds version code h → Some (found_in h) ≡ checked_in version code
unfolding checked_in
held version code h holds =
    sym (ap (λ m. and_then m (bounded version code)) ((accepted_is_hook version code h.wasm).1 holds.hook)
    ∙ ap (option_map (λ bound. checked (hash_of version code) bound (export_bound version is_cbak h.wasm)))
    holds.bound_hook
    ∙ (λ i. Some (checked (sym holds.hash i) h.bound_hook (holds.bound_cbak i))))

-- of a code that is refused for a cause of its own
pub refused : (version : ℕ) (code : List ℕ) (found : CheckFault) → found ≢ fault.NoMemory →
    IsRefused version code found → None ≡ checked_in version code
unfolding checked_in
refused version code found apart is =
    elim (accepted version code) as (λ m. accepted version code ≡ m → None ≡ and_then m (bounded version code)) [
      | None ↦ λ none. refl
      | Some m ↦ λ some. absurd (one_verdict version code m found apart ((accepted_is_hook version code m).0 some) is)
    ] refl
