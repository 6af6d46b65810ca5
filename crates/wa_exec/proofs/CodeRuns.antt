-- The runs of a code's bytes, as a function and as a relation.
use Rattle.std.proofs.Common.{ℕ, ◌≡◌, ◌≤◌, ◌∙◌, List, Option, Some, None, length, refl, ap, arith}
use Rattle.std.specs.Prelude.{option_map}
use Rattle.hk_base.specs.declared.outcome.Outcome.{Outcome}
use Rattle.hk_bound.proofs.Acceptance.{module_in_back, module_in_forth}
use Rattle.hk_bound.specs.Acceptance.{module_in}
use Rattle.hk_bound.specs.Bounds.{bound_of, export_bound}
use Rattle.hk_bound.specs.Checks.{IsHook}
use Rattle.hk_bound.specs.declared.fault.Export.{Export}
use Rattle.wa_exec.proofs.OneEnding.{one_ending}
use Rattle.wa_exec.proofs.Ready.{module_runs}
use Rattle.wa_exec.specs.Runs.{CodeRunEnds, CodeRunIs, CodesRun, IsRunOf, IsRunWithin, code_run, named}
use Rattle.wa_machine.proofs.Endings.{run_ends, run_is}
use Rattle.wa_machine.specs.Law.{WithinBound}
use Rattle.wa_machine.specs.Machine.{HostMeaning}
use Rattle.wa_machine.specs.Runs.{Ending, IsRun, finest_bound, run_of}
use Rattle.wa_ops.specs.Bound.{bound_at}
use Rattle.wa_ops.specs.Contexts.{calls_of}
use Rattle.wa_ops.specs.Functions.{body_of}
use Rattle.wa_ops.specs.Typing.{and_then}
use Rattle.wa_ops.specs.declared.modules.Module.{Module}

-- a run of accepted code ends within the bound of version 1, and so the function finds it
found_run : (S : Type 0) → WithinBound S →
    (meaning : HostMeaning S) (version : ℕ) (code : List ℕ) (m : Module) (which : Export) (argument : ℕ) (before : S)
    (outcome : Outcome) (count : ℕ) (after : S)
    → IsHook version code m → IsRun meaning m (named which) argument before outcome count after
    → run_of meaning m (named which) argument before ≡ Some (record { outcome = outcome; count = count; host = after })
found_run S law meaning version code m which argument before outcome count after hook r =
    let finest : finest_bound m (named which) ≡ Some (bound_at 1 r.code) =
    ap (λ o. and_then o (λ function. and_then (body_of m function) (λ code. Some (bound_at 1 code)))) r.entry
    ∙ ap (λ o. and_then o (λ code. Some (bound_at 1 code))) r.body in
    let bound : export_bound 1 (named which) m ≡ Some (bound_at 1 r.code) =
    ap (λ o. and_then o (bound_of 1 m)) r.entry ∙ ap (option_map (bound_at 1)) r.body in
    let w : IsRunWithin meaning m (named which) argument before (bound_at 1 r.code) =
    module_runs S law m hook.ruled hook.typed which 1 meaning argument before (bound_at 1 r.code) (omega arith) bound in
    let same =
    one_ending S meaning m (named which) argument before w.outcome outcome w.count count w.after after w.run r in
    run_is S meaning m (named which) argument before outcome count (bound_at 1 r.code) after finest
    (omega (arith, w.within, same.1)) r

pub code_run_is : (S : Type 0) → WithinBound S → CodeRunIs S
unfolding code_run
code_run_is S law meaning version code m which argument before outcome count after hook r =
    ap (λ o. and_then o (λ found. run_of meaning found (named which) argument before))
    (module_in_forth version code m hook.spelled.spelled)
    ∙ found_run S law meaning version code m which argument before outcome count after hook r

pub code_run_ends : (S : Type 0) → CodeRunEnds S
unfolding code_run
code_run_ends S meaning version code which argument before e h = at (module_in version code) refl h
  where
    at : (o : Option Module) → module_in version code ≡ o →
        and_then o (λ m. run_of meaning m (named which) argument before) ≡ Some e →
        IsRunOf meaning version code which argument before e
    at None f k = absurd (cc k)
    at (Some m) f k =
        let r = run_ends S meaning m (named which) argument before e k in
        record { wasm = m; spelled = module_in_back version code m f; run = r.3 }

pub codes_run : (S : Type 0) → WithinBound S → CodesRun S
codes_run S law meaning version code m which argument before n known hook bound =
    let w : IsRunWithin meaning m (named which) argument before n =
    module_runs S law m hook.ruled hook.typed which version meaning argument before n known bound in
    record {
      ending = record { outcome = w.outcome; count = w.count; host = w.after };
      is = code_run_is S law meaning version code m which argument before w.outcome w.count w.after hook w.run;
      within = w.within;
    }
