-- What each call of a hook keeps, the run of its code keeps.
use Rattle.std.proofs.Common.{◌≡◌, ℕ, Bool, true, false, List, Some, nat_lt, if◌then◌else◌}
use Rattle.hk_bound.specs.declared.fault.Export.{Export}
use Rattle.wa_machine.proofs.Kept.{CallsKeep}
use Rattle.wa_machine.specs.Runs.{Ending}
use Rattle.wa_exec.specs.Runs.{code_run}
use Rattle.hk_api_pure.specs.Table.{pure_call}
use Rattle.hk_api.specs.HostState.{HostState}
use Rattle.hk_api.specs.Leads.{Leads, CallsLead}
use Rattle.hk_api.specs.Table.{answers}
use Rattle.hk_api.proofs.Leading.{leads_same, leads_then}
use Rattle.hk_chain.specs.Calls.{unchanged, hook_answers, hook_meaning}
use Rattle.hk_chain.proofs.Running.{code_run_keeps}

module _ (lead : CallsLead) (h : HostState) where
  leads_by : (b : Bool) (s : HostState) (row : ℕ) (arguments memory : List ℕ) → Leads h s →
      Leads h (if b then unchanged s (pure_call row arguments memory) else answers s row arguments memory).after
  leads_by true s row arguments memory so_far = so_far
  leads_by false s row arguments memory so_far =
      leads_then h s (answers s row arguments memory).after so_far (lead s row arguments memory)

  calls_keep_lead : CallsKeep (Leads h) hook_meaning
  unfolding hook_answers
  calls_keep_lead s row arguments memory so_far = leads_by (nat_lt row 27) s row arguments memory so_far

  pub code_leads : (version : ℕ) (code : List ℕ) (which : Export) (argument : ℕ) (e : Ending HostState) →
      code_run hook_meaning version code which argument h ≡ Some e → Leads h e.host
  code_leads version code which argument e runs =
      code_run_keeps (Leads h) hook_meaning calls_keep_lead version code which argument h e (leads_same h) runs
