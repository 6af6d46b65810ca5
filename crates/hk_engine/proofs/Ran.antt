-- Runs, chains and callbacks keep the limits of ledgers.
use Rattle.std.proofs.Common.{◌≡◌, sym, subst, ℕ, List, Some}
use Rattle.hk_base.specs.declared.ids.AccountId.{AccountId}
use Rattle.hk_base.specs.declared.ids.Hash256.{Hash256}
use Rattle.hk_bound.specs.declared.fault.Export.{Export}
use Rattle.wa_machine.specs.Runs.{Ending}
use Rattle.wa_exec.specs.Runs.{code_run}
use Rattle.hk_state.specs.Entries.{Entries}
use Rattle.hk_state.specs.Fees.{positions}
use Rattle.hk_state.specs.Reserves.{reserve}
use Rattle.hk_draft.specs.Draft.{Draft}
use Rattle.hk_draft.specs.Ends.{ChainEnd, kept, rejected}
use Rattle.hk_api_parts.specs.declared.setting.Setting.{Setting}
use Rattle.hk_api.specs.HostState.{HostState}
use Rattle.hk_chain.specs.declared.work.HookRun.{HookRun}
use Rattle.hk_chain.specs.Calls.{hook_answers, hook_meaning}
use Rattle.hk_chain.specs.Callback.{callback_of}
use Rattle.hk_chain.specs.Chain.{no_chain, chain_of}
use Rattle.hk_chain.specs.Plays.{Passing}
use Rattle.hk_chain.proofs.Running.{code_run_keeps}
use Rattle.hk_chain.proofs.Turns.{Start, started, RanBy, hook_start, HookPlayed, hooks_keep, callback_start}
use Rattle.hk_chain.proofs.Turns.{CallbackPlayed, cbaks_keep}
use Rattle.hk_chain.proofs.Walking.{Adds, Answers}
use Rattle.hk_events.specs.Complete.{SizesFit}
use Rattle.hk_events.specs.Limits.{WithinFit, RoomFit}
use Rattle.hk_engine.specs.Kept.{KeepsLimits, CallKeeps, EndKeeps}
use Rattle.hk_engine.proofs.Called.{calls_keep, keeps_itself, keeps_further}
use Rattle.hk_engine.proofs.Written.{limits_itself, limits_further}

-- ---- runs

code_keeps : (h : HostState) (version : ℕ) (code : List ℕ) (which : Export) (argument : ℕ) (e : Ending HostState) →
    code_run hook_meaning version code which argument h ≡ Some e → CallKeeps h e.host
code_keeps h version code which argument e runs =
    code_run_keeps (CallKeeps h) hook_meaning
    (λ s row arguments memory so_far.
    keeps_further h s (hook_answers s row arguments memory).after so_far (calls_keep s row arguments memory))
    version code which argument h e (keeps_itself h) runs

run_keeps : (x : Start) (t : Passing) (ran : HookRun) → RanBy x t ran → KeepsLimits x.number x.from.draft t.draft
run_keeps x t ran r =
    let all : CallKeeps (started x r.hook) r.ending.host =
    code_keeps (started x r.hook) r.hook.version r.hook.code x.which x.argument r.ending r.runs in
    subst (λ p. KeepsLimits x.number x.from.draft p.draft) (sym r.left) all.limits

-- ---- chains and callbacks

module _ (setting : Setting) (number : ℕ) (before : Entries) (account : AccountId) (d : Draft) where
  hooks_add : Adds account positions (HookPlayed setting number before account) (EndKeeps number d)
  hooks_add = record {
    accepted = λ position s t ran records low r accepted so_far.
        limits_further number d s.draft t.draft so_far
        (run_keeps (hook_start setting number before account position s) t ran r);
    dropped = λ position s t ran records low r so_far. tt;
  }

  pub chain_keeps : EndKeeps number d (chain_of setting number before account d)
  chain_keeps = hooks_keep setting number before account (EndKeeps number d) hooks_add d (limits_itself number d)

  module _ (hash : Hash256) (argument : ℕ) where
    cbak_answers : Answers account positions (CallbackPlayed setting number before account hash argument)
        (record { draft = d; chain = no_chain }) (EndKeeps number d)
    cbak_answers =
        let s : Passing = record { draft = d; chain = no_chain } in
        record {
          none = limits_itself number d;
          accepted = λ position t ran low r accepted.
              run_keeps (callback_start setting number before account hash argument position s) t ran r;
          dropped = λ position t ran low r. tt;
        }

    pub callback_keeps : EndKeeps number d (callback_of setting number before account hash argument d)
    callback_keeps = cbaks_keep setting number before account hash argument (EndKeeps number d) d cbak_answers

-- ---- what an end keeps, as events ask for it

pub sizes_fit : (next : ℕ) (a : Draft) (x : ChainEnd) → EndKeeps next a x → SizesFit a x
sizes_fit next a (kept b records) keeps = keeps.sizes
sizes_fit next a (rejected records) keeps = tt

pub limits_fit : (next : ℕ) (a : Draft) (x : ChainEnd) → EndKeeps next a x → WithinFit reserve a x × RoomFit next a x
limits_fit next a (kept b records) keeps = (keeps.reserves, keeps.room)
limits_fit next a (rejected records) keeps = (tt, tt)
