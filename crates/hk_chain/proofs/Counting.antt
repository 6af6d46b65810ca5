-- Where each Definition stores its bounds: they are on the lines, each count is within them, and a turn runs to an end.
use Rattle.std.proofs.Common.{◌≡◌, ℕ, ◌≤◌, not, List, [], ◌∷◌, ◌++◌, refl, sym, ap, subst, ◌∙◌, Option, Some}
use Rattle.std.proofs.Common.{if◌then◌else◌}
use Rattle.std.specs.FinMap.{get}
use Rattle.std.proofs.lemmas.Option.{same_Some}
use Rattle.std.proofs.lemmas.Slice.Eq.{bytes_eq-Decides}
use Rattle.hk_base.specs.declared.ids.AccountId.{AccountId}
use Rattle.hk_base.specs.declared.ids.Hash256.{Hash256}
use Rattle.hk_bound.specs.declared.fault.Export.{Export}
use Rattle.wa_machine.specs.Runs.{Ending}
use Rattle.wa_exec.specs.Runs.{CodeEnds, CodesRun}
use Rattle.hk_lines.specs.declared.output_line.OutputLine.{OutputLine}
use Rattle.hk_state.specs.declared.entry.Entry.TheVariants as entry
use Rattle.hk_state.specs.declared.key.Key.TheVariants as key
use Rattle.hk_state.specs.Fees.{positions}
use Rattle.hk_state.specs.Entries.{Entries}
use Rattle.hk_draft.specs.Lists.{Each}
use Rattle.hk_draft.proofs.Extended.{each-append}
use Rattle.hk_api_parts.specs.declared.setting.Setting.{Setting}
use Rattle.hk_api_parts.specs.Skips.{is_skipped}
use Rattle.hk_api.specs.HostState.{HostState}
use Rattle.hk_chain.specs.declared.work.HookRun.{HookRun}
use Rattle.hk_chain.specs.Calls.{hook_meaning}
use Rattle.hk_chain.specs.declared.turn.Turn.{Turn}
use Rattle.hk_chain.specs.Plays.{Passing, idle, plays, begins, ended, run_bounded, stored_bound, place_of}
use Rattle.hk_chain.specs.Plays.{run_definition, run_turn}
use Rattle.hk_chain.specs.Chain.{no_chain, hook_turn, hook_line, play_install, play_at}
use Rattle.hk_chain.specs.Callback.{cbak_turn, callback_line, callback_install, callback_at}
use Rattle.hk_chain.specs.Programs.{IsStored, AreStored}
use Rattle.hk_chain.specs.Laws.{IsBounded, HasBound, ChainsBounded, CallbacksBounded, HasRun, HooksRun, CallbacksRun}
use Rattle.hk_chain.specs.Laws.{lines_of}
use Rattle.hk_chain.proofs.Keeping.{stored_export}
use Rattle.hk_chain.proofs.Turns.{Start, started, RanBy, hook_start, HookPlayed, hooks_keep}
use Rattle.hk_chain.proofs.Turns.{callback_start, CallbackPlayed, cbaks_keep}
use Rattle.hk_chain.proofs.Walking.{Adds, Answers}

-- code whose bound is stored runs to an end within it, from any host
code_ends : CodesRun HostState → (code : List ℕ) (version bound_hook : ℕ) (bound_cbak : Option ℕ)
    (is : IsStored code version bound_hook bound_cbak) (which : Export) (argument : ℕ) (h : HostState) (bound : ℕ) →
    stored_bound which bound_hook bound_cbak ≡ Some bound → CodeEnds hook_meaning version code which argument h bound
code_ends run code version bound_hook bound_cbak is which argument h bound stored =
    run hook_meaning version code is.wasm which argument h bound is.known is.hook
    (stored_export code version bound_hook bound_cbak which bound is stored)

-- ---- lines

-- a run is within the bound on its line, and that is its hook's
ran_within : CodesRun HostState → (x : Start) → AreStored x.before → (t : Passing) (ran : HookRun) → RanBy x t ran →
    IsBounded x.before x.which x.account x.position ran.count ran.bound
ran_within run x all t ran r =
    let h = r.hook in
    let is = all h.hash h.code h.version h.bound_hook h.bound_cbak h.there in
    let ends = code_ends run h.code h.version h.bound_hook h.bound_cbak is x.which x.argument (started x h) ran.bound
    r.stored in
    let same = same_Some ends.ending r.ending (sym ends.is ∙ r.runs) in
    record {
      installed = h;
      stored = r.stored;
      wasm = is.wasm;
      hook = is.hook;
      bound_is = stored_export h.code h.version h.bound_hook h.bound_cbak x.which ran.bound is r.stored;
      within = subst (λ n. n ≤ ran.bound) (ap (λ (e : Ending HostState). e.count) same ∙ sym r.count) ends.within;
    }

module _ (run : CodesRun HostState) (setting : Setting) (number : ℕ) (before : Entries) (all : AreStored before)
    (account : AccountId) where
  abbrev AreBounded : List OutputLine → Type 0
  AreBounded records = Each (HasBound before) records

  hook_bounded : (position : ℕ) (s t : Passing) (ran : HookRun) (records : List OutputLine) →
      HookPlayed setting number before account position s (plays t ran) → AreBounded records →
      AreBounded (records ++ hook_line account position ran ∷ [])
  hook_bounded position s t ran records r so_far =
      each-append (HasBound before) records (hook_line account position ran ∷ []) so_far
      (ran_within run (hook_start setting number before account position s) all t ran r, tt)

  hooks_bounded : Adds account positions (HookPlayed setting number before account) (λ end. AreBounded (lines_of end))
  hooks_bounded = record {
    accepted = λ position s t ran records low r accepted so_far. hook_bounded position s t ran records r so_far;
    dropped = λ position s t ran records low r so_far. hook_bounded position s t ran records r so_far;
  }

  module _ (hash : Hash256) (argument : ℕ) (s : Passing) where
    cbak_bounded : (position : ℕ) (t : Passing) (ran : HookRun) →
        CallbackPlayed setting number before account hash argument position s (plays t ran) →
        AreBounded (callback_line account position ran ∷ [])
    cbak_bounded position t ran r =
        (ran_within run (callback_start setting number before account hash argument position s) all t ran r, tt)

    cbaks_bounded : Answers account positions (CallbackPlayed setting number before account hash argument) s
        (λ end. AreBounded (lines_of end))
    cbaks_bounded = record {
      none = tt;
      accepted = λ position t ran low r accepted. cbak_bounded position t ran r;
      dropped = λ position t ran low r. cbak_bounded position t ran r;
    }

pub chains_bounded : CodesRun HostState → ChainsBounded
chains_bounded run setting number before account d all =
    hooks_keep setting number before account (λ end. Each (HasBound before) (lines_of end))
    (hooks_bounded run setting number before all account) d tt

pub callbacks_bounded : CodesRun HostState → CallbacksBounded
callbacks_bounded run setting number before account hash argument d all =
    cbaks_keep setting number before account hash argument (λ end. Each (HasBound before) (lines_of end)) d
    (cbaks_bounded run setting number before all account hash argument (record { draft = d; chain = no_chain }))

-- ---- turns

-- a turn whose export is there runs to an end
turn_runs : CodesRun HostState → (setting : Setting) (number : ℕ) (before : Entries) → AreStored before → (t : Turn)
    (s : Passing) (code : List ℕ) (version bound_hook : ℕ) (bound_cbak : Option ℕ) (bound : ℕ) →
    get before (key.Definition t.hash) ≡ Some (entry.Definition code version bound_hook bound_cbak) →
    stored_bound t.which bound_hook bound_cbak ≡ Some bound → HasRun bound (run_turn setting number before t s)
unfolding run_turn
turn_runs run setting number before all t s code version bound_hook bound_cbak bound there stored =
    let place = place_of t version bound_cbak in
    let is = all t.hash code version bound_hook bound_cbak there in
    let ends = code_ends run code version bound_hook bound_cbak is t.which t.argument
    (begins setting number before place s) bound stored in
    subst (λ o. HasRun bound (run_definition setting number before t s o)) (sym there)
    (subst (λ o. HasRun bound (run_bounded setting number before place s code t.which t.argument o)) (sym stored)
    (subst (λ o. HasRun bound (ended bound o)) (sym ends.is) (refl, ends.within)))

pub hooks_run : CodesRun HostState → HooksRun
unfolding play_at
hooks_run run setting number before account position s h all fired unskipped =
    let t = hook_turn account position h.hash h.namespace in
    subst (λ o. HasRun h.bound_hook (play_install setting number before account position s o)) (sym h.at)
    (subst (λ fire. HasRun h.bound_hook (if not fire then idle else
    if is_skipped h.hash s.chain.skipped then idle else run_turn setting number before t s)) (sym fired)
    (subst (λ skip. HasRun h.bound_hook (if skip then idle else run_turn setting number before t s)) (sym unskipped)
    (turn_runs run setting number before all t s h.code h.version h.bound_hook h.bound_cbak h.bound_hook h.there refl)))

pub callbacks_run : CodesRun HostState → CallbacksRun
unfolding callback_at
callbacks_run run setting number before account position argument s h bound all stored =
    let t = cbak_turn account position h.hash h.namespace argument in
    subst (λ o. HasRun bound (callback_install setting number before account h.hash argument position s o)) (sym h.at)
    (subst (λ same. HasRun bound (if not same then idle else run_turn setting number before t s))
    (sym ((bytes_eq-Decides h.hash.0 h.hash.0).1 refl))
    (turn_runs run setting number before all t s h.code h.version h.bound_hook h.bound_cbak bound h.there stored))
