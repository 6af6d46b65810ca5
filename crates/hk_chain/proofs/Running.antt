-- From a run over a checked hook to the turn's play.
use Rattle.std.proofs.Common.{◌≡◌, ◌∙◌, ℕ, Bool, true, false, List, Option, Some, None, if◌then◌else◌, nat_lt, refl}
use Rattle.std.proofs.Common.{sym, ap, ap₂, subst}
use Rattle.hk_bound.specs.Acceptance.{module_in}
use Rattle.hk_bound.specs.Checks.{Held, Holds}
use Rattle.hk_bound.specs.declared.fault.Export.{Export}
use Rattle.wa_ops.specs.Typing.{and_then}
use Rattle.wa_ops.specs.declared.modules.Module.{Module}
use Rattle.wa_machine.proofs.Kept.{CallsKeep, run_keeps}
use Rattle.wa_machine.specs.Machine.{HostMeaning}
use Rattle.wa_machine.specs.Runs.{Ending, IsRun, run_of}
use Rattle.wa_exec.specs.Runs.{CodeRunIs, code_run, named}
use Rattle.hk_api_pure.specs.Table.{pure_call}
use Rattle.hk_api.specs.HostState.{HostState}
use Rattle.hk_api.specs.Leads.{CallsLead}
use Rattle.hk_api.specs.Table.{answers}
use Rattle.hk_state.specs.Entries.{Entries}
use Rattle.hk_api_parts.specs.declared.place.Place.{Place}
use Rattle.hk_api_parts.specs.declared.setting.Setting.{Setting}
use Rattle.hk_draft.specs.Drafted.{draft_of}
use Rattle.hk_state.specs.Writes.{with_writes}
use Rattle.hk_api.specs.Fits.{IsFit, ReservesFit}
use Rattle.hk_chain.specs.declared.work.Work.{Work}
use Rattle.hk_chain.specs.declared.work.Played.TheVariants as played
use Rattle.hk_chain.specs.Meets.{IsPlay, WorkFits, passing}
use Rattle.hk_chain.specs.Calls.{hook_answers, hook_meaning, unchanged}
use Rattle.std.specs.FinMap.{get}
use Rattle.std.specs.Prelude.{not}
use Rattle.hk_base.specs.declared.ids.AccountId.{AccountId}
use Rattle.hk_base.specs.declared.ids.Hash256.{Hash256}
use Rattle.xo_object.specs.declared.transaction.Grant.{Grant}
use Rattle.xo_object.specs.declared.transaction.Parameter.{Parameter}
use Rattle.hk_state.specs.declared.entry.Entry.TheVariants as entry
use Rattle.hk_state.specs.declared.key.Key.TheVariants as key
use Rattle.hk_state.specs.Firing.{fires}
use Rattle.hk_api_parts.specs.Skips.{is_skipped}
use Rattle.hk_chain.specs.declared.turn.Turn.{Turn}
use Rattle.hk_chain.specs.Chain.{hook_turn, play_at, play_install}
use Rattle.hk_chain.specs.Plays.{Passing, Play, idle, begins, ended, leaves, place_of, plays, run_bounded}
use Rattle.hk_chain.specs.Plays.{run_definition, run_turn, stored_bound}

-- what each call keeps, the run of a code keeps
pub code_run_keeps : {S : Type 0} (P : S → Type 0) (meaning : HostMeaning S) → CallsKeep P meaning →
    (version : ℕ) (code : List ℕ) (which : Export) (argument : ℕ) (before : S) (e : Ending S) → P before →
    code_run meaning version code which argument before ≡ Some e → P e.host
unfolding code_run
code_run_keeps P meaning keep version code which argument before e holds ran = at (module_in version code) ran
  where
    at : (found : Option Module) → and_then found (λ m. run_of meaning m (named which) argument before) ≡ Some e →
        P e.host
    at None none = absurd (cc none)
    at (Some m) some = run_keeps P meaning keep m (named which) argument before e holds some

-- no call changes the entries as the event began
before_by : CallsLead → (m : Entries) (pure : Bool) (h : HostState) (row : ℕ) (arguments memory : List ℕ) →
    h.before ≡ m →
    (if pure then unchanged h (pure_call row arguments memory) else answers h row arguments memory).after.before ≡ m
before_by lead m true h row arguments memory same = same
before_by lead m false h row arguments memory same = (lead h row arguments memory).before ∙ same

calls_keep_before : CallsLead → (m : Entries) → CallsKeep (λ (h : HostState). h.before ≡ m) hook_meaning
unfolding hook_answers
calls_keep_before lead m h row arguments memory same = before_by lead m (nat_lt row 27) h row arguments memory same

module _ (law : CodeRunIs HostState) (setting : Setting) (number : ℕ) (before : Entries) (place : Place) (s : Passing)
    (code : List ℕ) (which : Export) (argument : ℕ) (held : Held) (holds : Holds place.version code held)
    (e : Ending HostState)
    (run : IsRun hook_meaning held.wasm (named which) argument (begins setting number before place s) e.outcome
    e.count e.host) where
  ran : code_run hook_meaning place.version code which argument (begins setting number before place s) ≡ Some e
  ran =
      law hook_meaning place.version code held.wasm which argument (begins setting number before place s) e.outcome
      e.count e.host holds.hook run

  pub is_play : (bound : ℕ) → run_bounded setting number before place s code which argument (Some bound)
      ≡ plays (leaves e.host) (record { outcome = e.outcome; count = e.count; bound = bound })
  is_play bound = ap (ended bound) ran

  pub before_stays : CallsLead → e.host.before ≡ before
  before_stays lead = code_run_keeps (λ (h : HostState). h.before ≡ before) hook_meaning (calls_keep_before lead before)
      place.version code which argument (begins setting number before place s) e refl ran

  -- what is at work behind the run is what it leaves
  same_work : CallsLead → (work : Work) → draft_of e.host.before work.overlay work.emissions ≡ e.host.draft →
      work.chain ≡ e.host.chain → passing before work ≡ leaves e.host
  same_work lead work draft chain =
      ap₂ (λ d c. record { draft = d; chain = c })
      (ap (λ m. draft_of m work.overlay work.emissions) (sym (before_stays lead)) ∙ draft) chain

  pub plays_so : (bound : ℕ) → CallsLead → (work : Work) →
      draft_of e.host.before work.overlay work.emissions ≡ e.host.draft → work.chain ≡ e.host.chain →
      IsPlay before s (run_bounded setting number before place s code which argument (Some bound))
      (played.Ran work (record { outcome = e.outcome; count = e.count; bound = bound }))
  plays_so bound lead work draft chain =
      subst (λ p. IsPlay before s p (played.Ran work (record { outcome = e.outcome; count = e.count; bound = bound })))
      (sym (is_play bound)) (same_work lead work draft chain, refl)

  pub fits_so : CallsLead → (m : Entries) (work : Work) → IsFit setting before m →
      ReservesFit (with_writes e.host.before work.overlay) → WorkFits setting before work
  fits_so lead m work was reserves = record {
    reserves = subst (λ b. ReservesFit (with_writes b work.overlay)) (before_stays lead) reserves;
    fees = was.fees;
    object = was.object;
    short = was.short;
    burden = was.burden;
  }

-- a turn whose Definition is there is the run of its export
pub turn_is : (setting : Setting) (number : ℕ) (before : Entries) (t : Turn) (s : Passing) (code : List ℕ)
    (version bound_hook : ℕ) (bound_cbak : Option ℕ) (bound : ℕ) (place : Place) →
    get before (key.Definition t.hash) ≡ Some (entry.Definition code version bound_hook bound_cbak) →
    stored_bound t.which bound_hook bound_cbak ≡ Some bound → place ≡ place_of t version bound_cbak →
    run_turn setting number before t s
    ≡ run_bounded setting number before place s code t.which t.argument (Some bound)
unfolding run_turn
turn_is setting number before t s code version bound_hook bound_cbak bound place there e same =
    ap (run_definition setting number before t s) there
    ∙ ap (run_bounded setting number before (place_of t version bound_cbak) s code t.which t.argument) e
    ∙ ap (λ p. run_bounded setting number before p s code t.which t.argument (Some bound)) (sym same)

-- a position whose Install fires and isn't skipped has its turn
pub play_is : (setting : Setting) (number : ℕ) (before : Entries) (account : AccountId) (position : ℕ) (s : Passing)
    (hash on namespace : Hash256) (parameters : List Parameter) (grants : List Grant) →
    get before (key.Install account position) ≡ Some (entry.Install hash on namespace parameters grants) →
    fires on setting.transaction.kind ≡ true → is_skipped hash s.chain.skipped ≡ false →
    play_at setting number before account position s
    ≡ run_turn setting number before (hook_turn account position hash namespace) s
unfolding play_at
play_is setting number before account position s hash on namespace parameters grants there fired unskipped =
    ap (play_install setting number before account position s) there
    ∙ ap (λ b. if not b then idle else turned (is_skipped hash s.chain.skipped)) fired ∙ ap turned unskipped
  where
    turned : Bool → Play
    turned b = if b then idle else run_turn setting number before (hook_turn account position hash namespace) s
