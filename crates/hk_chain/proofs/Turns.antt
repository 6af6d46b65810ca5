-- What a turn that runs comes from: an Install, its Definition, and the run of the Definition's code.
use Rattle.std.proofs.Common.{◌≡◌, ℕ, Bool, true, false, not, List, [], refl, arith, Option, Some, None}
use Rattle.std.proofs.Common.{if◌then◌else◌}
use Rattle.std.specs.Str.{bytes_eq}
use Rattle.std.specs.FinMap.{get}
use Rattle.hk_base.specs.declared.ids.AccountId.{AccountId}
use Rattle.hk_base.specs.declared.ids.Hash256.{Hash256}
use Rattle.xo_object.specs.declared.transaction.Grant.{Grant}
use Rattle.xo_object.specs.declared.transaction.Parameter.{Parameter}
use Rattle.hk_bound.specs.declared.fault.Export.{Export}
use Rattle.hk_bound.specs.declared.fault.Export.TheVariants.{Hook, Cbak}
use Rattle.wa_machine.specs.Runs.{Ending}
use Rattle.wa_exec.specs.Runs.{code_run}
use Rattle.hk_state.specs.declared.entry.Entry.{Entry}
use Rattle.hk_state.specs.declared.entry.Entry.TheVariants as entry
use Rattle.hk_state.specs.declared.key.Key.TheVariants as key
use Rattle.hk_state.specs.Fees.{positions}
use Rattle.hk_state.specs.Firing.{fires}
use Rattle.hk_state.specs.Entries.{Entries}
use Rattle.hk_draft.specs.Draft.{Draft}
use Rattle.hk_draft.specs.Ends.{ChainEnd, kept}
use Rattle.hk_api_parts.specs.declared.setting.Setting.{Setting}
use Rattle.hk_api_parts.specs.Skips.{is_skipped}
use Rattle.hk_api.specs.HostState.{HostState}
use Rattle.hk_chain.specs.declared.work.HookRun.{HookRun}
use Rattle.hk_chain.specs.Calls.{hook_meaning}
use Rattle.hk_chain.specs.declared.turn.Turn.{Turn}
use Rattle.hk_chain.specs.Plays.{Passing, Play, idle, plays, begins, leaves, ended, run_bounded, stored_bound}
use Rattle.hk_chain.specs.Plays.{place_of, run_definition, run_turn}
use Rattle.hk_chain.specs.Chain.{no_chain, play_install, play_at, chain_of}
use Rattle.hk_chain.specs.Callback.{callback_install, callback_at, callback_of}
use Rattle.hk_chain.specs.Laws.{HasHook}
use Rattle.hk_chain.proofs.Walking.{Adds, Answers, chain_keeps, callback_keeps}

-- which export runs where, on what, from what passes there
pub record Start : Type 0 where
  pub setting : Setting
  pub number : ℕ
  pub before : Entries
  pub account : AccountId
  pub position : ℕ
  pub which : Export
  pub argument : ℕ
  pub from : Passing

-- the turn of an Install of this hash and namespace
abbrev pub turn : Start → Hash256 → Hash256 → Turn
turn x hash namespace = record {
  account = x.account;
  position = x.position;
  hash = hash;
  namespace = namespace;
  which = x.which;
  argument = x.argument;
}

abbrev pub started : (x : Start) → HasHook x.before x.account x.position → HostState
started x h =
    begins x.setting x.number x.before (place_of (turn x h.hash h.namespace) h.version h.bound_cbak) x.from

-- the hook there ran, and left t
pub record RanBy (x : Start) (t : Passing) (ran : HookRun) : Type 0 where
  pub hook : HasHook x.before x.account x.position
  pub stored : stored_bound x.which hook.bound_hook hook.bound_cbak ≡ Some ran.bound
  pub ending : Ending HostState
  pub runs : code_run hook_meaning hook.version hook.code x.which x.argument (started x hook) ≡ Some ending
  pub left : t ≡ leaves ending.host
  pub count : ran.count ≡ ending.count

abbrev pub PlayedBy : Start → Play → Type 0
PlayedBy x idle = Unit {0}
PlayedBy x (plays t ran) = RanBy x t ran

module _ (x : Start) (hash on namespace : Hash256) (parameters : List Parameter) (grants : List Grant)
    (at : get x.before (key.Install x.account x.position) ≡
    Some (entry.Install hash on namespace parameters grants)) where
  module _ (code : List ℕ) (version bound_hook : ℕ) (bound_cbak : Option ℕ)
      (there : get x.before (key.Definition hash) ≡ Some (entry.Definition code version bound_hook bound_cbak))
    where
      abbrev here : HasHook x.before x.account x.position
      here = record {
        hash = hash;
        on = on;
        namespace = namespace;
        parameters = parameters;
        grants = grants;
        code = code;
        version = version;
        bound_hook = bound_hook;
        bound_cbak = bound_cbak;
        at = at;
        there = there;
      }

      ended_played : (bound : ℕ) → stored_bound x.which bound_hook bound_cbak ≡ Some bound →
          (o : Option (Ending HostState)) → code_run hook_meaning version code x.which x.argument (started x here) ≡ o →
          PlayedBy x (ended bound o)
      ended_played bound stored None runs = tt
      ended_played bound stored (Some e) runs =
          record { hook = here; stored = stored; ending = e; runs = runs; left = refl; count = refl }

      bounded_played : (o : Option ℕ) → stored_bound x.which bound_hook bound_cbak ≡ o →
          PlayedBy x (run_bounded x.setting x.number x.before
          (place_of (turn x hash namespace) version bound_cbak) x.from code x.which x.argument o)
      bounded_played None stored = tt
      bounded_played (Some bound) stored =
          ended_played bound stored (code_run hook_meaning version code x.which x.argument (started x here)) refl

  defined_played : (o : Option Entry) → get x.before (key.Definition hash) ≡ o →
      PlayedBy x (run_definition x.setting x.number x.before (turn x hash namespace) x.from o)
  defined_played (Some (entry.Definition code version bound_hook bound_cbak)) there =
      bounded_played code version bound_hook bound_cbak there (stored_bound x.which bound_hook bound_cbak) refl
  defined_played other there = tt

  turn_played : PlayedBy x (run_turn x.setting x.number x.before (turn x hash namespace) x.from)
  unfolding run_turn
  turn_played = defined_played (get x.before (key.Definition hash)) refl

module _ (setting : Setting) (number : ℕ) (before : Entries) (account : AccountId) where
  -- ---- chains
  abbrev pub hook_start : ℕ → Passing → Start
  hook_start position s = record {
    setting = setting;
    number = number;
    before = before;
    account = account;
    position = position;
    which = Hook;
    argument = 0;
    from = s;
  }

  abbrev pub HookPlayed : ℕ → Passing → Play → Type 0
  HookPlayed position s p = PlayedBy (hook_start position s) p

  module _ (position : ℕ) (s : Passing) where
    due_played : (hash on namespace : Hash256) (parameters : List Parameter) (grants : List Grant) →
        get before (key.Install account position) ≡ Some (entry.Install hash on namespace parameters grants) →
        (fired skipped : Bool) → HookPlayed position s (if not fired then idle else if skipped then idle else
        run_turn setting number before (turn (hook_start position s) hash namespace) s)
    due_played hash on namespace parameters grants at false skipped = tt
    due_played hash on namespace parameters grants at true true = tt
    due_played hash on namespace parameters grants at true false =
        turn_played (hook_start position s) hash on namespace parameters grants at

    hook_played : (o : Option Entry) → get before (key.Install account position) ≡ o →
        HookPlayed position s (play_install setting number before account position s o)
    hook_played (Some (entry.Install hash on namespace parameters grants)) is =
        due_played hash on namespace parameters grants is (fires on setting.transaction.kind)
        (is_skipped hash s.chain.skipped)
    hook_played other is = tt

    play_played : HookPlayed position s (play_at setting number before account position s)
    unfolding play_at
    play_played = hook_played (get before (key.Install account position)) refl

  pub hooks_keep : (P : ChainEnd → Type 0) → Adds account positions HookPlayed P → (d : Draft) → P (kept d []) →
      P (chain_of setting number before account d)
  unfolding chain_of
  hooks_keep P adds d holds =
      chain_keeps account positions (play_at setting number before account) HookPlayed play_played P adds positions 0
      (record { draft = d; chain = no_chain }) [] (omega arith) holds

  -- ---- callbacks
  module _ (hash : Hash256) (argument : ℕ) where
    abbrev pub callback_start : ℕ → Passing → Start
    callback_start position s = record {
      setting = setting;
      number = number;
      before = before;
      account = account;
      position = position;
      which = Cbak;
      argument = argument;
      from = s;
    }

    abbrev pub CallbackPlayed : ℕ → Passing → Play → Type 0
    CallbackPlayed position s p = PlayedBy (callback_start position s) p

    module _ (position : ℕ) (s : Passing) where
      same_played : (other on namespace : Hash256) (parameters : List Parameter) (grants : List Grant) →
          get before (key.Install account position) ≡
          Some (entry.Install other on namespace parameters grants) → (same : Bool) →
          CallbackPlayed position s (if not same then idle else
          run_turn setting number before (turn (callback_start position s) other namespace) s)
      same_played other on namespace parameters grants at false = tt
      same_played other on namespace parameters grants at true =
          turn_played (callback_start position s) other on namespace parameters grants at

      cbak_played : (o : Option Entry) → get before (key.Install account position) ≡ o →
          CallbackPlayed position s (callback_install setting number before account hash argument position s o)
      cbak_played (Some (entry.Install other on namespace parameters grants)) is =
          same_played other on namespace parameters grants is (bytes_eq other.0 hash.0)
      cbak_played other is = tt

      callback_played : CallbackPlayed position s (callback_at setting number before account hash argument position s)
      unfolding callback_at
      callback_played = cbak_played (get before (key.Install account position)) refl

    pub cbaks_keep : (P : ChainEnd → Type 0) (d : Draft) →
        Answers account positions CallbackPlayed (record { draft = d; chain = no_chain }) P →
        P (callback_of setting number before account hash argument d)
    unfolding callback_of
    cbaks_keep P d answers =
        callback_keeps account positions (callback_at setting number before account hash argument) CallbackPlayed
        callback_played (record { draft = d; chain = no_chain }) P answers positions 0 (omega arith)
