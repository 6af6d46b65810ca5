-- Callbacks: what is kept goes on from the draft by what the hook may write.
use Rattle.std.proofs.Common.{◌≡◌, ℕ, inl, true, List, [], ◌∷◌, refl}
use Rattle.hk_base.specs.declared.ids.AccountId.{AccountId}
use Rattle.hk_base.specs.declared.ids.Hash256.{Hash256}
use Rattle.hk_base.specs.declared.outcome.Outcome.{Outcome}
use Rattle.hk_base.specs.declared.outcome.Outcome.TheVariants.{Accepted}
use Rattle.hk_lines.specs.declared.output_line.OutputLine.{OutputLine}
use Rattle.hk_lines.specs.declared.output_line.OutputLine.TheVariants as printed
use Rattle.hk_state.specs.declared.key.StateKey.{StateKey}
use Rattle.hk_state.specs.Fees.{positions}
use Rattle.hk_state.specs.Entries.{Entries}
use Rattle.hk_draft.specs.Lists.{Each}
use Rattle.hk_draft.specs.Draft.{Draft}
use Rattle.hk_draft.specs.Ends.{CalledBack, CallbackFits}
use Rattle.hk_draft.specs.Reads.{reads_emitted}
use Rattle.hk_draft.specs.Writers.{MayWriteBy, IsWriter, CallbackRan, IsCallbackOf}
use Rattle.hk_draft.proofs.Extended.{extends_itself, extends_weaker, others_itself}
use Rattle.hk_api_parts.specs.declared.setting.Setting.{Setting}
use Rattle.hk_api.specs.Leads.{CallsLead}
use Rattle.hk_chain.specs.declared.work.HookRun.{HookRun}
use Rattle.hk_chain.specs.Plays.{Passing}
use Rattle.hk_chain.specs.Chain.{no_chain, is_accepted}
use Rattle.hk_chain.specs.Callback.{callback_line}
use Rattle.hk_chain.specs.Laws.{CallbacksFit, CallbacksShow, IsCallbackOn, lines_of}
use Rattle.hk_chain.proofs.Fitting.{RunFits, run_fits}
use Rattle.hk_chain.proofs.Turns.{callback_start, CallbackPlayed, cbaks_keep}
use Rattle.hk_chain.proofs.Walking.{Answers}

line_ran : (account : AccountId) (position : ℕ) (outcome : Outcome) (count bound : ℕ) → is_accepted outcome ≡ true →
    IsCallbackOf account position (printed.Callback account position outcome count bound)
line_ran account position (Accepted code text) count bound accepted = (refl, refl)
line_ran account position other count bound accepted = absurd (cc accepted)

module _ (setting : Setting) (number : ℕ) (before : Entries) (account : AccountId) (hash : Hash256) (argument : ℕ) where
  abbrev seq : ℕ
  seq = setting.header.seq

  abbrev Writer : List OutputLine → StateKey → Type 0
  Writer records = IsWriter before (CallbackRan records)

  one_ran : (position : ℕ) (s t : Passing) (ran : HookRun) → is_accepted ran.outcome ≡ true →
      RunFits (callback_start setting number before account hash argument position s) t.draft →
      CalledBack reads_emitted seq before s.draft t.draft (callback_line account position ran ∷ [])
  one_ran position s t ran accepted one =
      let here = line_ran account position ran.outcome ran.count ran.bound accepted in
      record {
        extends = extends_weaker reads_emitted seq (MayWriteBy before one.hash account)
            (Writer (callback_line account position ran ∷ []))
            (λ q may. record {
              account = account;
              position = position;
              ran = inl here;
              hash = one.hash;
              at = one.at;
              may = may;
            })
            s.draft t.draft one.extends;
        others = one.others;
        one = tt;
        none = λ e. absurd (cc e);
      }

  none_ran : (d : Draft) → CalledBack reads_emitted seq before d d []
  none_ran d = record {
    extends = extends_itself reads_emitted seq (Writer []) d;
    others = others_itself d.entries;
    one = tt;
    none = λ e. refl;
  }

  fits : CallsLead → (d : Draft) →
      Answers account positions (CallbackPlayed setting number before account hash argument)
      (record { draft = d; chain = no_chain }) (CallbackFits reads_emitted seq before d)
  fits lead d =
      let s : Passing = record { draft = d; chain = no_chain } in
      record {
        none = none_ran d;
        accepted = λ position t ran low r accepted. one_ran position s t ran accepted
            (run_fits lead (callback_start setting number before account hash argument position s) t ran r);
        dropped = λ position t ran low r. tt;
      }

  shows : (d : Draft) → Answers account positions (CallbackPlayed setting number before account hash argument)
      (record { draft = d; chain = no_chain }) (λ end. Each (IsCallbackOn account) (lines_of end))
  shows d = record {
    none = tt;
    accepted = λ position t ran low r accepted. ((refl, low), tt);
    dropped = λ position t ran low r. ((refl, low), tt);
  }

pub callbacks_fit : CallsLead → CallbacksFit
callbacks_fit lead setting number before account hash argument d =
    cbaks_keep setting number before account hash argument (CallbackFits reads_emitted setting.header.seq before d) d
    (fits setting number before account hash argument lead d)

pub callbacks_show : CallbacksShow
callbacks_show setting number before account hash argument d =
    cbaks_keep setting number before account hash argument (λ end. Each (IsCallbackOn account) (lines_of end)) d
    (shows setting number before account hash argument d)
