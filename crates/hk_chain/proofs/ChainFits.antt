-- Chains: what is kept goes on from the draft by what the hooks that accepted may write.
use Rattle.std.proofs.Common.{◌≡◌, ℕ, inl, inr, true, List, [], ◌∷◌, ◌++◌, refl}
use Rattle.hk_base.specs.declared.ids.AccountId.{AccountId}
use Rattle.hk_base.specs.declared.outcome.Outcome.{Outcome}
use Rattle.hk_base.specs.declared.outcome.Outcome.TheVariants.{Accepted}
use Rattle.hk_lines.specs.declared.output_line.OutputLine.{OutputLine}
use Rattle.hk_lines.specs.declared.output_line.OutputLine.TheVariants as printed
use Rattle.hk_state.specs.declared.key.StateKey.{StateKey}
use Rattle.hk_state.specs.Fees.{positions}
use Rattle.hk_state.specs.Entries.{Entries}
use Rattle.hk_draft.specs.Lists.{Each, SomeOf}
use Rattle.hk_draft.specs.Draft.{Draft}
use Rattle.hk_draft.specs.Ends.{Chained, ChainFits}
use Rattle.hk_draft.specs.Reads.{reads_emitted}
use Rattle.hk_draft.specs.Writers.{MayWriteBy, IsWriter, HookRan, IsHook, IsHookOf}
use Rattle.hk_draft.proofs.Extended.{extends_itself, extends_further, extends_weaker, others_itself, others_further}
use Rattle.hk_draft.proofs.Somewhere.{some-front}
use Rattle.hk_draft.proofs.Extended.{each-append}
use Rattle.hk_api_parts.specs.declared.setting.Setting.{Setting}
use Rattle.hk_api.specs.Leads.{CallsLead}
use Rattle.hk_chain.specs.declared.work.HookRun.{HookRun}
use Rattle.hk_chain.specs.Plays.{Passing}
use Rattle.hk_chain.specs.Chain.{is_accepted, hook_line}
use Rattle.hk_chain.specs.Laws.{ChainsFit, ChainsShow, IsHookOn, lines_of}
use Rattle.hk_chain.proofs.Fitting.{RunFits, run_fits}
use Rattle.hk_chain.proofs.Turns.{hook_start, HookPlayed, hooks_keep}
use Rattle.hk_chain.proofs.Walking.{Adds}

some_last : {X : Type 0} (P : X → Type 0) (xs : List X) (y : X) → P y → SomeOf P (xs ++ y ∷ [])
some_last P [] y h = inl h
some_last P (x ∷ xs) y h = inr (some_last P xs y h)

line_ran : (account : AccountId) (position : ℕ) (outcome : Outcome) (count bound : ℕ) → is_accepted outcome ≡ true →
    IsHookOf account position (printed.Hook account position outcome count bound)
line_ran account position (Accepted code text) count bound accepted = (refl, refl)
line_ran account position other count bound accepted = absurd (cc accepted)

module _ (setting : Setting) (number : ℕ) (before : Entries) (account : AccountId) where
  abbrev seq : ℕ
  seq = setting.header.seq

  abbrev Writer : List OutputLine → StateKey → Type 0
  Writer records = IsWriter before (HookRan records)

  writer_stays : (records more : List OutputLine) (q : StateKey) → Writer records q → Writer (records ++ more) q
  writer_stays records more q w = record {
    account = w.account;
    position = w.position;
    ran = some-front (IsHookOf w.account w.position) records more w.ran;
    hash = w.hash;
    at = w.at;
    may = w.may;
  }

  -- a run that is accepted goes behind those before
  one_more : (d : Draft) (position : ℕ) (s t : Passing) (ran : HookRun) (records : List OutputLine) →
      is_accepted ran.outcome ≡ true → Chained reads_emitted seq before d s.draft records →
      RunFits (hook_start setting number before account position s) t.draft →
      Chained reads_emitted seq before d t.draft (records ++ hook_line account position ran ∷ [])
  one_more d position s t ran records accepted so_far one =
      let line = hook_line account position ran in
      let all = records ++ line ∷ [] in
      let here : HookRan all account position =
      some_last (IsHookOf account position) records line
      (line_ran account position ran.outcome ran.count ran.bound accepted) in
      record {
        extends = extends_further reads_emitted seq (Writer all) d s.draft t.draft
            (extends_weaker reads_emitted seq (Writer records) (Writer all) (writer_stays records (line ∷ [])) d s.draft
            so_far.extends)
            (extends_weaker reads_emitted seq (MayWriteBy before one.hash account) (Writer all)
            (λ q may. record {
              account = account;
              position = position;
              ran = here;
              hash = one.hash;
              at = one.at;
              may = may;
            })
            s.draft t.draft one.extends);
        others = others_further d.entries s.draft.entries t.draft.entries so_far.others one.others;
        hooks = each-append IsHook records (line ∷ []) so_far.hooks (tt, tt);
      }

  nothing_ran : (d : Draft) → Chained reads_emitted seq before d d []
  nothing_ran d = record {
    extends = extends_itself reads_emitted seq (Writer []) d;
    others = others_itself d.entries;
    hooks = tt;
  }

  fits : CallsLead → (d : Draft) →
      Adds account positions (HookPlayed setting number before account) (ChainFits reads_emitted seq before d)
  fits lead d = record {
    accepted = λ position s t ran records low r accepted so_far.
        one_more d position s t ran records accepted so_far
        (run_fits lead (hook_start setting number before account position s) t ran r);
    dropped = λ position s t ran records low r so_far.
        each-append IsHook records (hook_line account position ran ∷ []) so_far.hooks (tt, tt);
  }

  shows : Adds account positions (HookPlayed setting number before account)
      (λ end. Each (IsHookOn account) (lines_of end))
  shows = record {
    accepted = λ position s t ran records low r accepted so_far.
        each-append (IsHookOn account) records (hook_line account position ran ∷ []) so_far ((refl, low), tt);
    dropped = λ position s t ran records low r so_far.
        each-append (IsHookOn account) records (hook_line account position ran ∷ []) so_far ((refl, low), tt);
  }

pub chains_fit : CallsLead → ChainsFit
chains_fit lead setting number before account d =
    hooks_keep setting number before account (ChainFits reads_emitted setting.header.seq before d)
    (fits setting number before account lead d) d (nothing_ran setting number before account d)

pub chains_show : ChainsShow
chains_show setting number before account d =
    hooks_keep setting number before account (λ end. Each (IsHookOn account) (lines_of end))
    (shows setting number before account) d tt
