-- The positions of a callback, one after the other.
use Rattle.std.proofs.Common.{◌≡◌, ◌∙◌, ℕ, suc, ◌+◌, [], sym, ap, subst}
use Rattle.hk_base.specs.declared.ids.AccountId.{AccountId}
use Rattle.hk_state.specs.Entries.{Entries}
use Rattle.hk_draft.specs.Ends.{ChainEnd, kept}
use Rattle.hk_chain.specs.declared.work.HookRun.{HookRun}
use Rattle.hk_chain.specs.declared.work.Work.{Work}
use Rattle.hk_chain.specs.declared.work.Played.TheVariants as played
use Rattle.hk_chain.specs.declared.ending.ChainEnd as declared
use Rattle.hk_chain.specs.Plays.{Passing, Play, idle, plays}
use Rattle.hk_chain.specs.Callback.{callback_from, called}
use Rattle.hk_chain.specs.Meets.{EndMeans, IsPlay, passing}

module _ (m : Entries) (account : AccountId) (position : ℕ) (s : Passing) where
  passes : (p : Play) (work : Work) (later : Passing → ChainEnd) → IsPlay m s p (played.Idle work) →
      called account position p (later s) ≡ later (passing m work)
  passes idle work later same = ap later (sym same)
  passes (plays t ran) work later none = absurd none

  runs : (p : Play) (work : Work) (run : HookRun) (later : ChainEnd) → IsPlay m s p (played.Ran work run) →
      called account position (plays (passing m work) run) later ≡ called account position p later
  runs idle work run later none = absurd none
  runs (plays t ran) work run later is =
      ap (λ u. called account position (plays u run) later) is.0
      ∙ ap (λ (r : HookRun). called account position (plays t r) later) is.1

-- from a position on, with so many left
module _ (m : Entries) (account : AccountId) (play : ℕ → Passing → Play) (position left next : ℕ)
    (more : left ≡ suc next) (s : Passing) (end : ChainEnd)
    (so : callback_from account play left position s ≡ end) where
  abbrev onward : Passing → ChainEnd
  onward t = callback_from account play next (position + 1) t

  at_position : called account position (play position s) (onward s) ≡ end
  unfolding callback_from
  at_position = ap (λ n. callback_from account play n position s) (sym more) ∙ so

  pub next_idle : (work : Work) → IsPlay m s (play position s) (played.Idle work) →
      callback_from account play next (position + 1) (passing m work) ≡ end
  next_idle work is = sym (passes m account position s (play position s) work onward is) ∙ at_position

  pub ends_here : (work : Work) (run : HookRun) (found : declared.ChainEnd) →
      IsPlay m s (play position s) (played.Ran work run) →
      ((later : ChainEnd) → EndMeans m (called account position (plays (passing m work) run) later) found) →
      EndMeans m end found
  ends_here work run found is means =
      subst (λ e. EndMeans m e found)
      (runs m account position s (play position s) work run (onward s) is ∙ at_position) (means (onward s))

-- past the last position
pub over : (account : AccountId) (play : ℕ → Passing → Play) (position left : ℕ) (s : Passing) (end : ChainEnd) →
    left ≡ 0 → callback_from account play left position s ≡ end → kept s.draft [] ≡ end
unfolding callback_from
over account play position left s end none so = ap (λ n. callback_from account play n position s) (sym none) ∙ so
