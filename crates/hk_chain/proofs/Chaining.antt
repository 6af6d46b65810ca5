-- The positions of a chain, one after the other.
use Rattle.std.proofs.Common.{◌≡◌, ◌∙◌, ℕ, zero, suc, ◌+◌, ◌≤◌, Bool, true, false, List, [], ◌∷◌, ◌++◌}
use Rattle.std.proofs.Common.{Option, Some, None, if◌then◌else◌, refl, sym, ap, arith}
use Rattle.std.specs.Option.{is_some}
use Rattle.hk_base.specs.declared.ids.AccountId.{AccountId}
use Rattle.hk_lines.specs.declared.output_line.OutputLine.{OutputLine}
use Rattle.hk_state.specs.Entries.{Entries}
use Rattle.hk_state.specs.Installs.{IsNext}
use Rattle.hk_draft.specs.Ends.{ChainEnd, kept, rejected}
use Rattle.hk_api_parts.specs.declared.setting.Setting.{Setting}
use Rattle.hk_chain.specs.declared.work.HookRun.{HookRun}
use Rattle.hk_chain.specs.declared.work.Work.{Work}
use Rattle.hk_chain.specs.declared.work.Played.TheVariants as played
use Rattle.hk_chain.specs.Plays.{Passing, Play, idle, plays}
use Rattle.hk_chain.specs.Chain.{chain_from, goes_on, hook_line, is_accepted, play_at, play_install}
use Rattle.hk_chain.specs.Meets.{IsPlay, passing}

-- the lines with that of a run at a position
abbrev pub with_line : AccountId → ℕ → List OutputLine → HookRun → List OutputLine
with_line account position records run = records ++ hook_line account position run ∷ []

module _ (m : Entries) (account : AccountId) (position : ℕ) (s : Passing) (records : List OutputLine)
    (go : Passing → List OutputLine → ChainEnd) where
  idles : (p : Play) (work : Work) → IsPlay m s p (played.Idle work) →
      goes_on account position p s records go ≡ go (passing m work) records
  idles idle work same = ap (λ t. go t records) (sym same)
  idles (plays t ran) work none = absurd none

  -- what comes of a run, where it is accepted so
  came : (t : Passing) (ran run : HookRun) (b : Bool) → run ≡ ran → is_accepted run.outcome ≡ b →
      goes_on account position (plays t ran) s records go
      ≡ (if b then go t (with_line account position records run) else rejected (with_line account position records run))
  came t ran run b is so =
      ap (λ (r : HookRun). goes_on account position (plays t r) s records go) (sym is)
      ∙ ap (λ c. if c then go t (with_line account position records run)
      else rejected (with_line account position records run)) so

  accepts : (p : Play) (work : Work) (run : HookRun) → IsPlay m s p (played.Ran work run) →
      is_accepted run.outcome ≡ true →
      goes_on account position p s records go ≡ go (passing m work) (with_line account position records run)
  accepts idle work run none ok = absurd none
  accepts (plays t ran) work run is ok =
      came t ran run true is.1 ok ∙ ap (λ u. go u (with_line account position records run)) (sym is.0)

  rejects : (p : Play) (work : Work) (run : HookRun) → IsPlay m s p (played.Ran work run) →
      is_accepted run.outcome ≡ false →
      goes_on account position p s records go ≡ rejected (with_line account position records run)
  rejects idle work run none not_so = absurd none
  rejects (plays t ran) work run is not_so = came t ran run false is.1 not_so

-- from a position on, with so many left
module _ (m : Entries) (account : AccountId) (play : ℕ → Passing → Play) (position left next : ℕ)
    (more : left ≡ suc next) (s : Passing) (records : List OutputLine) (end : ChainEnd)
    (so : chain_from account play left position s records ≡ end) where
  abbrev onward : Passing → List OutputLine → ChainEnd
  onward t lines = chain_from account play next (position + 1) t lines

  at_position : goes_on account position (play position s) s records onward ≡ end
  unfolding chain_from
  at_position = ap (λ n. chain_from account play n position s records) (sym more) ∙ so

  pub next_idle : (work : Work) → IsPlay m s (play position s) (played.Idle work) →
      chain_from account play next (position + 1) (passing m work) records ≡ end
  next_idle work is = sym (idles m account position s records onward (play position s) work is) ∙ at_position

  pub next_ran : (work : Work) (run : HookRun) → IsPlay m s (play position s) (played.Ran work run) →
      is_accepted run.outcome ≡ true →
      chain_from account play next (position + 1) (passing m work) (with_line account position records run) ≡ end
  next_ran work run is ok =
      sym (accepts m account position s records onward (play position s) work run is ok) ∙ at_position

  pub stops : (work : Work) (run : HookRun) → IsPlay m s (play position s) (played.Ran work run) →
      is_accepted run.outcome ≡ false → rejected (with_line account position records run) ≡ end
  stops work run is not_so =
      sym (rejects m account position s records onward (play position s) work run is not_so) ∙ at_position

-- positions without a hook leave what is at work
pub idle_on : (account : AccountId) (play : ℕ → Passing → Play) (left position : ℕ) (s : Passing)
    (records : List OutputLine) → ((p : ℕ) → position ≤ p → play p s ≡ idle) →
    chain_from account play left position s records ≡ kept s.draft records
unfolding chain_from
idle_on account play zero position s records none = refl
idle_on account play (suc left) position s records none =
    ap (λ p. goes_on account position p s records (λ t lines. chain_from account play left (position + 1) t lines))
    (none position (omega arith))
    ∙ idle_on account play left (position + 1) s records (λ p le. none p (omega (arith, le)))

-- no Install from a position on
pub no_more : (setting : Setting) (number : ℕ) (m : Entries) (account : AccountId) (left position : ℕ)
    (next : Option ℕ) (s : Passing) (records : List OutputLine) (end : ChainEnd) → IsNext m account position next →
    is_some next ≡ false → chain_from account (play_at setting number m account) left position s records ≡ end →
    kept s.draft records ≡ end
unfolding play_at
no_more setting number m account left position None s records end none gone so =
    sym (idle_on account (play_at setting number m account) left position s records
    (λ p le. ap (play_install setting number m account p s) (none p le))) ∙ so
no_more setting number m account left position (Some next) s records end is gone so =
    let differ : true ≡ false = gone in cc

-- past the last position
pub over : (account : AccountId) (play : ℕ → Passing → Play) (position left : ℕ) (s : Passing)
    (records : List OutputLine) (end : ChainEnd) → left ≡ 0 →
    chain_from account play left position s records ≡ end → kept s.draft records ≡ end
unfolding chain_from
over account play position left s records end none so =
    ap (λ n. chain_from account play n position s records) (sym none) ∙ so
