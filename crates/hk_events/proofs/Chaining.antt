-- Chains of both sides go on from the draft that they begin with.
use Rattle.std.proofs.Common.{ℕ, List, [], ◌∷◌, ◌++◌}
use Rattle.hk_base.specs.declared.ids.AccountId.{AccountId}
use Rattle.hk_lines.specs.declared.output_line.OutputLine.{OutputLine}
use Rattle.hk_reading.specs.declared.reading.Reading.{Reading}
use Rattle.hk_state.specs.declared.key.StateKey.{StateKey}
use Rattle.hk_state.specs.Entries.{Entries}
use Rattle.hk_draft.specs.Draft.{Draft}
use Rattle.hk_draft.specs.Ends.{ChainEnd, kept, rejected, Chained, ChainFits}
use Rattle.hk_draft.specs.Extends.{Extends}
use Rattle.hk_draft.specs.Writers.{IsWriter, HookRan, IsHook, IsHookOf}
use Rattle.hk_draft.proofs.Extended.{each-append, extends_itself, extends_further, extends_weaker, others_itself}
use Rattle.hk_draft.proofs.Extended.{others_further}
use Rattle.hk_draft.proofs.Somewhere.{some-front, some-behind}
use Rattle.hk_events.specs.Complete.{AreSized, SizesFit}
use Rattle.hk_events.specs.Chains.{behind, onward, chains}

-- a writer by more runs
pub writer_by : (before : Entries) (Ran More : AccountId → ℕ → Type 0) →
    ((account : AccountId) (position : ℕ) → Ran account position → More account position) → (q : StateKey) →
    IsWriter before Ran q → IsWriter before More q
writer_by before Ran More more q w = record {
  account = w.account;
  position = w.position;
  ran = more w.account w.position w.ran;
  hash = w.hash;
  at = w.at;
  may = w.may;
}

module _ (reads : List ℕ → Reading) (seq : ℕ) (before : Entries) where
  pub more_runs : (a b : Draft) (records more : List OutputLine) →
      Extends reads seq (IsWriter before (HookRan records)) a b →
      Extends reads seq (IsWriter before (HookRan (records ++ more))) a b
  more_runs a b records more one =
      extends_weaker reads seq (IsWriter before (HookRan records)) (IsWriter before (HookRan (records ++ more)))
      (writer_by before (HookRan records) (HookRan (records ++ more))
      (λ account position ran. some-front (IsHookOf account position) records more ran)) a b one

  earlier_runs : (a b : Draft) (records more : List OutputLine) →
      Extends reads seq (IsWriter before (HookRan more)) a b →
      Extends reads seq (IsWriter before (HookRan (records ++ more))) a b
  earlier_runs a b records more one =
      extends_weaker reads seq (IsWriter before (HookRan more)) (IsWriter before (HookRan (records ++ more)))
      (writer_by before (HookRan more) (HookRan (records ++ more))
      (λ account position ran. some-behind (IsHookOf account position) records more ran)) a b one

  behind_fits : (a b : Draft) (records : List OutputLine) → Chained reads seq before a b records → (x : ChainEnd) →
      ChainFits reads seq before b x → ChainFits reads seq before a (behind records x)
  behind_fits a b records one (kept c more) two = record {
    extends = extends_further reads seq (IsWriter before (HookRan (records ++ more))) a b c
        (more_runs a b records more one.extends) (earlier_runs b c records more two.extends);
    others = others_further a.entries b.entries c.entries one.others two.others;
    hooks = each-append IsHook records more one.hooks two.hooks;
  }
  behind_fits a b records one (rejected more) two = each-append IsHook records more one.hooks two

  onward_fits : (a : Draft) (x : ChainEnd) (later : Draft → ChainEnd) → ChainFits reads seq before a x →
      ((b : Draft) → ChainFits reads seq before b (later b)) → ChainFits reads seq before a (onward x later)
  onward_fits a (kept b records) later one two = behind_fits a b records one (later b) (two b)
  onward_fits a (rejected records) later one two = one

  module _ (chain : AccountId → Draft → ChainEnd)
      (fits : (account : AccountId) (a : Draft) → ChainFits reads seq before a (chain account a)) where
    pub chains_fit : (accounts : List AccountId) (a : Draft) → ChainFits reads seq before a (chains chain accounts a)
    chains_fit [] a = record {
      extends = extends_itself reads seq (IsWriter before (HookRan [])) a;
      others = others_itself a.entries;
      hooks = tt;
    }
    chains_fit (account ∷ accounts) a =
        onward_fits a (chain account a) (chains chain accounts) (fits account a) (chains_fit accounts)

behind_sized : (a b : Draft) (records : List OutputLine) → (AreSized a.entries → AreSized b.entries) → (x : ChainEnd) →
    SizesFit b x → SizesFit a (behind records x)
behind_sized a b records one (kept c more) two = λ sized. two (one sized)
behind_sized a b records one (rejected more) two = tt

onward_sized : (a : Draft) (x : ChainEnd) (later : Draft → ChainEnd) → SizesFit a x →
    ((b : Draft) → SizesFit b (later b)) → SizesFit a (onward x later)
onward_sized a (kept b records) later one two = behind_sized a b records one (later b) (two b)
onward_sized a (rejected records) later one two = tt

module _ (chain : AccountId → Draft → ChainEnd)
    (fits : (account : AccountId) (a : Draft) → SizesFit a (chain account a)) where
  pub chains_sized : (accounts : List AccountId) (a : Draft) → SizesFit a (chains chain accounts a)
  chains_sized [] a = λ sized. sized
  chains_sized (account ∷ accounts) a =
      onward_sized a (chain account a) (chains chain accounts) (fits account a) (chains_sized accounts)
