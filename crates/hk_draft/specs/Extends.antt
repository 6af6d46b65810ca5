-- How a draft may go on. This project's own. Grounds say who may write a State key; `reads` is the reader of emitted
-- bytes, and `seq` the open ledger's sequence number.
use Rattle.std.specs.Prelude.{◌≡◌, ◌≢◌, ℕ, ◌<◌, ◌≤◌, ◌^◌, ◌⊎◌, Bool, true, false, List, ◌++◌, Option, Some, None}
use Rattle.std.specs.FinMap.{get}
use Rattle.xo_object.specs.declared.transaction.Transaction.{Transaction}
use Rattle.hk_reading.specs.declared.reading.Reading.{Reading}
use Rattle.hk_reading.specs.declared.reading.Reading.TheVariants as readings
use Rattle.hk_reading.specs.Readings.{hook_kind}
use Rattle.hk_emit.specs.declared.emission.Emission.{Emission}
use Rattle.hk_state.specs.declared.entry.Entry.{Entry}
use Rattle.hk_state.specs.declared.entry.Entry.TheVariants as entry
use Rattle.hk_state.specs.declared.key.Key.{Key}
use Rattle.hk_state.specs.declared.key.Key.TheVariants as key
use Rattle.hk_state.specs.declared.key.StateKey.{StateKey}
use Rattle.hk_state.specs.Keys.{as_key}
use Rattle.hk_state.specs.Entries.{Entries}
use Rattle.hk_state.specs.Balances.{balances}
use Rattle.hk_draft.specs.Lists.{Each}
use Rattle.hk_draft.specs.Draft.{Draft, is_listed}

-- bytes that may wait in the queue for these ledgers: they read as an emitted transaction that changes no hooks, and
-- one to ten emissions lead to it, and its burden is a number of 63 bits
pub record IsEmission (reads : List ℕ → Reading) (blob : List ℕ) (first last : ℕ) : Type 0 where
  pub transaction : Transaction
  pub reads_so : reads blob ≡ readings.Transaction transaction
  pub other : transaction.kind ≢ hook_kind
  pub emitted : 1 ≤ transaction.generation
  pub generation : transaction.generation ≤ 10
  pub burden : transaction.burden < 2 ^ 63
  pub order : first ≤ last

-- an emission for ledgers after the open one
pub record Emits (reads : List ℕ → Reading) (seq : ℕ) (m : Emission) : Type 0 where
  pub well : IsEmission reads m.transaction.blob m.first m.last
  pub later : seq < m.first

-- a State entry, or none
abbrev pub HoldsState : Option Entry → Type 0
HoldsState None = Unit {0}
HoldsState (Some (entry.State bytes)) = Unit {0}
HoldsState other = ⊥

abbrev pub is_state : Key → Bool
is_state (key.State owner namespace k) = true
is_state other = false

-- State keys alone change
abbrev pub KeepsOthers : Entries → Entries → Type 0
KeepsOthers m n = (q : Key) → is_state q ≡ false → get n q ≡ get m q

-- draft b goes on from a: what is written is listed and has grounds, listed keys and emissions stay, new emissions
-- come last, and neither the queue nor the balances change
pub record Extends (reads : List ℕ → Reading) (seq : ℕ) (Grounds : StateKey → Type 0) (a b : Draft) : Type 0 where
  pub unlisted : (q : StateKey) → is_listed q b.written ≡ false → get b.entries (as_key q) ≡ get a.entries (as_key q)
  pub listed : (q : StateKey) → is_listed q a.written ≡ true → is_listed q b.written ≡ true
  pub grounds : (q : StateKey) → is_listed q b.written ≡ true →
      (is_listed q a.written ≡ true) ⊎ (Grounds q × HoldsState (get b.entries (as_key q)))
  pub held : (q : StateKey) → HoldsState (get a.entries (as_key q)) → HoldsState (get b.entries (as_key q))
  pub queue : (n : ℕ) → get b.entries (key.Emitted n) ≡ get a.entries (key.Emitted n)
  pub more : List Emission
  pub emissions : b.emissions ≡ a.emissions ++ more
  pub emits : Each (Emits reads seq) more
  pub sum : balances b.entries ≡ balances a.entries
