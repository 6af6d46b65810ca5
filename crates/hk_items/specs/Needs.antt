-- What the items of a change of hooks need to have, and that those of a transaction have it. This project's own.
use Rattle.std.specs.Prelude.{ℕ, ◌*◌, ◌≤◌, Bool, List, length}
use Rattle.xo_list.specs.Item.{Item}
use Rattle.xo_list.specs.Value.{IsObject}
use Rattle.xo_object.specs.declared.transaction.HookItem.{HookItem}
use Rattle.xo_object.specs.declared.transaction.HookItem.TheVariants as item
use Rattle.xo_object.specs.declared.transaction.Transaction.{Transaction}
use Rattle.xo_object.specs.Transaction.{IsTransaction}
use Rattle.hk_state.specs.Fees.{code_fee}
use Rattle.hk_draft.specs.Lists.{Each}

-- a new code's version is one that there is
abbrev pub IsKnown : HookItem → Type 0
IsKnown (item.Create code version on namespace parameters grants replace) = version ≤ 1
IsKnown other = Unit {0}

-- one for each position at most
pub record AreRight (items : List HookItem) : Type 0 where
  pub few : length items ≤ 10
  pub known : Each IsKnown items

-- the law that the items of each transaction are so
abbrev pub TransactionsAreRight : Type 0
TransactionsAreRight = (fields : List Item) (bytes : List ℕ) (emitted : Bool) (t : Transaction) →
    IsTransaction fields bytes emitted t → AreRight t.hooks

-- the law that the fee for new code is at most 10 drops for each byte of the transaction that brings it
abbrev pub CodesFit : Type 0
CodesFit = (fields : List Item) (bytes : List ℕ) (emitted : Bool) (t : Transaction) → IsObject fields bytes →
    IsTransaction fields bytes emitted t → code_fee t.hooks ≤ 10 * length bytes
