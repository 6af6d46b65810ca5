-- Who may write a State key, and who has run. This project's own.
use Rattle.std.specs.Prelude.{◌≡◌, ℕ, ◌⊎◌, List, Option, Some, None}
use Rattle.std.specs.FinMap.{get}
use Rattle.hk_base.specs.declared.ids.AccountId.{AccountId}
use Rattle.hk_base.specs.declared.ids.Hash256.{Hash256}
use Rattle.hk_base.specs.declared.outcome.Outcome.TheVariants.{Accepted}
use Rattle.xo_object.specs.declared.transaction.Grant.{Grant}
use Rattle.xo_object.specs.declared.transaction.Parameter.{Parameter}
use Rattle.hk_lines.specs.declared.output_line.OutputLine.{OutputLine}
use Rattle.hk_lines.specs.declared.output_line.OutputLine.TheVariants as printed
use Rattle.hk_state.specs.declared.entry.Entry.{Entry}
use Rattle.hk_state.specs.declared.entry.Entry.TheVariants as entry
use Rattle.hk_state.specs.declared.key.Key.TheVariants as key
use Rattle.hk_state.specs.declared.key.StateKey.{StateKey}
use Rattle.hk_state.specs.Entries.{Entries}
use Rattle.hk_draft.specs.Lists.{SomeOf}

-- a grant to the hook of that hash, for any account or for the actor
pub record Grants (hash : Hash256) (actor : AccountId) (grant : Grant) : Type 0 where
  pub hash_is : grant.hash ≡ hash
  pub account : (grant.account ≡ None) ⊎ (grant.account ≡ Some actor)

-- an Install of the owner in that namespace with such a grant
pub record IsGranted (m : Entries) (hash : Hash256) (actor owner : AccountId) (namespace : Hash256) : Type 0 where
  pub position : ℕ
  pub code : Hash256
  pub on : Hash256
  pub parameters : List Parameter
  pub grants : List Grant
  pub there : get m (key.Install owner position) ≡ Some (entry.Install code on namespace parameters grants)
  pub granted : SomeOf (Grants hash actor) grants

-- the hook of that hash on the actor's account may write the owner's state in that namespace
abbrev pub MayWrite : Entries → Hash256 → AccountId → AccountId → Hash256 → Type 0
MayWrite m hash actor owner namespace = (owner ≡ actor) ⊎ IsGranted m hash actor owner namespace

-- the same of a State key
abbrev pub MayWriteBy : Entries → Hash256 → AccountId → StateKey → Type 0
MayWriteBy m hash account q = MayWrite m hash account q.owner q.namespace

-- the hash of an Install's code
abbrev pub hash_of : Option Entry → Option Hash256
hash_of (Some (entry.Install hash on namespace parameters grants)) = Some hash
hash_of other = None

-- a hook that has run, by the account and the position of its Install in m, may write the key
pub record IsWriter (m : Entries) (Ran : AccountId → ℕ → Type 0) (q : StateKey) : Type 0 where
  pub account : AccountId
  pub position : ℕ
  pub ran : Ran account position
  pub hash : Hash256
  pub at : hash_of (get m (key.Install account position)) ≡ Some hash
  pub may : MayWrite m hash account q.owner q.namespace

-- the line of a hook's run, or of a callback's
abbrev pub IsHook : OutputLine → Type 0
IsHook (printed.Hook account position outcome count bound) = Unit {0}
IsHook other = ⊥

abbrev pub IsCallback : OutputLine → Type 0
IsCallback (printed.Callback account position outcome count bound) = Unit {0}
IsCallback other = ⊥

-- the hook at that position accepted
abbrev pub IsHookOf : AccountId → ℕ → OutputLine → Type 0
IsHookOf account position (printed.Hook by at (Accepted code text) count bound) = (by ≡ account) × (at ≡ position)
IsHookOf account position other = ⊥

abbrev pub IsCallbackOf : AccountId → ℕ → OutputLine → Type 0
IsCallbackOf account position (printed.Callback by at (Accepted code text) count bound) =
    (by ≡ account) × (at ≡ position)
IsCallbackOf account position other = ⊥

-- by the lines, a hook at that position ran and accepted; and so for a callback
abbrev pub HookRan : List OutputLine → AccountId → ℕ → Type 0
HookRan records account position = SomeOf (IsHookOf account position) records

abbrev pub CallbackRan : List OutputLine → AccountId → ℕ → Type 0
CallbackRan records account position = SomeOf (IsCallbackOf account position) records
