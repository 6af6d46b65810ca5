-- Which blobs are emissions, and why others are not (this project's own, after the Hooks documentation, "Emitted
-- Transactions").
use Rattle.std.specs.Prelude.{◌≡◌, ℕ, ◌+◌, ◌<◌, ◌≤◌, ◌⊎◌, ◌==◌, ◌&&◌, not, nat_lt, nat_le, bytes_eq, Bool, true, false}
use Rattle.std.specs.Prelude.{List, [], ◌∷◌, length, replicate, find, Option, Some, None, is_some, ok_or, Result, Ok}
use Rattle.std.specs.Prelude.{Err, if◌then◌else◌}
use Rattle.std.specs.Option.{option_map_or}
use Rattle.hk_base.specs.declared.ids.AccountId.{AccountId}
use Rattle.hk_base.specs.declared.ids.Hash256.{Hash256}
use Rattle.xo_fields.specs.declared.field.FieldId.{FieldId}
use Rattle.xo_list.specs.Item.{Item, lookup}
use Rattle.xo_list.specs.Value.{IsObject, HasFields}
use Rattle.xo_object.specs.declared.transaction.Transaction.{Transaction}
use Rattle.xo_object.specs.Names as names
use Rattle.xo_object.specs.Transaction.{IsTransaction}
use Rattle.hk_reading.specs.Readings.{longest, hook_kind}
use Rattle.hk_emit.specs.declared.context.EmitContext.{EmitContext}
use Rattle.hk_emit.specs.declared.emission.Emission.{Emission}
use Rattle.hk_emit.specs.declared.fault.EmitFault.{EmitFault}
use Rattle.hk_emit.specs.declared.fault.EmitFault.TheVariants as faults
use Rattle.hk_emit.specs.Details.{details_fields}

abbrev pub txn_signature : FieldId
txn_signature = names.field 7 4

-- the field has this value
abbrev pub has_value : FieldId → List ℕ → List Item → Bool
has_value field value fields = option_map_or (λ found. bytes_eq found value) (lookup field fields) false

-- Sequence is there and isn't 0
abbrev pub has_number : List Item → Bool
has_number fields = is_some (lookup names.sequence fields) && not (has_value names.sequence (0 ∷ 0 ∷ 0 ∷ 0 ∷ []) fields)

-- EmitDetails is this execution's, with that nonce
abbrev pub has_details : EmitContext → List Item → Hash256 → Bool
has_details context fields nonce = has_value names.emit_details (details_fields context nonce) fields

abbrev pub nonce_of : EmitContext → List Hash256 → List Item → Option Hash256
nonce_of context nonces fields = find (has_details context fields) nonces

-- a window of ledgers: it begins above the open one, and ends at most five later
abbrev pub is_first : ℕ → ℕ → Bool
is_first seq first = nat_lt seq first

abbrev pub is_last : ℕ → ℕ → Bool
is_last first last = nat_le first last && nat_le last (first + 5)

-- the account that is called back
abbrev pub callback_of : EmitContext → Option AccountId
callback_of context = if context.with_callback then Some context.account else None

-- one test after the other; the first that refuses is the answer
abbrev pub OrFault : Type 0 → Type 0
OrFault A = Result A EmitFault

infixl 15 ◌>>=◌ ◌>>◌
abbrev pub ◌>>=◌ : {A B : Type 0} → OrFault A → (A → OrFault B) → OrFault B
(Ok x) >>= rest = rest x
(Err fault) >>= rest = Err fault

abbrev pub ◌>>◌ : {A B : Type 0} → OrFault A → OrFault B → OrFault B
(Ok x) >> rest = rest
(Err fault) >> rest = Err fault

abbrev pub refuse : Bool → EmitFault → OrFault (Unit {0})
refuse condition fault = if condition then Err fault else Ok tt

-- what is asked of a transaction that is emitted
abbrev pub emission_of : EmitContext → List Item → Hash256 → Transaction → OrFault Emission
emission_of context fields nonce t = do
  refuse (t.kind == hook_kind) faults.BadKind
  refuse (not (bytes_eq t.account.0 context.account.0)) faults.NotOwn
  refuse (not (has_value names.signing_pub_key (replicate 33 0) fields)) faults.KeyNotZero
  refuse (is_some (lookup txn_signature fields)) faults.Signed
  first ← ok_or t.first faults.First
  refuse (not (is_first context.seq first)) faults.First
  last ← ok_or t.last faults.Last
  refuse (not (is_last first last)) faults.Last
  refuse (nat_lt 10 t.generation) faults.Generation
  Ok (record {
    transaction = t;
    nonce = nonce;
    hash = context.hash;
    first = first;
    last = last;
    callback = callback_of context;
  })

-- how an object's fields are judged that are this emitted transaction, or none
abbrev pub judged : EmitContext → List Hash256 → List Item → Option Transaction → OrFault Emission
judged context nonces fields transaction = do
  refuse (has_number fields) faults.SequenceNotZero
  nonce ← ok_or (nonce_of context nonces fields) faults.Details
  t ← ok_or transaction faults.Malformed
  emission_of context fields nonce t

-- the fields are this emitted transaction, or none
abbrev pub IsReadAs : List Item → List ℕ → Option Transaction → Type 0
IsReadAs fields blob None = (t : Transaction) → IsTransaction fields blob true t → ⊥
IsReadAs fields blob (Some t) = IsTransaction fields blob true t

-- an object's fields are judged so: by the first two tests whatever they read as
abbrev pub JudgesFields : List Item → List ℕ → EmitContext → List Hash256 → OrFault Emission → Type 0
JudgesFields fields blob context nonces (Err faults.NoMemory) = Unit {0}
JudgesFields fields blob context nonces (Err faults.TooLong) = ⊥
JudgesFields fields blob context nonces (Err faults.Unparsed) = ⊥
JudgesFields fields blob context nonces (Err faults.SequenceNotZero) =
    (transaction : Option Transaction) → judged context nonces fields transaction ≡ Err faults.SequenceNotZero
JudgesFields fields blob context nonces (Err faults.Details) =
    (transaction : Option Transaction) → judged context nonces fields transaction ≡ Err faults.Details
JudgesFields fields blob context nonces answer =
    (transaction : Option Transaction) × IsReadAs fields blob transaction
    × (judged context nonces fields transaction ≡ answer)

-- a fault of a transaction that is read
abbrev pub IsLater : EmitFault → Type 0
IsLater faults.TooLong = ⊥
IsLater faults.Unparsed = ⊥
IsLater faults.SequenceNotZero = ⊥
IsLater faults.Details = ⊥
IsLater faults.Malformed = ⊥
IsLater faults.NoMemory = ⊥
IsLater fault = Unit {0}

-- a blob is no object, or there is no memory for it
abbrev pub IsUnread : List ℕ → EmitFault → Type 0
IsUnread blob fault = (fault ≡ faults.NoMemory) ⊎ ((fault ≡ faults.Unparsed) × (HasFields blob → ⊥))

-- a blob's object is judged so
pub record IsJudged (blob : List ℕ) (context : EmitContext) (nonces : List Hash256)
    (answer : OrFault Emission) : Type 0 where
  pub short : length blob ≤ longest
  pub fields : List Item
  pub object : IsObject fields blob
  pub judged : JudgesFields fields blob context nonces answer

-- a blob is judged so
abbrev pub Judges : List ℕ → EmitContext → List Hash256 → OrFault Emission → Type 0
Judges blob context nonces (Err faults.TooLong) = longest < length blob
Judges blob context nonces (Err faults.Unparsed) = (length blob ≤ longest) × (HasFields blob → ⊥)
Judges blob context nonces (Err faults.NoMemory) = Unit {0}
Judges blob context nonces answer = IsJudged blob context nonces answer
