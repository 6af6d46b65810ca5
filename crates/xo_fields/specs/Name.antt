-- The fields that have names (xrpl.org, "Serialization Format", and this project's own for hooks).
use Rattle.std.specs.Prelude.{ℕ, List, [], ◌∷◌, Option, Some, None, if◌then◌else◌, codes, nat_eq}
use Rattle.std.specs.Cmp.Lexicographic.{pointwise}
use Rattle.xo_fields.specs.declared.field.FieldId.{FieldId}

-- the names of a kind's fields, each with its code
abbrev pub Names : Type 0
Names = List (List ℕ × ℕ)

abbrev pub code_named : List ℕ → Names → Option ℕ
code_named name [] = None
code_named name (entry ∷ rest) = if pointwise nat_eq name entry.0 then Some entry.1 else code_named name rest

abbrev pub uint16_names : Names
uint16_names =
    (codes "LedgerEntryType", 1) ∷
    (codes "TransactionType", 2) ∷
    (codes "HookApiVersion", 20) ∷
    []

abbrev pub uint32_names : Names
uint32_names =
    (codes "Flags", 2) ∷
    (codes "SourceTag", 3) ∷
    (codes "Sequence", 4) ∷
    (codes "OwnerCount", 13) ∷
    (codes "DestinationTag", 14) ∷
    (codes "FirstLedgerSequence", 26) ∷
    (codes "LastLedgerSequence", 27) ∷
    (codes "EmitGeneration", 46) ∷
    []

abbrev pub uint64_names : Names
uint64_names =
    (codes "EmitBurden", 13) ∷
    []

abbrev pub hash256_names : Names
hash256_names =
    (codes "EmitParentTxnID", 11) ∷
    (codes "EmitNonce", 12) ∷
    (codes "EmitHookHash", 13) ∷
    (codes "InvoiceID", 17) ∷
    (codes "HookOn", 20) ∷
    (codes "HookStateKey", 30) ∷
    (codes "HookHash", 31) ∷
    (codes "HookNamespace", 32) ∷
    []

abbrev pub amount_names : Names
amount_names =
    (codes "Amount", 1) ∷
    (codes "Balance", 2) ∷
    (codes "Fee", 8) ∷
    (codes "SendMax", 9) ∷
    (codes "DeliverMin", 10) ∷
    []

abbrev pub blob_names : Names
blob_names =
    (codes "SigningPubKey", 3) ∷
    (codes "TxnSignature", 4) ∷
    (codes "CreateCode", 11) ∷
    (codes "MemoType", 12) ∷
    (codes "MemoData", 13) ∷
    (codes "MemoFormat", 14) ∷
    (codes "HookStateData", 22) ∷
    (codes "HookParameterName", 24) ∷
    (codes "HookParameterValue", 25) ∷
    []

abbrev pub account_id_names : Names
account_id_names =
    (codes "Account", 1) ∷
    (codes "Destination", 3) ∷
    (codes "Authorize", 5) ∷
    (codes "EmitCallback", 10) ∷
    []

abbrev pub object_names : Names
object_names =
    (codes "Memo", 10) ∷
    (codes "EmitDetails", 13) ∷
    (codes "Hook", 14) ∷
    (codes "HookParameter", 23) ∷
    (codes "HookGrant", 24) ∷
    []

abbrev pub array_names : Names
array_names =
    (codes "Memos", 9) ∷
    (codes "Hooks", 11) ∷
    (codes "HookParameters", 19) ∷
    (codes "HookGrants", 20) ∷
    []

-- the names of each kind that has some
abbrev pub kinds : List (ℕ × Names)
kinds =
    (1, uint16_names) ∷
    (2, uint32_names) ∷
    (3, uint64_names) ∷
    (5, hash256_names) ∷
    (6, amount_names) ∷
    (7, blob_names) ∷
    (8, account_id_names) ∷
    (14, object_names) ∷
    (15, array_names) ∷
    []

-- the first field of that name
abbrev pub named_by : ℕ → Option ℕ → Option FieldId → Option FieldId
named_by kind None later = later
named_by kind (Some code) later = Some (record { kind = kind; code = code })

abbrev pub named_among : List ℕ → List (ℕ × Names) → Option FieldId
named_among name [] = None
named_among name (entry ∷ rest) = named_by entry.0 (code_named name entry.1) (named_among name rest)

abbrev pub field_named : List ℕ → Option FieldId
field_named name = named_among name kinds
