-- Which fields are a transaction, and which transaction (this project's own list of what is malformed).
use Rattle.std.specs.Prelude.{◌≡◌, ℕ, pos, ◌%◌, ◌/◌, ◌<◌, ◌≤◌, ◌^◌, ◌==◌, ◌||◌, Bool, true, false, List, [], ◌∷◌, ◌++◌}
use Rattle.std.specs.Prelude.{length, Option, Some, None, IsSome, is_some, IsTrue, unwrap_or, if◌then◌else◌}
use Rattle.std.specs.Option.{option_map}
use Rattle.std.specs.Int.{w16, w32, w64, from_be_bytes}
use Rattle.hk_base.specs.declared.ids.AccountId.{AccountId}
use Rattle.hk_base.specs.declared.ids.Hash256.{Hash256}
use Rattle.hk_base.specs.Hashes.{tx_id}
use Rattle.xo_fields.specs.declared.amount.Amount.{Amount}
use Rattle.xo_fields.specs.declared.amount.Amount.TheVariants.{Native, Issued}
use Rattle.xo_fields.specs.declared.field.FieldId.{FieldId}
use Rattle.xo_fields.specs.Amount.{amount_bytes, IsValid}
use Rattle.xo_object.specs.declared.terms.Terms.{Terms}
use Rattle.xo_object.specs.declared.transaction.Grant.{Grant}
use Rattle.xo_object.specs.declared.transaction.HookItem.{HookItem}
use Rattle.xo_object.specs.declared.transaction.HookItem.TheVariants.{Noop, DeleteNamespace, Delete, Create, Install}
use Rattle.xo_object.specs.declared.transaction.HookItem.TheVariants.{Update}
use Rattle.xo_object.specs.declared.transaction.Parameter.{Parameter}
use Rattle.xo_object.specs.declared.transaction.Transaction.{Transaction}
use Rattle.xo_list.specs.Item.{Item, lookup, is_same}
use Rattle.xo_object.specs.Names as names
use Rattle.xo_list.specs.Value.{IsObject, IsArray}

-- numbers, hashes and accounts that a list of fields has
abbrev pub number16 : FieldId → List Item → Option ℕ
number16 f fields = option_map (from_be_bytes w16) (lookup f fields)

abbrev pub number32 : FieldId → List Item → Option ℕ
number32 f fields = option_map (from_be_bytes w32) (lookup f fields)

abbrev pub number64 : FieldId → List Item → Option ℕ
number64 f fields = option_map (from_be_bytes w64) (lookup f fields)

abbrev pub HasHash : FieldId → List Item → Option Hash256 → Type 0
HasHash f fields hash = lookup f fields ≡ option_map (λ h. h.0) hash

abbrev pub HasAccount : FieldId → List Item → Option AccountId → Type 0
HasAccount f fields account = lookup f fields ≡ option_map (λ a. a.0) account

abbrev pub IsAmountOf : Option (List ℕ) → Option Amount → Type 0
IsAmountOf None None = Unit {0}
IsAmountOf (Some value) (Some amount) = IsValid amount × (value ≡ amount_bytes amount)
IsAmountOf None (Some amount) = ⊥
IsAmountOf (Some value) None = ⊥

-- no other fields than these
abbrev pub is_among : FieldId → List FieldId → Bool
is_among f [] = false
is_among f (g ∷ gs) = is_same f g || is_among f gs

abbrev pub only : List FieldId → List Item → Bool
only allowed [] = true
only allowed (x ∷ xs) = if is_among x.field allowed then only allowed xs else false

-- each of a list is what the relation makes of its element
abbrev pub Each : {T : Type 0} → (Item → T → Type 0) → List Item → List T → Type 0
Each R [] [] = Unit {0}
Each R (x ∷ xs) (y ∷ ys) = R x y × Each R xs ys
Each R [] (y ∷ ys) = ⊥
Each R (x ∷ xs) [] = ⊥

-- an element of that field whose fields are what the relation says
pub record IsElement {T : Type 0} (f : FieldId) (Is : List Item → T → Type 0) (x : Item) (y : T) : Type 0 where
  pub element : x.field ≡ f
  pub fields : List Item
  pub object : IsObject fields x.value
  pub is : Is fields y

-- the bytes of an array of at most so many of those elements
pub record AreElements {T : Type 0} (f : FieldId) (Is : List Item → T → Type 0) (limit : ℕ) (bytes : List ℕ)
    (ys : List T) : Type 0 where
  pub elements : List Item
  pub array : IsArray elements bytes
  pub few : length elements ≤ limit
  pub each : Each (IsElement f Is) elements ys

-- a parameter: a name of 1 to 32 bytes, a value of up to 256, and nothing else
pub record ParameterIs (fields : List Item) (p : Parameter) : Type 0 where
  pub others : IsTrue (only (names.parameter_name ∷ names.parameter_value ∷ []) fields)
  pub name : lookup names.parameter_name fields ≡ Some p.name
  pub name_some : 1 ≤ length p.name
  pub name_short : length p.name ≤ 32
  pub value : unwrap_or (lookup names.parameter_value fields) [] ≡ p.value
  pub value_short : length p.value ≤ 256

abbrev pub Differs : List ℕ → List Parameter → Type 0
Differs name [] = Unit {0}
Differs name (p ∷ ps) = (name ≡ p.name → ⊥) × Differs name ps

-- no two names are equal: each differs from all that come before
abbrev pub AllDiffer : List Parameter → List Parameter → Type 0
AllDiffer before [] = Unit {0}
AllDiffer before (p ∷ ps) = Differs p.name before × AllDiffer (before ++ p ∷ []) ps

abbrev pub AreParameters : List ℕ → List Parameter → Type 0
AreParameters bytes parameters =
    AreElements names.hook_parameter ParameterIs 16 bytes parameters × AllDiffer [] parameters

-- a grant: a hash, an account or none, and nothing else
pub record GrantIs (fields : List Item) (g : Grant) : Type 0 where
  pub others : IsTrue (only (names.hook_hash ∷ names.authorize ∷ []) fields)
  pub hash : HasHash names.hook_hash fields (Some g.hash)
  pub account : HasAccount names.authorize fields g.account

abbrev pub AreGrants : List ℕ → List Grant → Type 0
AreGrants bytes grants = AreElements names.hook_grant GrantIs 16 bytes grants

-- lists that may be absent
abbrev pub Given : {T : Type 0} → (List ℕ → List T → Type 0) → Option (List ℕ) → Option (List T) → Type 0
Given Are None None = Unit {0}
Given Are (Some bytes) (Some ys) = Are bytes ys
Given Are None (Some ys) = ⊥
Given Are (Some bytes) None = ⊥

abbrev pub or_empty : {T : Type 0} → Option (List T) → List T
or_empty given = unwrap_or given []

-- flags that are absent or without effect but for bit 1
abbrev pub Replaces : Option ℕ → Bool → Type 0
Replaces None replace = replace ≡ false
Replaces (Some bits) replace = IsTrue (bits == 0 || bits == 1 || bits == 4 || bits == 5) × (replace ≡ (bits % 2 == 1))

-- which item the fields are
pub data Which : Type 0 where
  noop : Which
  delete : Which
  create : Which
  install : Which
  delete_namespace : Which
  update : Which

abbrev pub by_flags : Option ℕ → Which
by_flags None = update
by_flags (Some bits) = if bits / 2 % 2 == 1 then delete_namespace else update

abbrev pub by_hash : Option (List ℕ) → List Item → Which
by_hash None fields = by_flags (number32 names.flags fields)
by_hash (Some hash) fields = install

abbrev pub by_code : Option (List ℕ) → List Item → Which
by_code None fields = by_hash (lookup names.hook_hash fields) fields
by_code (Some []) fields = delete
by_code (Some (b ∷ bs)) fields = create

abbrev pub which : List Item → Which
which [] = noop
which (x ∷ xs) = by_code (lookup names.create_code (x ∷ xs)) (x ∷ xs)

pub record IsDelete (fields : List Item) (h : HookItem) : Type 0 where
  pub bits : ℕ
  pub flags : number32 names.flags fields ≡ Some bits
  pub right : IsTrue (bits == 1 || bits == 5)
  pub others : IsTrue (only (names.flags ∷ names.create_code ∷ []) fields)
  pub is : h ≡ Delete

pub record IsDeleteNamespace (fields : List Item) (h : HookItem) : Type 0 where
  pub bits : ℕ
  pub flags : number32 names.flags fields ≡ Some bits
  pub right : IsTrue (bits == 2 || bits == 6)
  pub others : IsTrue (only (names.flags ∷ names.hook_namespace ∷ []) fields)
  pub namespace : Hash256
  pub named : HasHash names.hook_namespace fields (Some namespace)
  pub is : h ≡ DeleteNamespace namespace

-- what installs a hook says of it besides its code
pub record TermsAre (fields : List Item) (t : Terms) : Type 0 where
  pub parameters : Option (List Parameter)
  pub grants : Option (List Grant)
  pub fires : HasHash names.hook_on fields (Some t.on)
  pub named : HasHash names.hook_namespace fields (Some t.namespace)
  pub given_parameters : Given AreParameters (lookup names.hook_parameters fields) parameters
  pub given_grants : Given AreGrants (lookup names.hook_grants fields) grants
  pub all_parameters : t.parameters ≡ or_empty parameters
  pub all_grants : t.grants ≡ or_empty grants
  pub flags : Replaces (number32 names.flags fields) t.replace

pub record IsCreate (fields : List Item) (h : HookItem) : Type 0 where
  pub code : List ℕ
  pub version : ℕ
  pub terms : Terms
  pub coded : lookup names.create_code fields ≡ Some code
  pub said_version : number16 names.hook_api_version fields ≡ Some version
  pub known : version ≤ 1
  pub said : TermsAre fields terms
  pub others : IsTrue (only
      (names.flags ∷ names.hook_on ∷ names.hook_namespace ∷ names.hook_api_version ∷ names.create_code ∷
      names.hook_parameters ∷ names.hook_grants ∷ []) fields)
  pub is : h ≡ Create code version terms.on terms.namespace terms.parameters terms.grants terms.replace

pub record IsInstall (fields : List Item) (h : HookItem) : Type 0 where
  pub hash : Hash256
  pub terms : Terms
  pub hashed : HasHash names.hook_hash fields (Some hash)
  pub said : TermsAre fields terms
  pub others : IsTrue (only
      (names.flags ∷ names.hook_on ∷ names.hook_hash ∷ names.hook_namespace ∷ names.hook_parameters ∷
      names.hook_grants ∷ []) fields)
  pub is : h ≡ Install hash terms.on terms.namespace terms.parameters terms.grants terms.replace

pub record IsUpdate (fields : List Item) (h : HookItem) : Type 0 where
  pub on : Option Hash256
  pub namespace : Option Hash256
  pub parameters : Option (List Parameter)
  pub grants : Option (List Grant)
  pub replace : Bool
  pub fires : HasHash names.hook_on fields on
  pub named : HasHash names.hook_namespace fields namespace
  pub given_parameters : Given AreParameters (lookup names.hook_parameters fields) parameters
  pub given_grants : Given AreGrants (lookup names.hook_grants fields) grants
  pub some : IsTrue (is_some on || is_some namespace || is_some parameters || is_some grants)
  pub flags : Replaces (number32 names.flags fields) replace
  pub others : IsTrue (only
      (names.flags ∷ names.hook_on ∷ names.hook_namespace ∷ names.hook_parameters ∷ names.hook_grants ∷ []) fields)
  pub is : h ≡ Update on namespace parameters grants

abbrev pub Form : Which → List Item → HookItem → Type 0
Form noop fields h = h ≡ Noop
Form delete fields h = IsDelete fields h
Form create fields h = IsCreate fields h
Form install fields h = IsInstall fields h
Form delete_namespace fields h = IsDeleteNamespace fields h
Form update fields h = IsUpdate fields h

-- an item that installs, changes or removes a hook
abbrev pub HookIs : List Item → HookItem → Type 0
HookIs fields h = Form (which fields) fields h

-- 1 to 10 items
abbrev pub AreHooks : List ℕ → List HookItem → Type 0
AreHooks bytes items = AreElements names.hook HookIs 10 bytes items × (1 ≤ length items)

-- what an emission says of itself, and no more
pub record DetailsIn (fields : List Item) (generation burden : ℕ) : Type 0 where
  pub others : IsTrue (only
      (names.emit_generation ∷ names.emit_burden ∷ names.emit_parent ∷ names.emit_nonce ∷ names.emit_hook_hash ∷
      names.emit_callback ∷ []) fields)
  pub generation_is : number32 names.emit_generation fields ≡ Some generation
  pub burden_is : number64 names.emit_burden fields ≡ Some burden
  pub parent : IsSome (lookup names.emit_parent fields)
  pub nonce : IsSome (lookup names.emit_nonce fields)
  pub hook : IsSome (lookup names.emit_hook_hash fields)

pub record DetailsAre (bytes : List ℕ) (generation burden : ℕ) : Type 0 where
  pub fields : List Item
  pub object : IsObject fields bytes
  pub is : DetailsIn fields generation burden

abbrev pub EmissionIs : Bool → Option (List ℕ) → ℕ → ℕ → ℕ → Type 0
EmissionIs false None sequence generation burden =
    (0 < sequence) × (sequence < 4294967295) × (generation ≡ 0) × (burden ≡ 1)
EmissionIs false (Some details) sequence generation burden = ⊥
EmissionIs true None sequence generation burden = ⊥
EmissionIs true (Some details) sequence generation burden = (sequence ≡ 0) × DetailsAre details generation burden

-- an amount above zero: bit 62 of a decimal's bits is 1 for a positive number
abbrev pub IsPositive : Amount → Type 0
IsPositive (Native drops) = 0 < drops
IsPositive (Issued value currency issuer) = (bits : ℕ) × (value ≡ pos bits) × (2 ^ 62 ≤ bits)

abbrev pub PaymentIs : ℕ → Option AccountId → Option Amount → Type 0
PaymentIs kind None amount = kind ≡ 0 → ⊥
PaymentIs kind (Some account) None = kind ≡ 0 → ⊥
PaymentIs kind (Some account) (Some amount) = kind ≡ 0 → IsPositive amount

-- the items of a change of hooks
abbrev pub GivenHooks : Option (List ℕ) → List HookItem → Type 0
GivenHooks None items = ⊥
GivenHooks (Some bytes) items = AreHooks bytes items

-- those of type 22, and none of another type
abbrev pub HooksFor : Bool → Option (List ℕ) → List HookItem → Type 0
HooksFor false bytes items = items ≡ []
HooksFor true bytes items = GivenHooks bytes items

abbrev pub HooksAre : ℕ → Option (List ℕ) → List HookItem → Type 0
HooksAre kind bytes items = HooksFor (kind == 22) bytes items

-- what each transaction has: a known type, an account, a number, a native fee and a key
pub record CommonAre (fields : List Item) (kind : ℕ) (account : AccountId) (sequence fee : ℕ) : Type 0 where
  pub kind_is : number16 names.transaction_type fields ≡ Some kind
  pub known : IsTrue (kind == 0 || kind == 3 || kind == 22 || kind == 99)
  pub account_is : HasAccount names.account fields (Some account)
  pub sequence_is : number32 names.sequence fields ≡ Some sequence
  pub fee_is : IsAmountOf (lookup names.fee fields) (Some (Native fee))
  pub key : IsSome (lookup names.signing_pub_key fields)

-- whom one names and which amount, as a payment must and another may
pub record PaidAre (fields : List Item) (kind : ℕ) (destination : Option AccountId)
    (amount : Option Amount) : Type 0 where
  pub destination_is : HasAccount names.destination fields destination
  pub amount_is : IsAmountOf (lookup names.amount fields) amount
  pub payment : PaymentIs kind destination amount

-- a transaction
pub record IsTransaction (fields : List Item) (bytes : List ℕ) (emitted : Bool) (t : Transaction) : Type 0 where
  pub common : CommonAre fields t.kind t.account t.sequence t.fee
  pub paid : PaidAre fields t.kind t.destination t.amount
  pub first : number32 names.first_ledger_sequence fields ≡ t.first
  pub last : number32 names.last_ledger_sequence fields ≡ t.last
  pub other_amounts : t.other_amounts
      ≡ (is_some (lookup names.send_max fields) || is_some (lookup names.deliver_min fields))
  pub hooks : HooksAre t.kind (lookup names.hooks fields) t.hooks
  pub given : Option (List Parameter)
  pub given_parameters : Given AreParameters (lookup names.hook_parameters fields) given
  pub parameters : t.parameters ≡ or_empty given
  pub emission : EmissionIs emitted (lookup names.emit_details fields) t.sequence t.generation t.burden
  pub blob : t.blob ≡ bytes
  pub id : t.id ≡ tx_id bytes
