-- No fault of bytes is want of memory.
use Rattle.std.proofs.Common.{ℕ, zero, suc, Bool, true, false, List, [], ◌∷◌, inl, inr}
use Rattle.xo_fields.specs.declared.form.Form.{Form}
use Rattle.xo_fields.specs.declared.form.Form.TheVariants.{Fixed, Money, Blob, Account, Object, Array}
use Rattle.xo_fields.specs.declared.header.HeaderRead.{HeaderRead}
use Rattle.xo_fields.specs.declared.header.HeaderRead.TheVariants as headers
use Rattle.xo_fields.specs.declared.length.LengthRead.{LengthRead}
use Rattle.xo_fields.specs.declared.length.LengthRead.TheVariants as lengths
use Rattle.xo_fields.specs.declared.amount.AmountRead.{AmountRead}
use Rattle.xo_fields.specs.declared.amount.AmountRead.TheVariants as amounts
use Rattle.xo_fields.specs.Field.{number}
use Rattle.xo_list.specs.declared.fault.ObjectFault.{ObjectFault}
use Rattle.xo_list.specs.declared.fault.ObjectFault.TheVariants.{NoMemory}
use Rattle.xo_list.specs.declared.skip.Place.{Place}
use Rattle.xo_list.specs.declared.skip.Place.TheVariants.{NestedFields, NestedElements}
use Rattle.xo_list.specs.Item.{Item}
use Rattle.xo_list.specs.Value.{IsValue}
use Rattle.xo_list.specs.Fault.{HeaderFault, AmountFault, BlobFault, AccountFault, BodyFails, Comes, fails}

never_header : (array : Bool) (last : ℕ) (read : HeaderRead) → HeaderFault array last read NoMemory → ⊥
never_header true last headers.Cut h = cc
never_header false last headers.Cut h = cc
never_header true last headers.Bad h = cc
never_header false last headers.Bad h = cc
never_header true last (headers.Header f size) (k, h) = cc
never_header false last (headers.Header f size) (k, h) = cc

never_amount : (read : AmountRead) → AmountFault read NoMemory → ⊥
never_amount amounts.Cut h = cc
never_amount amounts.Bad h = cc
never_amount (amounts.Amount a size) h = h

never_blob : (bytes : List ℕ) (read : LengthRead) → BlobFault bytes read NoMemory → ⊥
never_blob bytes lengths.Cut h = cc
never_blob bytes lengths.Bad h = cc
never_blob bytes (lengths.Length n size) (k, h) = cc

never_account : (bytes : List ℕ) (read : LengthRead) → AccountFault bytes read NoMemory → ⊥
never_account bytes lengths.Cut h = cc
never_account bytes lengths.Bad h = cc
never_account bytes (lengths.Length n size) (inl (k, h)) = cc
never_account bytes (lengths.Length n size) (inr (k, l, h)) = cc

never_comes : (fits : Form → List ℕ → Type 0) (inside : Form → List ℕ → ObjectFault → Type 0) →
    ((form : Form) (bytes : List ℕ) → inside form bytes NoMemory → ⊥) →
    (place : Place) (last : ℕ) (items : List Item) (bytes : List ℕ) →
    Comes fits inside place last items bytes (fails NoMemory) → ⊥
never_comes fits inside never place last [] bytes (n, inl (read, gives, h)) = never_header _ last read h
never_comes fits inside never place last [] bytes (n, inr (f, form, tail, head, h)) = never form tail h
never_comes fits inside never place last (x ∷ xs) bytes (tail, stands, h) =
    never_comes fits inside never place (number x.field) xs tail h

never_body : (room : ℕ) (form : Form) (bytes : List ℕ) → BodyFails room form bytes NoMemory → ⊥
never_body room (Fixed n) bytes (k, h) = cc
never_body room Money bytes (read, gives, h) = never_amount read h
never_body room Blob bytes (read, gives, h) = never_blob bytes read h
never_body room Account bytes (read, gives, h) = never_account bytes read h
never_body zero Object bytes h = cc
never_body zero Array bytes h = cc
never_body (suc room) Object bytes (items, h) =
    never_comes (IsValue room) (BodyFails room) (never_body room) NestedFields 0 items bytes h
never_body (suc room) Array bytes (items, h) =
    never_comes (IsValue room) (BodyFails room) (never_body room) NestedElements 0 items bytes h

pub never : (room : ℕ) (place : Place) (last : ℕ) (items : List Item) (bytes : List ℕ) →
    Comes (IsValue room) (BodyFails room) place last items bytes (fails NoMemory) → ⊥
never room = never_comes (IsValue room) (BodyFails room) (never_body room)
