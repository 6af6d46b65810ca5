-- Laws of the definitions: one spelling begins no other, and bytes are read in one way.
use Rattle.std.specs.Prelude.{◌≡◌, ℕ, ◌≤◌, List, ◌++◌}
use Rattle.xo_fields.specs.declared.field.FieldId.{FieldId}
use Rattle.xo_fields.specs.declared.header.HeaderRead.{HeaderRead}
use Rattle.xo_fields.specs.declared.length.LengthRead.{LengthRead}
use Rattle.xo_fields.specs.declared.amount.Amount.{Amount}
use Rattle.xo_fields.specs.declared.amount.AmountRead.{AmountRead}
use Rattle.xo_fields.specs.Header.{header, IsField, HeaderGives}
use Rattle.xo_fields.specs.Length.{prefix, LengthGives}
use Rattle.xo_fields.specs.Amount.{amount_bytes, IsValid, AmountGives}

abbrev pub OneHeader : Type 0
OneHeader = (f g : FieldId) (x y : List ℕ) → IsField f → IsField g → header f ++ x ≡ header g ++ y → (f ≡ g) × (x ≡ y)

abbrev pub OneLength : Type 0
OneLength = (m n : ℕ) (x y : List ℕ) → m ≤ 918744 → n ≤ 918744 → prefix m ++ x ≡ prefix n ++ y → (m ≡ n) × (x ≡ y)

abbrev pub OneAmount : Type 0
OneAmount =
    (a b : Amount) (x y : List ℕ) → IsValid a → IsValid b → amount_bytes a ++ x ≡ amount_bytes b ++ y →
    (a ≡ b) × (x ≡ y)

abbrev pub OneHeaderRead : Type 0
OneHeaderRead = (bytes : List ℕ) (r s : HeaderRead) → HeaderGives bytes r → HeaderGives bytes s → r ≡ s

abbrev pub OneLengthRead : Type 0
OneLengthRead = (bytes : List ℕ) (r s : LengthRead) → LengthGives bytes r → LengthGives bytes s → r ≡ s

abbrev pub OneAmountRead : Type 0
OneAmountRead = (bytes : List ℕ) (r s : AmountRead) → AmountGives bytes r → AmountGives bytes s → r ≡ s
