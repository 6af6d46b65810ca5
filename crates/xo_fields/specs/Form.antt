-- The kinds of fields, and how a value of each is written (xrpl.org, "Serialization Format", Type Codes).
use Rattle.std.specs.Prelude.{ℕ, ◌==◌, if◌then◌else◌, Option, Some, None}
use Rattle.xo_fields.specs.declared.form.Form.{Form}
use Rattle.xo_fields.specs.declared.form.Form.TheVariants.{Fixed, Money, Blob, Account, Object, Array}

-- UInt16, UInt32, UInt64, Hash128, Hash256, Amount, Blob, AccountID, Object, Array, UInt8, Hash160; no other
abbrev pub form_at : ℕ → Option Form
form_at kind =
    if kind == 1 then Some (Fixed 2) else
    if kind == 2 then Some (Fixed 4) else
    if kind == 3 then Some (Fixed 8) else
    if kind == 4 then Some (Fixed 16) else
    if kind == 5 then Some (Fixed 32) else
    if kind == 6 then Some Money else
    if kind == 7 then Some Blob else
    if kind == 8 then Some Account else
    if kind == 14 then Some Object else
    if kind == 15 then Some Array else
    if kind == 16 then Some (Fixed 1) else
    if kind == 17 then Some (Fixed 20) else None
