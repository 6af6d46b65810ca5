-- Which field a key may name and which bytes a value may show, as functions: a guess is tested before it is taken.
use Rattle.std.specs.Prelude.{ℕ, pos, ◌-◌, ◌==◌, ◌&&◌, nat_lt, nat_le, bytes_eq, Bool, true, false, List, [], ◌∷◌}
use Rattle.std.specs.Prelude.{length, drop, unwrap_or, if◌then◌else◌}
use Rattle.std.specs.Int.{w64, to_be_bytes}
use Rattle.std.specs.Str.Parse.{digits_value}
use Rattle.hk_base.specs.Hexadecimal.{hex_bytes}
use Rattle.serde_json.specs.Data.{Data, number, string, object, unsigned, Members, no_members, member}
use Rattle.xo_fields.specs.declared.amount.Amount.TheVariants.{Native, Issued}
use Rattle.xo_fields.specs.declared.field.FieldId.{FieldId}
use Rattle.xo_fields.specs.declared.form.Form.{Form}
use Rattle.xo_fields.specs.declared.form.Form.TheVariants.{Fixed, Money, Blob, Account, Object, Array}
use Rattle.xo_fields.specs.Amount.{amount_bytes}
use Rattle.xo_fields.specs.Name.{field_named}
use Rattle.hk_reading.specs.Amounts.{is_amount}

-- what stands before and after the first slash (47)
abbrev pub before_slash : List ℕ → List ℕ
before_slash [] = []
before_slash (c ∷ cs) = if c == 47 then [] else c ∷ before_slash cs

abbrev pub after_slash : List ℕ → List ℕ
after_slash [] = []
after_slash (c ∷ cs) = if c == 47 then cs else after_slash cs

-- the field of that name, or that of a kind and a code in decimal
abbrev pub field_guess : List ℕ → FieldId
field_guess key =
    unwrap_or (field_named key)
    (record { kind = digits_value 10 (before_slash key); code = digits_value 10 (after_slash key) })

-- the text, the bytes in hex, and the numbers that a value may be
abbrev pub text_in : Data → List ℕ
text_in (string text) = text
text_in other = []

abbrev pub hex_in : Data → List ℕ
hex_in d = unwrap_or (hex_bytes (text_in d)) []

abbrev pub decimal_in : Data → ℕ
decimal_in d = digits_value 10 (text_in d)

abbrev pub number_in : Data → ℕ
number_in (number (unsigned n)) = n
number_in other = 0

-- the last bytes of a number, or the bytes of a hex text
abbrev pub fixed_guess : ℕ → Data → List ℕ
fixed_guess size d = if nat_le size 4 then drop (8 - size) (to_be_bytes w64 (number_in d)) else hex_in d

-- an issued amount has three members, its currency, its issuer and its value
abbrev pub money_guess : Data → List ℕ
money_guess (object (member k currency (member l issuer (member m value no_members)))) =
    amount_bytes (Issued (pos (decimal_in value)) (hex_in currency) (hex_in issuer))
money_guess other = amount_bytes (Native (decimal_in other))

-- the bytes of a value of a form that has no fields in it
abbrev pub value_guess : Form → Data → List ℕ
value_guess (Fixed size) d = fixed_guess size d
value_guess Money d = money_guess d
value_guess form d = hex_in d

-- bytes that are such a value
abbrev pub are_bytes : List ℕ → Bool
are_bytes [] = true
are_bytes (b ∷ bs) = nat_lt b 256 && are_bytes bs

abbrev pub is_plain : Form → List ℕ → Bool
is_plain (Fixed size) value = length value == size
is_plain Money value = is_amount value
is_plain Blob value = nat_le (length value) 918744
is_plain Account value = length value == 20
is_plain Object value = false
is_plain Array value = false

-- two values are the same number, the same text, or objects with the same members
abbrev mutual
  pub same_data : Data → Data → Bool
  same_data (number (unsigned m)) (number (unsigned n)) = m == n
  same_data (string s) (string t) = bytes_eq s t
  same_data (object ms) (object ns) = same_members ms ns
  same_data d e = false

  pub same_members : Members → Members → Bool
  same_members no_members no_members = true
  same_members (member k d ms) (member l e ns) = bytes_eq k l && (same_data d e && same_members ms ns)
  same_members ms ns = false
