-- The value of a field, by where it stands.
use Rattle.std.proofs.Common.{◌≡◌, ℕ, List, refl, sym, ap, ◌∙◌, Option, Some, None}
use Rattle.std.specs.Option.{option_and_then}
use Rattle.xo_fields.specs.declared.field.FieldId.{FieldId}
use Rattle.xo_list.specs.Item.{Item, lookup}
use Rattle.xo_list.specs.Value.{IsObject}
use Rattle.hk_reading.specs.Parsing.{fields_of}
use Rattle.hk_reading.proofs.FieldsFound.{fields_found}
use Rattle.hk_api_parts.specs.Settings.{value_in}

pub value_is : (blob : List ℕ) (f : FieldId) (items : List Item) → IsObject items blob →
    value_in blob f ≡ lookup f items
unfolding value_in
value_is blob f items object = ap (option_and_then (lookup f)) ((fields_found blob).complete items object)
