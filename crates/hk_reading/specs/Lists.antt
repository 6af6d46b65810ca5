-- The lists in a transaction, as functions of their bytes: each element is guessed from its fields, and taken where
-- each rule holds of it.
use Rattle.std.specs.Prelude.{ℕ, ◌&&◌, not, nat_le, bytes_eq, Bool, true, List, [], ◌∷◌, ◌++◌, length, Option, Some}
use Rattle.std.specs.Prelude.{None, is_some, unwrap_or}
use Rattle.std.specs.Option.{option_and_then, option_map}
use Rattle.hk_base.specs.declared.ids.AccountId.{AccountId}
use Rattle.hk_base.specs.declared.ids.Hash256.{Hash256}
use Rattle.xo_fields.specs.declared.field.FieldId.{FieldId}
use Rattle.xo_list.specs.Item.{Item, lookup, is_same}
use Rattle.xo_object.specs.declared.transaction.Grant.{Grant}
use Rattle.xo_object.specs.declared.transaction.Parameter.{Parameter}
use Rattle.xo_object.specs.Names as names
use Rattle.xo_object.specs.Transaction.{only, or_empty}
use Rattle.hk_reading.specs.Amounts.{only_if}
use Rattle.hk_reading.specs.Parsing.{fields_of, elements_of}

-- values that fields have
abbrev pub bytes_in : FieldId → List Item → List ℕ
bytes_in f fields = unwrap_or (lookup f fields) []

abbrev pub account_of : List ℕ → AccountId
account_of bytes = record { 0 = bytes }

abbrev pub hash_of : List ℕ → Hash256
hash_of bytes = record { 0 = bytes }

-- what is made of each of a list, where it is made of all
abbrev pub made_of : {T : Type 0} → (Item → Option T) → List Item → Option (List T)
made_of make [] = Some []
made_of make (x ∷ xs) = option_and_then (λ y. option_map (λ ys. y ∷ ys) (made_of make xs)) (make x)

-- what is made of an element's fields, where it is of that field
abbrev pub element_as : {T : Type 0} → FieldId → (List Item → Option T) → Item → Option T
element_as f make x = only_if (is_same x.field f) (option_and_then make (fields_of x.value))

abbrev pub few_as : {T : Type 0} → FieldId → (List Item → Option T) → ℕ → List Item → Option (List T)
few_as f make limit elements = only_if (nat_le (length elements) limit) (made_of (element_as f make) elements)

-- what is made of an array's elements, where there are no more than so many
abbrev pub elements_as : {T : Type 0} → FieldId → (List Item → Option T) → ℕ → List ℕ → Option (List T)
elements_as f make limit bytes = option_and_then (few_as f make limit) (elements_of bytes)

-- what is made of bytes that may be absent
abbrev pub given_as : {T : Type 0} → (List ℕ → Option (List T)) → Option (List ℕ) → Option (Option (List T))
given_as make None = Some None
given_as make (Some bytes) = option_map Some (make bytes)

-- parameters
abbrev pub parameter_guess : List Item → Parameter
parameter_guess fields = record {
  name = bytes_in names.parameter_name fields;
  value = bytes_in names.parameter_value fields;
}

abbrev pub is_parameter : List Item → Parameter → Bool
is_parameter fields p =
    only (names.parameter_name ∷ names.parameter_value ∷ []) fields && (is_some (lookup names.parameter_name fields)
    && (nat_le 1 (length p.name) && (nat_le (length p.name) 32 && nat_le (length p.value) 256)))

abbrev pub parameter_of : List Item → Option Parameter
parameter_of fields = only_if (is_parameter fields (parameter_guess fields)) (Some (parameter_guess fields))

abbrev pub differs : List ℕ → List Parameter → Bool
differs name [] = true
differs name (p ∷ ps) = not (bytes_eq name p.name) && differs name ps

abbrev pub all_differ : List Parameter → List Parameter → Bool
all_differ before [] = true
all_differ before (p ∷ ps) = differs p.name before && all_differ (before ++ p ∷ []) ps

abbrev pub differing : List Parameter → Option (List Parameter)
differing ps = only_if (all_differ [] ps) (Some ps)

abbrev pub parameters_in : List ℕ → Option (List Parameter)
parameters_in bytes = option_and_then differing (elements_as names.hook_parameter parameter_of 16 bytes)

-- the parameters of an array, or none where there is no array
abbrev pub parameters_of : Option (List ℕ) → Option (List Parameter)
parameters_of bytes = option_map or_empty (given_as parameters_in bytes)

-- grants
abbrev pub grant_guess : List Item → Grant
grant_guess fields = record {
  hash = hash_of (bytes_in names.hook_hash fields);
  account = option_map account_of (lookup names.authorize fields);
}

abbrev pub is_grant : List Item → Bool
is_grant fields = only (names.hook_hash ∷ names.authorize ∷ []) fields && is_some (lookup names.hook_hash fields)

abbrev pub grant_of : List Item → Option Grant
grant_of fields = only_if (is_grant fields) (Some (grant_guess fields))

abbrev pub grants_in : List ℕ → Option (List Grant)
grants_in bytes = elements_as names.hook_grant grant_of 16 bytes
