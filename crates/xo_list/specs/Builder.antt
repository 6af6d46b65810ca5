-- What a builder's private helpers answer. The public clauses speak of lists alone.
use Rattle.std.specs.Prelude.{ℕ, ◌≤◌, List, length, take, drop, map, Option, Some, None, IsSome}
use Rattle.xo_fields.specs.declared.field.FieldId.{FieldId}
use Rattle.xo_fields.specs.Field.{number}
use Rattle.xo_list.specs.declared.builder.Put.{Put}
use Rattle.xo_list.specs.Item.{Item, lookup}
use Rattle.xo_list.specs.Located.{AllBelow, AllAbove}

abbrev pub item_put : Put → Item
item_put put = record { field = put.field; value = put.value.items }

-- the list of the fields that were put
abbrev pub puts : List Put → List Item
puts fields = map item_put fields

-- where a field belongs, or that it was put before
abbrev pub IsFree : FieldId → List Put → Option ℕ → Type 0
IsFree field fields None = IsSome (lookup field (puts fields))
IsFree field fields (Some index) =
    (index ≤ length fields) × AllBelow (number field) (puts (take index fields))
    × AllAbove (number field) (puts (drop index fields))
