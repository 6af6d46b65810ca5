-- Where a field stands among an object's fields, and an element among an array's.
use Rattle.std.specs.Prelude.{◌≡◌, ℕ, ◌<◌, ◌≤◌, true, List, [], ◌∷◌, ◌++◌, length, take, drop}
use Rattle.xo_fields.specs.declared.field.FieldId.{FieldId}
use Rattle.xo_fields.specs.Field.{number}
use Rattle.xo_list.specs.declared.find.Located.{Located}
use Rattle.xo_list.specs.declared.find.Located.TheVariants.{Found, Absent}
use Rattle.xo_list.specs.declared.find.Passed.{Passed}
use Rattle.xo_list.specs.Item.{Item, spell}
use Rattle.xo_list.specs.Value.{Goes, IsValue}
use Rattle.xo_list.specs.Span.{part, value_span}

abbrev pub AllBelow : ℕ → List Item → Type 0
AllBelow n [] = Unit {0}
AllBelow n (x ∷ xs) = (number x.field < n) × AllBelow n xs

abbrev pub AllAbove : ℕ → List Item → Type 0
AllAbove n [] = Unit {0}
AllAbove n (x ∷ xs) = (n < number x.field) × AllAbove n xs

-- the fields below a field's number end at one place, and those above it begin at another
pub record Cuts (bytes : List ℕ) (field : FieldId) (before after : List Item) (from to : ℕ) : Type 0 where
  pub below : AllBelow (number field) before
  pub above : AllAbove (number field) after
  pub front : take from bytes ≡ spell before
  pub rest : drop to bytes ≡ spell after
  pub order : from ≤ to
  pub within : to ≤ length bytes

-- where the field stands or would stand
abbrev pub Locates : List ℕ → FieldId → List Item → Located → Type 0
Locates bytes field items (Found from value to) =
    (before : List Item) × (after : List Item) × Cuts bytes field before after from to
    × (items ≡ before ++ record { field = field; value = part bytes value.from value.to } ∷ after)
    × (value.from ≤ value.to) × (value.to ≤ length bytes)
    × (value ≡ value_span from (record { field = field; value = part bytes value.from value.to }))
Locates bytes field items (Absent at) =
    (before : List Item) × (after : List Item) × Cuts bytes field before after at at × (items ≡ before ++ after)

-- so many elements were passed over, and no more only where there are no more
abbrev pub Passes : List ℕ → List Item → ℕ → Passed → Type 0
Passes bytes elements count passed =
    (before : List Item) × (after : List Item) × (elements ≡ before ++ after) × (length before ≡ passed.count)
    × (passed.count ≤ count) × (passed.count < count → after ≡ [])
    × (passed.at ≤ length bytes) × Goes (IsValue 9) true 0 after (drop passed.at bytes) (λ last rest. rest ≡ [])
    × (passed.at ≡ length (spell before))
