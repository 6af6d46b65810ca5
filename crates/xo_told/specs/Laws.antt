-- The function and the relations of a text's fields and faults are one.
use Rattle.std.specs.Prelude.{◌≡◌, ◌↔◌, ℕ, List, IsUtf8, Ok, Err}
use Rattle.xo_list.specs.Item.{Item}
use Rattle.xo_list.specs.List.{IsList}
use Rattle.xo_showing.specs.Bytes.{HaveBytes}
use Rattle.xo_showing.specs.Shows.{Shows}
use Rattle.xo_told.specs.declared.fault.JsonFault.{JsonFault}
use Rattle.xo_told.specs.declared.fault.JsonFault.TheVariants.{NoMemory}
use Rattle.xo_told.specs.Faults.{Refuses}
use Rattle.xo_told.specs.Told.{told}

-- the text is UTF-8 and shows the fields of an object
pub record ShowsObject (text : List ℕ) (fields : List Item) : Type 0 where
  pub utf8 : IsUtf8 text
  pub shows : Shows text fields
  pub fits : IsList fields
  pub bytes : HaveBytes fields

abbrev pub TellsFields : Type 0
TellsFields = (text : List ℕ) (fields : List Item) → (told text ≡ Ok fields) ↔ ShowsObject text fields

abbrev pub TellsFaults : Type 0
TellsFaults =
    (text : List ℕ) (fault : JsonFault) → (fault ≡ NoMemory → ⊥) → (told text ≡ Err fault) ↔ Refuses text fault

abbrev pub NeverMemory : Type 0
NeverMemory = (text : List ℕ) → told text ≡ Err NoMemory → ⊥
