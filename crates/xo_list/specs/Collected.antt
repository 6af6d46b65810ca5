-- What a private helper collects: the spans of the fields up to an end.
use Rattle.std.specs.Prelude.{◌≡◌, ℕ, List, length, All}
use Rattle.xo_fields.specs.declared.field.FieldId.{FieldId}
use Rattle.xo_list.specs.declared.skip.Place.{Place}
use Rattle.xo_list.specs.declared.span.Span.{Span}
use Rattle.xo_list.specs.Fault.{Comes, BodyFails, ends}
use Rattle.xo_list.specs.Span.{items_of, places, InOrder, InRange}
use Rattle.xo_list.specs.Value.{IsValue}

pub record Collects (room : ℕ) (place : Place) (bytes : List ℕ) (spans : List (FieldId × Span)) : Type 0 where
  pub comes : (rest : List ℕ) × Comes (IsValue room) (BodyFails room) place 0 (items_of bytes spans) bytes (ends rest)
  pub exact : spans ≡ places 0 (items_of bytes spans)
  pub order : InOrder 0 (length bytes) spans
  pub ranges : All (InRange bytes) spans
