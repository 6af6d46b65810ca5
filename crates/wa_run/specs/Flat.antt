-- Flat code under way, against the machine's configuration: where each open region stands, and what its label says.
use Rattle.std.specs.Prelude.{ℕ, ◌≡◌, ◌+◌, ◌^◌, ◌<◌, ◌⊎◌, List, [], ◌∷◌, ◌++◌, length, take, drop, Option, Some, None}
use Rattle.std.specs.Prelude.{Bool, true, false}
use Rattle.wa_ops.specs.declared.op.Op.{Op}
use Rattle.wa_ops.specs.declared.op.Op.TheVariants.{Else, End}
use Rattle.wa_ops.specs.declared.op.ValueType.{ValueType}
use Rattle.wa_ops.specs.Ends.{ends_of}
use Rattle.wa_ops.specs.Sequences.{Sequence, IsTree, flat}
use Rattle.wa_machine.specs.Machine.{Value, word32, word64, word_of, Kind, body, inner, turns, Region}
use Rattle.wa_run.specs.declared.label.Label.{Label}
use Rattle.wa_run.specs.declared.label.Place.{Place}
use Rattle.wa_run.specs.declared.label.Place.TheVariants as place

abbrev pub words_of : List Value → List ℕ
words_of [] = []
words_of (value ∷ values) = word_of value ∷ words_of values

-- the operands of all open regions, the last pushed first
abbrev pub all_words : List Region → List ℕ
all_words [] = []
all_words (region ∷ around) = words_of region.operands ++ all_words around

-- a number is one of its type
abbrev pub IsValue : Value → Type 0
IsValue (word32 n) = n < 2 ^ 32
IsValue (word64 n) = n < 2 ^ 64

abbrev pub AllValues : List Value → Type 0
AllValues [] = Unit {0}
AllValues (value ∷ values) = IsValue value × AllValues values

-- a region's sequence ends at an `end`, or at the `else` of its `if`
abbrev pub IsMarker : Op → Type 0
IsMarker instruction = (instruction ≡ End) ⊎ (instruction ≡ Else)

-- this sequence stands at this place of the code, with these instructions and entries of the table of ends behind it
pub record Stands (ops : List Op) (ends : List ℕ) (code : Sequence) (at : ℕ) (more : List Op)
    (others : List ℕ) : Type 0 where
  pub ops_are : drop at ops ≡ flat code more
  pub ends_are : drop at ends ≡ ends_of code at others

-- what is left of a region stands at this place
pub record Standing (ops : List Op) (ends : List ℕ) (code : Sequence) (at : ℕ) : Type 0 where
  pub marker : Op
  pub more : List Op
  pub others : List ℕ
  pub stands : Stands ops ends code at (marker ∷ more) others
  pub marks_end : IsMarker marker
  pub tree : IsTree code

-- a label's place is of its region's kind; that of a loop is where its whole body stands
abbrev pub IsOfKind : List Op → List ℕ → Kind → Place → Type 0
IsOfKind ops ends body place.Body = Unit {0}
IsOfKind ops ends inner place.Inner = Unit {0}
IsOfKind ops ends (turns whole) (place.Loop start) = Standing ops ends whole start
IsOfKind ops ends kind found = ⊥

abbrev pub has_result : Option ValueType → Bool
has_result None = false
has_result (Some kind) = true

-- the label of a region with this many words below it
pub record IsLabelled (ops : List Op) (ends : List ℕ) (kind : Kind) (result : Option ValueType) (below : ℕ)
    (label : Label) : Type 0 where
  pub of_kind : IsOfKind ops ends kind label.place
  pub carries : label.carries ≡ has_result result
  pub height : label.height ≡ below

-- an open region, where its rest stands, and its label
pub record Marks (ops : List Op) (ends : List ℕ) (region : Region) (at below : ℕ) (label : Label) : Type 0 where
  pub standing : Standing ops ends region.rest at
  pub labelled : IsLabelled ops ends region.kind region.result below label
  pub values : AllValues region.operands

-- the open regions and their labels, the innermost first; each region around goes on behind the `end` of the one inside
abbrev pub AllMark : List Op → List ℕ → List Region → ℕ → List Label → Type 0
AllMark ops ends [] at [] = Unit {0}
AllMark ops ends [] at (label ∷ labels) = ⊥
AllMark ops ends (region ∷ around) at [] = ⊥
AllMark ops ends (region ∷ around) at (label ∷ labels) =
    Marks ops ends region at (length (all_words around)) label × AllMark ops ends around (label.last + 1) labels

-- the outermost region is the function's body
abbrev pub IsRooted : List Region → Type 0
IsRooted [] = ⊥
IsRooted (region ∷ []) = region.kind ≡ body
IsRooted (region ∷ other ∷ around) = IsRooted (other ∷ around)

-- the words of the result that a branch carries
abbrev pub carried_words : Bool → List ℕ → List ℕ
carried_words true words = take 1 words
carried_words false words = []

-- the last pushed word is one of 32 bits
abbrev pub IsNarrow : List ℕ → Type 0
IsNarrow [] = ⊥
IsNarrow (word ∷ words) = word < 2 ^ 32
