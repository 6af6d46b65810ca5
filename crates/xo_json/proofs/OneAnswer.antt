-- A text has one answer: what it shows, or why it is refused.
use Rattle.std.proofs.Common.{◌≡◌, ◌∙◌, ap, ℕ, List, Result, Ok, Err, IfOk, IfErr, MatchResult}
use Rattle.std.specs.Prelude.{IsUtf8, Some}
use Rattle.serde_json.specs.Data.{Data, object}
use Rattle.serde_json.specs.Read.{read}
use Rattle.xo_list.specs.Item.{Item}
use Rattle.xo_list.specs.List.{IsList}
use Rattle.xo_list.specs.Span.{Seen, items}
use Rattle.xo_showing.specs.Bytes.{HaveBytes}
use Rattle.xo_showing.specs.Shows.{Shows, lowered}
use Rattle.xo_told.specs.Told.{told}
use Rattle.xo_told.specs.declared.fault.JsonFault.{JsonFault}
use Rattle.xo_told.specs.declared.fault.JsonFault.TheVariants.{NoMemory}
use Rattle.xo_told.specs.Faults.{Refuses}
use Rattle.xo_told.proofs.Telling.{tells_fields, tells_faults}
use Rattle.xo_json.specs.Parts.{ShowsRoot}

root_shows : (text : List ℕ) (d : Data) (fields : List Item) → IsUtf8 text × (read text ≡ Some d) → ShowsRoot d fields →
    Shows text fields
root_shows text d fields is (ms, seen, s) = (d, is.1, ap lowered seen ∙ ap object s.shows)

-- what was read is what the text is told to show
pub root_tells : (P : JsonFault → Type 0) (text : List ℕ) (d : Data) (r : Result Seen JsonFault) →
    IsUtf8 text × (read text ≡ Some d) → MatchResult r (λ object. ShowsRoot d (items object)) P →
    IfOk r (λ object. told text ≡ Ok (items object))
root_tells P text d (Ok x) is s =
    (tells_fields text (items x)).1
    (record { utf8 = is.0; shows = root_shows text d (items x) is s; fits = s.2.fits; bytes = s.2.bytes })
root_tells P text d (Err fault) is s = tt

-- a refusal is what the text is told to fail with
pub refusal_tells : {A : Type 0} (text : List ℕ) (r : Result A JsonFault) → IfErr r (λ fault. Refuses text fault) →
    IfErr r (λ fault. (fault ≡ NoMemory → ⊥) → told text ≡ Err fault)
refusal_tells text (Ok x) h = tt
refusal_tells text (Err fault) h = λ other. (tells_faults text fault other).1 h

apart : (r : Result (List Item) JsonFault) (fields : List Item) (fault : JsonFault) → r ≡ Ok fields → r ≡ Err fault → ⊥
apart (Ok x) fields fault e h = cc h
apart (Err x) fields fault e h = cc e

-- so it shows no fields
pub none_shown : {A : Type 0} (text : List ℕ) (r : Result A JsonFault) → IfErr r (λ fault. Refuses text fault) →
    IfErr r (λ fault.
    (fault ≡ NoMemory → ⊥) → (fields : List Item) → IsUtf8 text → Shows text fields → IsList fields → HaveBytes fields →
    ⊥)
none_shown text (Ok x) h = tt
none_shown text (Err fault) h = λ other fields utf8 shows list small.
    apart (told text) fields fault
    ((tells_fields text fields).1 (record { utf8 = utf8; shows = shows; fits = list; bytes = small }))
    ((tells_faults text fault other).1 h)
