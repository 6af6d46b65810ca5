-- A text is told to show what it shows, and refused as it fails.
use Rattle.std.proofs.Common.{◌≡◌, ℕ, zero, suc, ◌⊎◌, inl, inr, Bool, true, false, List, refl, sym, subst, ◌∙◌, Option}
use Rattle.std.proofs.Common.{Some, None, Ok, Err, if◌then◌else◌}
use Rattle.std.specs.Prelude.{IsUtf8}
use Rattle.std.specs.Str.{is_utf8}
use Rattle.std.proofs.lemmas.Str.{IsUtf8-from_is_utf8, is_utf8-from_IsUtf8}
use Rattle.serde_json.specs.Data.{Data, array, object, Items, no_items, item, Members, no_members, member}
use Rattle.serde_json.specs.Read.{read}
use Rattle.xo_fields.specs.declared.form.Form.{Form}
use Rattle.xo_fields.specs.declared.form.Form.TheVariants.{Fixed, Money, Blob, Account, Object, Array}
use Rattle.xo_fields.proofs.Cases.{none_some}
use Rattle.xo_list.specs.Item.{Item}
use Rattle.xo_told.specs.declared.fault.JsonFault.{JsonFault}
use Rattle.xo_told.specs.declared.fault.JsonFault.TheVariants.{BadText, BadKey, BadValue, TooDeep, NoMemory}
use Rattle.xo_told.specs.Faults.{MembersFail, ObjectFails, ElementFails, ItemsFail, ArrayFails, ValueFails, ReadFails}
use Rattle.xo_told.specs.Faults.{Refuses}
use Rattle.xo_told.specs.Laws.{ShowsObject, TellsFields, TellsFaults, NeverMemory}
use Rattle.xo_told.specs.Reading.{ShowsValue}
use Rattle.xo_told.specs.Told.{value_told, fields_told, told_of, told}
use Rattle.xo_told.proofs.Ordered.{read_ordered}
use Rattle.xo_told.proofs.Steps.{never, err_same, err_ok}
use Rattle.xo_told.proofs.ValuesTold.{tells, fields_sound, fields_fail, fields_refuse, fields_complete}

told_is : (text : List ℕ) → told text ≡ (if is_utf8 text then told_of (read text) else Err BadText)
unfolding told
told_is text = refl

-- ---- the faults of what a text reads as

abbrev pub OfValue : JsonFault → Type 0
OfValue BadText = ⊥
OfValue BadKey = Unit {0}
OfValue BadValue = Unit {0}
OfValue TooDeep = Unit {0}
OfValue NoMemory = ⊥

bad_value : (fault : JsonFault) → fault ≡ BadValue → OfValue fault
bad_value fault e = subst OfValue (sym e) tt

bad_key : (fault : JsonFault) → fault ≡ BadKey → OfValue fault
bad_key fault e = subst OfValue (sym e) tt

module _ (room : ℕ)
    (each : (form : Form) (d : Data) (fault : JsonFault) → ValueFails room form d fault → OfValue fault) where
  of_members : (ms : Members) (fault : JsonFault) → MembersFail (ValueFails room) (ShowsValue room) ms fault →
      OfValue fault
  of_members no_members fault fails = absurd fails
  of_members (member text d ms) fault (inl (inl (bad, none))) = bad_key fault bad
  of_members (member text d ms) fault (inl (inr (f, form, k, fails))) = each form d fault fails
  of_members (member text d ms) fault (inr (shows, rest)) = of_members ms fault rest

  of_object : (d : Data) (fault : JsonFault) → ObjectFails (ValueFails room) (ShowsValue room) d fault → OfValue fault
  of_object (object ms) fault fails = of_members ms fault fails
  of_object d fault bad = bad_value fault bad

  of_element : (d : Data) (fault : JsonFault) → ElementFails (ValueFails room) d fault → OfValue fault
  of_element (object (member text d no_members)) fault (inl (bad, none)) = bad_key fault bad
  of_element (object (member text d no_members)) fault (inr (f, k, fails)) = each Object d fault fails
  of_element (object no_members) fault bad = bad_value fault bad
  of_element (object (member k d (member l e ms))) fault bad = bad_value fault bad
  of_element d fault bad = bad_value fault bad

  of_items : (ds : Items) (fault : JsonFault) → ItemsFail (ValueFails room) (ShowsValue room) ds fault → OfValue fault
  of_items no_items fault fails = absurd fails
  of_items (item d ds) fault (inl first) = of_element d fault first
  of_items (item d ds) fault (inr (shows, rest)) = of_items ds fault rest

  of_array : (d : Data) (fault : JsonFault) → ArrayFails (ValueFails room) (ShowsValue room) d fault → OfValue fault
  of_array (array ds) fault fails = of_items ds fault fails
  of_array d fault bad = bad_value fault bad

of_value : (room : ℕ) (form : Form) (d : Data) (fault : JsonFault) → ValueFails room form d fault → OfValue fault
of_value room (Fixed size) d fault fails = bad_value fault fails.0
of_value room Money d fault fails = bad_value fault fails.0
of_value room Blob d fault fails = bad_value fault fails.0
of_value room Account d fault fails = bad_value fault fails.0
of_value zero Object d fault bad = subst OfValue (sym bad) tt
of_value zero Array d fault bad = subst OfValue (sym bad) tt
of_value (suc room) Object d fault fails = of_object room (of_value room) d fault fails
of_value (suc room) Array d fault fails = of_array room (of_value room) d fault fails

-- ---- what is told of a text

told_true : (text : List ℕ) (d : Data) → IsUtf8 text → read text ≡ Some d → told text ≡ fields_told (value_told 10) d
told_true text d utf8 e = told_is text ∙ (λ i. if is_utf8-from_IsUtf8 text utf8 i then told_of (e i) else Err BadText)

-- the text reads as this, or not at all
abbrev pub Cases : List ℕ → Type 0
Cases text =
    ((IsUtf8 text → read text ≡ None) × (told text ≡ Err BadText))
    ⊎ ((d : Data) × IsUtf8 text × (read text ≡ Some d) × (told text ≡ fields_told (value_told 10) d))

cases : (text : List ℕ) → Cases text
cases text = at (is_utf8 text) refl (read text) refl
  where
    at : (b : Bool) → is_utf8 text ≡ b → (o : Option Data) → read text ≡ o → Cases text
    at true u (Some d) e = inr (d, IsUtf8-from_is_utf8 text u, e, told_true text d (IsUtf8-from_is_utf8 text u) e)
    at true u None e = inl (λ utf8. e, told_is text ∙ (λ i. if u i then told_of (e i) else Err BadText))
    at false u o e =
        inl (
          λ utf8.
              absurd (never (is_utf8 text) (is_utf8-from_IsUtf8 text utf8) u),
          told_is text ∙ (λ i. if u i then told_of (read text) else Err BadText),
        )

sound : (text : List ℕ) (xs : List Item) → told text ≡ Ok xs → ShowsObject text xs
sound text xs h = elim (cases text) [
  | inl c ↦ err_ok xs BadText (sym c.1 ∙ h)
  | inr c ↦
      let s = fields_sound 10 (value_told 10) (tells 10) c.0 xs (read_ordered text c.0 c.2) (sym c.3 ∙ h) in
      record { utf8 = c.1; shows = (c.0, c.2, s.shows); fits = s.fits; bytes = s.bytes }
]

complete : (text : List ℕ) (xs : List Item) → ShowsObject text xs → told text ≡ Ok xs
complete text xs s =
    let (d, e, shows) = s.shows in
    told_true text d s.utf8 e
    ∙ fields_complete 10 (value_told 10) (tells 10) d xs (read_ordered text d e)
    (record { fits = s.fits; bytes = s.bytes; shows = shows })

read_fails : (text : List ℕ) (fault : JsonFault) → OfValue fault → ReadFails text fault → Refuses text fault
read_fails text BadText of fails = absurd of
read_fails text BadKey of fails = fails
read_fails text BadValue of fails = fails
read_fails text TooDeep of fails = fails
read_fails text NoMemory of fails = absurd of

failing : (text : List ℕ) (d : Data) (fault : JsonFault) → read text ≡ Some d →
    told text ≡ fields_told (value_told 10) d → told text ≡ Err fault →
    ObjectFails (ValueFails 10) (ShowsValue 10) d fault
failing text d fault e is h = fields_fail 10 (value_told 10) (tells 10) d fault (read_ordered text d e) (sym is ∙ h)

refused : (text : List ℕ) (fault : JsonFault) → told text ≡ Err fault → Refuses text fault
refused text fault h = elim (cases text) [
  | inl c ↦ subst (Refuses text) (err_same (List Item) BadText fault (sym c.1 ∙ h)) c.0
  | inr c ↦
      let fails = failing text c.0 fault c.2 c.3 h in
      read_fails text fault (of_object 10 (of_value 10) c.0 fault fails) (c.0, c.1, c.2, fails)
]

refuses : (text : List ℕ) (fault : JsonFault) → ReadFails text fault → told text ≡ Err fault
refuses text fault (d, utf8, e, fails) =
    told_true text d utf8 e ∙ fields_refuse 10 (value_told 10) (tells 10) d fault (read_ordered text d e) fails

refuses_all : (text : List ℕ) (fault : JsonFault) → (fault ≡ NoMemory → ⊥) → Refuses text fault → told text ≡ Err fault
refuses_all text BadText some none = elim (cases text) [ inl c ↦ c.1 | inr c ↦ none_some c.0 (sym (none c.1) ∙ c.2) ]
refuses_all text BadKey some fails = refuses text BadKey fails
refuses_all text BadValue some fails = refuses text BadValue fails
refuses_all text TooDeep some fails = refuses text TooDeep fails
refuses_all text NoMemory some fails = absurd (some refl)

no_memory : BadText ≡ NoMemory → ⊥
no_memory e = cc e

pub tells_fields : TellsFields
tells_fields text xs = (sound text xs, complete text xs)

pub tells_faults : TellsFaults
tells_faults text fault some = (refused text fault, refuses_all text fault some)

pub never_memory : NeverMemory
never_memory text h = elim (cases text) [
  | inl c ↦ no_memory (err_same (List Item) BadText NoMemory (sym c.1 ∙ h))
  | inr c ↦ of_object 10 (of_value 10) c.0 NoMemory (failing text c.0 NoMemory c.2 c.3 h)
]
