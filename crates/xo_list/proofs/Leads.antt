-- The loop over fields: what stands from a place on leads to the same outcome for all of the bytes.
use Rattle.std.proofs.Common.{ℕ, Bool, List, [], ◌∷◌, ◌++◌, ap, ◌∙◌, inl, inr}
use Rattle.xo_fields.specs.declared.field.FieldId.{FieldId}
use Rattle.xo_fields.specs.declared.form.Form.{Form}
use Rattle.xo_fields.specs.Field.{number}
use Rattle.xo_fields.specs.Header.{header}
use Rattle.xo_list.specs.declared.fault.ObjectFault.{ObjectFault}
use Rattle.xo_list.specs.declared.skip.Place.{Place}
use Rattle.xo_list.specs.Value.{Head, Stands, IsValue}
use Rattle.xo_list.specs.Fault.{is_array, IsEnd, IsNoEnd, HeadFails, BodyFails, Outcome, ends, fails, Reads}
use Rattle.xo_list.specs.Span.{Valued}

pub record Leads (room : ℕ) (place : Place) (last : ℕ) (here whole : List ℕ) : Type 0 where
  pub lead : (outcome : Outcome) → Reads room place last here outcome → Reads room place 0 whole outcome

pub at_first : (room : ℕ) (place : Place) (bytes : List ℕ) → Leads room place 0 bytes bytes
at_first room place bytes = record { lead = λ outcome h. h }

pub field_stands : (array : Bool) (room last : ℕ) (f : FieldId) (form : Form) (here tail value later : List ℕ) →
    Head array last f form here tail → Valued room form tail value later →
    Stands (IsValue room) array last (record { field = f; value = value }) here later
field_stands array room last f form here tail value later h v =
    record {
      form = form;
      head = record {
        is = h.is;
        known = h.known;
        whole = h.whole ∙ ap (λ x. header f ++ x) v.whole;
        allowed = h.allowed;
      };
      value = v.fits;
    }

-- one field more
pub further : (room : ℕ) (place : Place) (last : ℕ) (f : FieldId) (form : Form) (here tail value later whole : List ℕ) →
    Leads room place last here whole → Head (is_array place) last f form here tail → Valued room form tail value later →
    Leads room place (number f) later whole
further room place last f form here tail value later whole l h v =
    record {
      lead =
          λ outcome r.
          l.lead outcome (
            record { field = f; value = value } ∷ r.0,
            (later, field_stands (is_array place) room last f form here tail value later h v, r.1),
          );
    }

-- the ways to stop
pub stops_here : (room : ℕ) (place : Place) (last : ℕ) (here whole rest : List ℕ) → Leads room place last here whole →
    IsEnd place here rest → Reads room place 0 whole (ends rest)
stops_here room place last here whole rest l e = l.lead (ends rest) ([], e)

pub fails_at_head : (room : ℕ) (place : Place) (last : ℕ) (here whole : List ℕ) (fault : ObjectFault) →
    Leads room place last here whole → IsNoEnd place here →
    HeadFails (is_array place) last here fault → Reads room place 0 whole (fails fault)
fails_at_head room place last here whole fault l n h = l.lead (fails fault) ([], (n, inl h))

pub fails_inside : (room : ℕ) (place : Place) (last : ℕ) (f : FieldId) (form : Form) (here tail whole : List ℕ)
    (fault : ObjectFault) → Leads room place last here whole → IsNoEnd place here →
    Head (is_array place) last f form here tail → BodyFails room form tail fault →
    Reads room place 0 whole (fails fault)
fails_inside room place last f form here tail whole fault l n h b =
    l.lead (fails fault) ([], (n, inr (f, form, tail, h, b)))
