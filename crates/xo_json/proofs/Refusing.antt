-- What a refusal says of a text.
use Rattle.std.proofs.Common.{◌≡◌, ℕ, zero, suc, List, Some, inl, inr, Result, Ok, Err, IfErr, MatchResult}
use Rattle.std.specs.Prelude.{IsUtf8}
use Rattle.serde_json.specs.Data.{Data, null, boolean, number, string, array, object, Items, no_items, item, Members}
use Rattle.serde_json.specs.Data.{no_members, member}
use Rattle.serde_json.specs.Read.{read}
use Rattle.xo_fields.specs.declared.form.Form.{Form}
use Rattle.xo_fields.specs.declared.form.Form.TheVariants.{Fixed, Money, Blob, Account, Object, Array}
use Rattle.xo_told.specs.declared.fault.JsonFault.{JsonFault}
use Rattle.xo_told.specs.declared.fault.JsonFault.TheVariants.{BadText, BadKey, BadValue, TooDeep, NoMemory}
use Rattle.xo_told.specs.Faults.{Fails, Shows, MemberFails, MembersFail, ObjectFails, InnerFails, OnlyFails}
use Rattle.xo_told.specs.Faults.{ElementFails, ItemsFail, ArrayFails, ValueFails, Refuses}
use Rattle.xo_told.specs.Reading.{ShowsValue}

module _ (fails : Fails) (shows : Shows) (never : (form : Form) (d : Data) → fails form d BadText → ⊥) where
  member_never : (k : List ℕ) (d : Data) → MemberFails fails k d BadText → ⊥
  member_never k d (inl h) = cc h.0
  member_never k d (inr (field, form, is, h)) = never form d h

  members_never : (ms : Members) → MembersFail fails shows ms BadText → ⊥
  members_never no_members h = h
  members_never (member k d ms) (inl h) = member_never k d h
  members_never (member k d ms) (inr h) = members_never ms h.1

  object_never : (d : Data) → ObjectFails fails shows d BadText → ⊥
  object_never null h = cc h
  object_never (boolean b) h = cc h
  object_never (number n) h = cc h
  object_never (string s) h = cc h
  object_never (array ds) h = cc h
  object_never (object ms) h = members_never ms h

  inner_never : (k : List ℕ) (d : Data) → InnerFails fails k d BadText → ⊥
  inner_never k d (inl h) = cc h.0
  inner_never k d (inr (field, is, h)) = never Object d h

  only_never : (ms : Members) → OnlyFails fails ms BadText → ⊥
  only_never no_members h = cc h
  only_never (member k d no_members) h = inner_never k d h
  only_never (member k d (member l e ms)) h = cc h

  element_never : (d : Data) → ElementFails fails d BadText → ⊥
  element_never null h = cc h
  element_never (boolean b) h = cc h
  element_never (number n) h = cc h
  element_never (string s) h = cc h
  element_never (array ds) h = cc h
  element_never (object ms) h = only_never ms h

  items_never : (ds : Items) → ItemsFail fails shows ds BadText → ⊥
  items_never no_items h = h
  items_never (item d ds) (inl h) = element_never d h
  items_never (item d ds) (inr h) = items_never ds h.1

  array_never : (d : Data) → ArrayFails fails shows d BadText → ⊥
  array_never null h = cc h
  array_never (boolean b) h = cc h
  array_never (number n) h = cc h
  array_never (string s) h = cc h
  array_never (array ds) h = items_never ds h
  array_never (object ms) h = cc h

-- what a text reads as fails otherwise than the text
value_never : (room : ℕ) (form : Form) (d : Data) → ValueFails room form d BadText → ⊥
value_never room (Fixed size) d h = cc h.0
value_never room Money d h = cc h.0
value_never room Blob d h = cc h.0
value_never room Account d h = cc h.0
value_never zero Object d h = cc h
value_never zero Array d h = cc h
value_never (suc room) Object d h = object_never (ValueFails room) (ShowsValue room) (value_never room) d h
value_never (suc room) Array d h = array_never (ValueFails room) (ShowsValue room) (value_never room) d h

refused : (text : List ℕ) (d : Data) (fault : JsonFault) → IsUtf8 text × (read text ≡ Some d) →
    ((fault ≡ NoMemory → ⊥) → ObjectFails (ValueFails 10) (ShowsValue 10) d fault) → Refuses text fault
refused text d BadText is h = absurd (object_never (ValueFails 10) (ShowsValue 10) (value_never 10) d (h (λ e. cc e)))
refused text d BadKey is h = (d, is.0, is.1, h (λ e. cc e))
refused text d BadValue is h = (d, is.0, is.1, h (λ e. cc e))
refused text d TooDeep is h = (d, is.0, is.1, h (λ e. cc e))
refused text d NoMemory is h = tt

pub root_refuses : {A : Type 0} (P : A → Type 0) (text : List ℕ) (d : Data) (r : Result A JsonFault) →
    IsUtf8 text × (read text ≡ Some d) →
    MatchResult r P (λ fault. (fault ≡ NoMemory → ⊥) → ObjectFails (ValueFails 10) (ShowsValue 10) d fault) →
    IfErr r (λ fault. Refuses text fault)
root_refuses P text d (Ok x) is h = tt
root_refuses P text d (Err fault) is h = refused text d fault is h
