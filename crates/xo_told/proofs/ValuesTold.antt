-- Values are told as they show, by how many objects and arrays may be open in them.
use Rattle.std.proofs.Common.{◌≡◌, ℕ, zero, suc, true, false, List, refl, sym, ap, subst, ◌∙◌, Ok, Err}
use Rattle.serde_json.specs.Data.{Data, array, object, Members}
use Rattle.serde_json.specs.Find.{get_member}
use Rattle.xo_fields.specs.declared.form.Form.{Form}
use Rattle.xo_fields.specs.declared.form.Form.TheVariants.{Fixed, Money, Blob, Account, Object, Array}
use Rattle.xo_list.specs.Item.{Item, spell}
use Rattle.xo_list.specs.List.{ListFits}
use Rattle.xo_list.specs.Value.{Whole, IsValue}
use Rattle.xo_list.proofs.ListLemmas.{listed, spelled}
use Rattle.xo_showing.specs.Bytes.{AreBytes, HaveBytes}
use Rattle.xo_showing.specs.Key.{key}
use Rattle.xo_showing.specs.Showing.{members, elements, elements_in, shown}
use Rattle.xo_showing.specs.Shows.{lowered, lowered_items, lowered_members}
use Rattle.xo_showing.proofs.Bytes.{spelled_bytes}
use Rattle.xo_showing.proofs.Fields.{one_list}
use Rattle.xo_showing.proofs.Nested.{fields_are, elements_are}
use Rattle.xo_showing.proofs.Values.{one_value}
use Rattle.xo_told.specs.declared.fault.JsonFault.{JsonFault}
use Rattle.xo_told.specs.declared.fault.JsonFault.TheVariants.{BadValue, TooDeep}
use Rattle.xo_told.specs.Faults.{IsNone, ObjectFails, ArrayFails, ValueFails}
use Rattle.xo_told.specs.Reading.{ShowsValue}
use Rattle.xo_told.specs.Told.{Told, told_map, Teller, plain_told, fields_told, elements_told, value_told}
use Rattle.xo_told.proofs.ElementsTold.{items_apart, items_sound, items_fail, items_refuse}
use Rattle.xo_told.proofs.MembersTold.{Tells, Apart, members_apart, members_sound, members_fail, members_refuse}
use Rattle.xo_told.proofs.Ordered.{IsOrdered}
use Rattle.xo_told.proofs.PlainTold.{plain_sound, plain_complete, plain_fails, plain_none}
use Rattle.xo_told.proofs.SpelledBytes.{list_bytes}
use Rattle.xo_told.proofs.Steps.{err_same, err_ok, map_ok, map_err}

-- ---- objects and arrays in which so many more may be open

module _ (room : ℕ) where
  pub record ShowsFields (d : Data) (xs : List Item) : Type 0 where
    pub fits : ListFits (IsValue room) false 0 xs
    pub bytes : HaveBytes xs
    pub shows : lowered d ≡ object (members (shown room) xs)

  pub record ShowsElements (d : Data) (xs : List Item) : Type 0 where
    pub fits : ListFits (IsValue room) true 0 xs
    pub bytes : HaveBytes xs
    pub shows : lowered d ≡ array (elements (shown room) xs)

  -- what a nested value shows
  nested_fields : (d : Data) (value : List ℕ) → ShowsValue (suc room) Object d value →
      (xs : List Item) × ShowsFields d xs × (value ≡ spell xs)
  nested_fields d value s =
      let xs : List Item = s.fits.0 in
      let all : ListFits (IsValue room) false 0 xs × (value ≡ spell xs) =
      listed (IsValue room) false 0 xs value s.fits.1 in (
        xs,
        record {
          fits = all.0;
          bytes = spelled_bytes (IsValue room) false 0 xs all.0 (subst AreBytes all.1 s.bytes);
          shows = s.shows ∙ ap (λ ys. object (members (shown room) ys)) (fields_are room xs value s.fits.1);
        },
        all.1,
      )

  nested_elements : (d : Data) (value : List ℕ) → ShowsValue (suc room) Array d value →
      (xs : List Item) × ShowsElements d xs × (value ≡ spell xs)
  nested_elements d value s =
      let xs : List Item = s.fits.0 in
      let all : ListFits (IsValue room) true 0 xs × (value ≡ spell xs) =
      listed (IsValue room) true 0 xs value s.fits.1 in (
        xs,
        record {
          fits = all.0;
          bytes = spelled_bytes (IsValue room) true 0 xs all.0 (subst AreBytes all.1 s.bytes);
          shows = s.shows ∙ ap (λ ys. array (elements (shown room) ys)) (elements_are room xs value s.fits.1);
        },
        all.1,
      )

  fields_nested : (d : Data) (xs : List Item) → ShowsFields d xs → ShowsValue (suc room) Object d (spell xs)
  fields_nested d xs s =
      let whole : Whole (IsValue room) false xs (spell xs) = spelled (IsValue room) false 0 xs s.fits in
      record {
        bytes = list_bytes room false 0 xs s.fits s.bytes;
        fits = (xs, whole);
        shows = s.shows ∙ ap (λ ys. object (members (shown room) ys)) (sym (fields_are room xs (spell xs) whole));
      }

  elements_nested : (d : Data) (xs : List Item) → ShowsElements d xs → ShowsValue (suc room) Array d (spell xs)
  elements_nested d xs s =
      let whole : Whole (IsValue room) true xs (spell xs) = spelled (IsValue room) true 0 xs s.fits in
      record {
        bytes = list_bytes room true 0 xs s.fits s.bytes;
        fits = (xs, whole);
        shows = s.shows ∙ ap (λ ys. array (elements (shown room) ys)) (sym (elements_are room xs (spell xs) whole));
      }

  -- one value shows one list
  one_fields : (d : Data) (xs ys : List Item) → ShowsFields d xs → ShowsFields d ys → xs ≡ ys
  one_fields d xs ys s u =
      let alike : members (shown room) xs ≡ members (shown room) ys =
      same_members (members (shown room) xs) (members (shown room) ys) (sym s.shows ∙ u.shows) in
      one_list (shown room) (IsValue room) (one_value room) 0 xs ys s.fits u.fits s.bytes u.bytes
      (λ f is above. ap (get_member (key f)) alike)
    where
      same_members : (ms ns : Members) → object ms ≡ object ns → ms ≡ ns
      same_members ms ns e = cc e

  pub fields_apart : Apart room → (d : Data) (xs : List Item) (fault : JsonFault) → ShowsFields d xs →
      ObjectFails (ValueFails room) (ShowsValue room) d fault → ⊥
  fields_apart apart (object ms) xs fault s fails =
      members_apart room apart ms xs fault (record {
        fits = s.fits;
        bytes = s.bytes;
        shows = let h : object (lowered_members ms) ≡ object (members (shown room) xs) = s.shows in cc h;
      }) fails
  fields_apart apart d xs fault s fails = let h = s.shows in cc h

  elements_apart : Apart room → (d : Data) (xs : List Item) (fault : JsonFault) → ShowsElements d xs →
      ArrayFails (ValueFails room) (ShowsValue room) d fault → ⊥
  elements_apart apart (array ds) xs fault s fails =
      items_apart room apart ds 0 xs fault s.fits s.bytes
      (let h : array (lowered_items ds) ≡ array (elements (shown room) xs) = s.shows in cc h) fails
  elements_apart apart d xs fault s fails = let h = s.shows in cc h

pub apart : (room : ℕ) → Apart room
apart room (Fixed size) d value fault s fails = fails.1 value s
apart room Money d value fault s fails = fails.1 value s
apart room Blob d value fault s fails = fails.1 value s
apart room Account d value fault s fails = fails.1 value s
apart zero Object d value fault s fails = s.fits
apart zero Array d value fault s fails = s.fits
apart (suc room) Object d value fault s fails =
    let (xs, shows, is) = nested_fields room d value s in fields_apart room (apart room) d xs fault shows fails
apart (suc room) Array d value fault s fails =
    let (xs, shows, is) = nested_elements room d value s in elements_apart room (apart room) d xs fault shows fails

-- elements of one value are one list
one_elements : (room : ℕ) (d : Data) (xs ys : List Item) → ShowsElements room d xs → ShowsElements room d ys → xs ≡ ys
one_elements room d xs ys s u =
    let one : ShowsValue (suc room) Array d (spell xs) = elements_nested room d xs s in
    let other : ShowsValue (suc room) Array d (spell ys) = elements_nested room d ys u in
    let same : spell xs ≡ spell ys =
    one_value (suc room) Array (spell xs) (spell ys) one.fits other.fits one.bytes other.bytes
    (sym one.shows ∙ other.shows) in
    sym (elements_are room xs (spell xs) (spelled (IsValue room) true 0 xs s.fits))
    ∙ ap (elements_in room) same
    ∙ elements_are room ys (spell ys) (spelled (IsValue room) true 0 ys u.fits)

module _ (room : ℕ) (tell : Teller) (t : Tells room tell) where
  pub fields_sound : (d : Data) (xs : List Item) → IsOrdered d → fields_told tell d ≡ Ok xs → ShowsFields room d xs
  fields_sound (object ms) xs o e =
      let s = members_sound room tell t ms xs o e in
      record { fits = s.fits; bytes = s.bytes; shows = ap object s.shows }
  fields_sound d xs o e = err_ok xs BadValue e

  pub fields_fail : (d : Data) (fault : JsonFault) → IsOrdered d → fields_told tell d ≡ Err fault →
      ObjectFails (ValueFails room) (ShowsValue room) d fault
  fields_fail (object ms) fault o e = members_fail room tell t ms fault o e
  fields_fail d fault o e = sym (err_same (List Item) BadValue fault e)

  pub fields_refuse : (d : Data) (fault : JsonFault) → IsOrdered d →
      ObjectFails (ValueFails room) (ShowsValue room) d fault → fields_told tell d ≡ Err fault
  fields_refuse (object ms) fault o fails = members_refuse room tell t ms fault o fails
  fields_refuse d fault o bad = λ i. Err (sym bad i)

  pub fields_complete : (d : Data) (xs : List Item) → IsOrdered d → ShowsFields room d xs → fields_told tell d ≡ Ok xs
  fields_complete d xs o s = at (fields_told tell d) refl
    where
      at : (r : Told (List Item)) → fields_told tell d ≡ r → r ≡ Ok xs
      at (Ok ys) e = λ i. Ok (one_fields room d ys xs (fields_sound d ys o e) s i)
      at (Err fault) e = absurd (fields_apart room (apart room) d xs fault s (fields_fail d fault o e))

  elements_sound : (d : Data) (xs : List Item) → IsOrdered d → elements_told tell d ≡ Ok xs → ShowsElements room d xs
  elements_sound (array ds) xs o e =
      let s = items_sound room tell t ds xs o e in record { fits = s.fits; bytes = s.bytes; shows = ap array s.shows }
  elements_sound d xs o e = err_ok xs BadValue e

  elements_fail : (d : Data) (fault : JsonFault) → IsOrdered d → elements_told tell d ≡ Err fault →
      ArrayFails (ValueFails room) (ShowsValue room) d fault
  elements_fail (array ds) fault o e = items_fail room tell t ds fault o e
  elements_fail d fault o e = sym (err_same (List Item) BadValue fault e)

  elements_refuse : (d : Data) (fault : JsonFault) → IsOrdered d →
      ArrayFails (ValueFails room) (ShowsValue room) d fault → elements_told tell d ≡ Err fault
  elements_refuse (array ds) fault o fails = items_refuse room tell t ds fault o fails
  elements_refuse d fault o bad = λ i. Err (sym bad i)

  elements_complete : (d : Data) (xs : List Item) → IsOrdered d → ShowsElements room d xs → elements_told tell d ≡ Ok xs
  elements_complete d xs o s = at (elements_told tell d) refl
    where
      at : (r : Told (List Item)) → elements_told tell d ≡ r → r ≡ Ok xs
      at (Ok ys) e = λ i. Ok (one_elements room d ys xs (elements_sound d ys o e) s i)
      at (Err fault) e = absurd (elements_apart room (apart room) d xs fault s (elements_fail d fault o e))

-- ---- values of each form

pub record FormTells (room : ℕ) (tell : Teller) (form : Form) : Type 0 where
  pub sound : (d : Data) (value : List ℕ) → IsOrdered d → tell form d ≡ Ok value → ShowsValue room form d value
  pub complete : (d : Data) (value : List ℕ) → IsOrdered d → ShowsValue room form d value → tell form d ≡ Ok value
  pub fails : (d : Data) (fault : JsonFault) → IsOrdered d → tell form d ≡ Err fault → ValueFails room form d fault
  pub refuses : (d : Data) (fault : JsonFault) → IsOrdered d → ValueFails room form d fault → tell form d ≡ Err fault

abbrev pub IsPlain : Form → Type 0
IsPlain (Fixed size) = Unit {0}
IsPlain Money = Unit {0}
IsPlain Blob = Unit {0}
IsPlain Account = Unit {0}
IsPlain Object = ⊥
IsPlain Array = ⊥

module _ (room : ℕ) (d : Data) where
  -- room doesn't matter where nothing is open inside
  widened : (form : Form) (value : List ℕ) → ShowsValue 0 form d value → ShowsValue room form d value
  widened (Fixed size) value s = record { bytes = s.bytes; fits = s.fits; shows = s.shows }
  widened Money value s = record { bytes = s.bytes; fits = s.fits; shows = s.shows }
  widened Blob value s = record { bytes = s.bytes; fits = s.fits; shows = s.shows }
  widened Account value s = record { bytes = s.bytes; fits = s.fits; shows = s.shows }
  widened Object value s = absurd s.fits
  widened Array value s = absurd s.fits

  narrowed : (form : Form) (value : List ℕ) → IsPlain form → ShowsValue room form d value → ShowsValue 0 form d value
  narrowed (Fixed size) value p s = record { bytes = s.bytes; fits = s.fits; shows = s.shows }
  narrowed Money value p s = record { bytes = s.bytes; fits = s.fits; shows = s.shows }
  narrowed Blob value p s = record { bytes = s.bytes; fits = s.fits; shows = s.shows }
  narrowed Account value p s = record { bytes = s.bytes; fits = s.fits; shows = s.shows }
  narrowed Object value p s = absurd p
  narrowed Array value p s = absurd p

  plainly : (form : Form) → IsPlain form → value_told room form d ≡ plain_told form d
  plainly (Fixed size) p = refl
  plainly Money p = refl
  plainly Blob p = refl
  plainly Account p = refl
  plainly Object p = absurd p
  plainly Array p = absurd p

  fails_plainly : (form : Form) (fault : JsonFault) → IsPlain form → IsNone room form d fault →
      ValueFails room form d fault
  fails_plainly (Fixed size) fault p n = n
  fails_plainly Money fault p n = n
  fails_plainly Blob fault p n = n
  fails_plainly Account fault p n = n
  fails_plainly Object fault p n = absurd p
  fails_plainly Array fault p n = absurd p

  none_plainly : (form : Form) (fault : JsonFault) → IsPlain form → ValueFails room form d fault →
      IsNone room form d fault
  none_plainly (Fixed size) fault p n = n
  none_plainly Money fault p n = n
  none_plainly Blob fault p n = n
  none_plainly Account fault p n = n
  none_plainly Object fault p n = absurd p
  none_plainly Array fault p n = absurd p

plain_tells : (room : ℕ) (form : Form) → IsPlain form → FormTells room (value_told room) form
plain_tells room form p = record {
  sound = λ d value o e. widened room d form value (plain_sound form d value (sym (plainly room d form p) ∙ e));
  complete = λ d value o s. plainly room d form p ∙ plain_complete form d value (narrowed room d form value p s);
  fails = λ d fault o e.
      let none : IsNone 0 form d fault = plain_fails form d fault (sym (plainly room d form p) ∙ e) in
      fails_plainly room d form fault p (none.0, λ value s. none.1 value (narrowed room d form value p s));
  refuses = λ d fault o n.
      let none : IsNone room form d fault = none_plainly room d form fault p n in
      plainly room d form p ∙ plain_none form d fault (none.0, λ value s. none.1 value (widened room d form value s));
}

-- none may be open inside
closed_object : FormTells 0 (value_told 0) Object
closed_object = record {
  sound = λ d value o e. err_ok value TooDeep e;
  complete = λ d value o s. absurd s.fits;
  fails = λ d fault o e. sym (err_same (List ℕ) TooDeep fault e);
  refuses = λ d fault o bad. λ i. Err (sym bad i);
}

closed_array : FormTells 0 (value_told 0) Array
closed_array = record {
  sound = λ d value o e. err_ok value TooDeep e;
  complete = λ d value o s. absurd s.fits;
  fails = λ d fault o e. sym (err_same (List ℕ) TooDeep fault e);
  refuses = λ d fault o bad. λ i. Err (sym bad i);
}

module _ (room : ℕ) (t : Tells room (value_told room)) where
  object_tells : FormTells (suc room) (value_told (suc room)) Object
  object_tells = record {
    sound = λ d value o e.
        let (xs, told, is) = map_ok spell (fields_told (value_told room) d) value e in
        subst (ShowsValue (suc room) Object d) is
        (fields_nested room d xs (fields_sound room (value_told room) t d xs o told));
    complete = λ d value o s.
        let (xs, shows, is) = nested_fields room d value s in
        ap (told_map spell) (fields_complete room (value_told room) t d xs o shows) ∙ (λ i. Ok (sym is i));
    fails =
        λ d fault o e.
        fields_fail room (value_told room) t d fault o (map_err spell (fields_told (value_told room) d) fault e);
    refuses = λ d fault o fails. ap (told_map spell) (fields_refuse room (value_told room) t d fault o fails);
  }

  array_tells : FormTells (suc room) (value_told (suc room)) Array
  array_tells = record {
    sound = λ d value o e.
        let (xs, told, is) = map_ok spell (elements_told (value_told room) d) value e in
        subst (ShowsValue (suc room) Array d) is
        (elements_nested room d xs (elements_sound room (value_told room) t d xs o told));
    complete = λ d value o s.
        let (xs, shows, is) = nested_elements room d value s in
        ap (told_map spell) (elements_complete room (value_told room) t d xs o shows) ∙ (λ i. Ok (sym is i));
    fails =
        λ d fault o e.
        elements_fail room (value_told room) t d fault o (map_err spell (elements_told (value_told room) d) fault e);
    refuses = λ d fault o fails. ap (told_map spell) (elements_refuse room (value_told room) t d fault o fails);
  }

all_forms : (room : ℕ) (tell : Teller) → ((form : Form) → FormTells room tell form) → Tells room tell
all_forms room tell each = record {
  sound = λ form. (each form).sound;
  complete = λ form. (each form).complete;
  fails = λ form. (each form).fails;
  refuses = λ form. (each form).refuses;
}

form_tells : (room : ℕ) (form : Form) → FormTells room (value_told room) form
form_tells room (Fixed size) = plain_tells room (Fixed size) tt
form_tells room Money = plain_tells room Money tt
form_tells room Blob = plain_tells room Blob tt
form_tells room Account = plain_tells room Account tt
form_tells zero Object = closed_object
form_tells zero Array = closed_array
form_tells (suc room) Object = object_tells room (all_forms room (value_told room) (λ form. form_tells room form))
form_tells (suc room) Array = array_tells room (all_forms room (value_told room) (λ form. form_tells room form))

pub tells : (room : ℕ) → Tells room (value_told room)
tells room = all_forms room (value_told room) (form_tells room)
