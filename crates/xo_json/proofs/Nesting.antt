-- What reading a nested object or array answers.
use Rattle.std.proofs.Common.{◌≡◌, ℕ, zero, suc, ◌-◌, List, refl, sym, ap, subst, ◌∙◌, arith, None, Result, Ok, Err}
use Rattle.std.proofs.Common.{IfOk, IfErr, Vec, Global, MatchResult}
use Rattle.serde_json.specs.Data.{Data, null, boolean, number, string, object, array, Items, Members}
use Rattle.serde_json.specs.Find.{as_object, as_array}
use Rattle.xo_fields.specs.declared.field.FieldId.{FieldId}
use Rattle.xo_fields.specs.declared.form.Form.{Form}
use Rattle.xo_fields.specs.declared.form.Form.TheVariants.{Object, Array}
use Rattle.xo_fields.specs.Form.{form_at}
use Rattle.xo_fields.proofs.Cases.{some_same}
use Rattle.xo_list.specs.Item.{Item, spell}
use Rattle.xo_list.specs.Value.{IsObject}
use Rattle.xo_showing.specs.Bytes.{AreBytes}
use Rattle.xo_told.specs.declared.fault.JsonFault.{JsonFault}
use Rattle.xo_told.specs.declared.fault.JsonFault.TheVariants.{BadValue, NoMemory}
use Rattle.xo_told.specs.Faults.{Fails, ValueFails, MembersFail, ItemsFail, ObjectFails, ArrayFails}
use Rattle.xo_told.specs.Faults as faults
use Rattle.xo_json.specs.Parts.{ReadsValue, ShowsFields, ShowsElements}
use Rattle.xo_told.specs.Reading.{IsKey, ShowsValue}
use Rattle.xo_json.proofs.KeyTexts.{key_one}
use Rattle.xo_json.proofs.Walking.{object_shows, array_shows}

one_less : (room : ℕ) → suc room - 1 ≡ room
one_less room = omega arith

pub object_fails : (room : ℕ) (d : Data) (ms : Members) (fault : JsonFault) → (room ≡ 0 → ⊥) → d ≡ object ms →
    MembersFail (ValueFails (room - 1)) (ShowsValue (room - 1)) ms fault → ValueFails room Object d fault
object_fails zero d ms fault some is h = absurd (some refl)
object_fails (suc room) d ms fault some is h =
    subst (λ e. ObjectFails (ValueFails room) (ShowsValue room) e fault) (sym is)
    (subst (λ n. MembersFail (ValueFails n) (ShowsValue n) ms fault) (one_less room) h)

pub object_read : (room : ℕ) (d : Data) (ms : Members) (xs : List Item) (bytes : List ℕ)
    (r : Result (Vec ℕ Global) JsonFault) → (room ≡ 0 → ⊥) → d ≡ object ms → ShowsFields (room - 1) ms xs →
    IsObject xs bytes →
    IfOk r (λ copy. copy.items ≡ bytes) → IfOk r (λ copy. AreBytes copy.items) → IfErr r (λ fault. fault ≡ NoMemory) →
    ReadsValue room Object d r
object_read zero d ms xs bytes r some is s whole same small memory = absurd (some refl)
object_read (suc room) d ms xs bytes (Ok copy) some is s whole same small memory =
    object_shows room d ms xs copy.items is (subst (λ n. ShowsFields n ms xs) (one_less room) s) small
    (subst (IsObject xs) (sym same) whole)
object_read (suc room) d ms xs bytes (Err fault) some is s whole same small memory = λ other. absurd (other memory)

pub array_read : (room : ℕ) (d : Data) (ds : Items) (r : Result (Vec ℕ Global) JsonFault) → (room ≡ 0 → ⊥) →
    d ≡ array ds → IfOk r (λ bytes. AreBytes bytes.items) →
    MatchResult r (λ bytes. (fields : List Item) × ShowsElements (room - 1) ds fields × (bytes.items ≡ spell fields))
    (λ fault. (fault ≡ NoMemory → ⊥) → ItemsFail (ValueFails (room - 1)) (ShowsValue (room - 1)) ds fault) →
    ReadsValue room Array d r
array_read zero d ds r some is small h = absurd (some refl)
array_read (suc room) d ds (Ok bytes) some is small (xs, s, spelt) =
    array_shows room d ds xs bytes.items is (subst (λ n. ShowsElements n ds xs) (one_less room) s) small spelt
array_read (suc room) d ds (Err fault) some is small h = λ other.
    subst (λ e. ArrayFails (ValueFails room) (ShowsValue room) e fault) (sym is)
    (subst (λ n. ItemsFail (ValueFails n) (ShowsValue n) ds fault) (one_less room) (h other))

-- the form of a key is one
pub key_form : (text : List ℕ) (f g : FieldId) (a b : Form) → IsKey text f a → IsKey text g b → a ≡ b
key_form text f g a b k l =
    let same : f ≡ g = key_one f g text k.is l.is k.spelled l.spelled in
    some_same a b (sym k.known ∙ ap (λ (h : FieldId). form_at h.kind) same ∙ l.known)

-- what is no object or no array
pub not_object : (fails : Fails) (shows : faults.Shows) (d : Data) → as_object d ≡ None →
    ObjectFails fails shows d BadValue
not_object fails shows null e = refl
not_object fails shows (boolean b) e = refl
not_object fails shows (number n) e = refl
not_object fails shows (string s) e = refl
not_object fails shows (array ds) e = refl
not_object fails shows (object ms) e = cc e

pub not_array : (fails : Fails) (shows : faults.Shows) (d : Data) → as_array d ≡ None →
    ArrayFails fails shows d BadValue
not_array fails shows null e = refl
not_array fails shows (boolean b) e = refl
not_array fails shows (number n) e = refl
not_array fails shows (string s) e = refl
not_array fails shows (array ds) e = cc e
not_array fails shows (object ms) e = refl
