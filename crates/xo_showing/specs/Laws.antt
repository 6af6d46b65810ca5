-- Laws of the definitions: a name is one field's, a key is one field's, and a showing is one object's.
use Rattle.std.specs.Prelude.{◌≡◌, ◌↔◌, ℕ, List, Some, None}
use Rattle.serde_json.specs.Data.{Data, object, Members, put}
use Rattle.xo_fields.specs.declared.field.FieldId.{FieldId}
use Rattle.xo_fields.specs.Form.{form_at}
use Rattle.xo_fields.specs.Header.{IsField}
use Rattle.xo_fields.specs.Name.{field_named}
use Rattle.xo_list.specs.Item.{Item, lookup, with_item}
use Rattle.xo_list.specs.List.{IsList}
use Rattle.xo_showing.specs.Bytes.{HaveBytes}
use Rattle.xo_showing.specs.Key.{key}
use Rattle.xo_showing.specs.Name.{name_of}
use Rattle.xo_showing.specs.Showing.{members, shown, value_shown, showing}
use Rattle.xo_showing.specs.Shows.{Shows}

-- a field has a name exactly where the name is that of the field
abbrev pub NamesBack : Type 0
NamesBack = (field : FieldId) (name : List ℕ) → (name_of field ≡ Some name) ↔ (field_named name ≡ Some field)

-- no two fields have one key
abbrev pub OneKey : Type 0
OneKey = (f g : FieldId) → IsField f → IsField g → key f ≡ key g → f ≡ g

-- two objects with one showing are one object
abbrev pub OneShowing : Type 0
OneShowing = (xs ys : List Item) → IsList xs → IsList ys → HaveBytes xs → HaveBytes ys →
    showing xs ≡ showing ys → xs ≡ ys

-- two objects that one text shows are one object
abbrev pub OneShown : Type 0
OneShown = (text : List ℕ) (xs ys : List Item) → IsList xs → IsList ys → HaveBytes xs → HaveBytes ys →
    Shows text xs → Shows text ys → xs ≡ ys

-- members with different keys go in in any order
abbrev pub AnyOrder : Type 0
AnyOrder = (k l : List ℕ) (d e : Data) (ms : Members) → (k ≡ l → ⊥) →
    put k d (put l e ms) ≡ put l e (put k d ms)

-- a field put in its place among others shows as a member put among theirs
abbrev pub PutShows : Type 0
PutShows = (x : Item) (xs : List Item) → IsField x.field → IsList xs → lookup x.field xs ≡ None →
    showing (with_item x xs)
    ≡ object (put (key x.field) (value_shown (shown 10) (form_at x.field.kind) x.value) (members (shown 10) xs))
