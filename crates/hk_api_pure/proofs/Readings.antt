-- What bytes are read as, as a function and as a relation.
use Rattle.std.proofs.Common.{◌≡◌, ℕ, Bool, true, false, List, refl, sym, ap, ◌∙◌, Option, Some, None, is_some}
use Rattle.std.specs.Prelude.{IsTrue, ◌↔◌}
use Rattle.xo_list.specs.Item.{Item}
use Rattle.xo_list.specs.Value.{IsObject, IsArray, HasFields, HasElements}
use Rattle.hk_reading.proofs.FieldsFound.{fields_found, elements_found}
use Rattle.hk_api_pure.specs.Editing.{object_fields, array_elements}

pub fields_are : (bytes : List ℕ) (items : List Item) → IsObject items bytes → object_fields bytes ≡ Some items
unfolding object_fields
fields_are bytes items object = (fields_found bytes).complete items object

pub are_fields : (bytes : List ℕ) (items : List Item) → object_fields bytes ≡ Some items → IsObject items bytes
unfolding object_fields
are_fields bytes items e = (fields_found bytes).sound items e

pub no_fields : (bytes : List ℕ) → (HasFields bytes → ⊥) → object_fields bytes ≡ None
no_fields bytes never = by_reading (object_fields bytes) refl
  where
    by_reading : (reading : Option (List Item)) → object_fields bytes ≡ reading → object_fields bytes ≡ None
    by_reading None e = e
    by_reading (Some items) e = absurd (never (items, are_fields bytes items e))

-- a test that fails says so
pub not_an_object : (bytes : List ℕ) (test : Bool) → (IsTrue test ↔ HasFields bytes) → test ≡ false →
    HasFields bytes → ⊥
not_an_object bytes test decides fails there = absurd cc (decides.1 there)

-- a test of an object is that of its fields
pub test_is : (bytes : List ℕ) (test : Bool) → (IsTrue test ↔ HasFields bytes) → test ≡ is_some (object_fields bytes)
test_is bytes test decides = by_test test refl
  where
    by_test : (b : Bool) → test ≡ b → test ≡ is_some (object_fields bytes)
    by_test true passes =
        let there : HasFields bytes = decides.0 passes in passes ∙ sym (ap is_some (fields_are bytes there.0 there.1))
    by_test false fails = fails ∙ sym (ap is_some (no_fields bytes (not_an_object bytes test decides fails)))

pub elements_are : (bytes : List ℕ) (items : List Item) → IsArray items bytes → array_elements bytes ≡ Some items
unfolding array_elements
elements_are bytes items array = (elements_found bytes).complete items array

are_elements : (bytes : List ℕ) (items : List Item) → array_elements bytes ≡ Some items → IsArray items bytes
unfolding array_elements
are_elements bytes items e = (elements_found bytes).sound items e

pub no_elements : (bytes : List ℕ) → (HasElements bytes → ⊥) → array_elements bytes ≡ None
no_elements bytes never = by_reading (array_elements bytes) refl
  where
    by_reading : (reading : Option (List Item)) → array_elements bytes ≡ reading → array_elements bytes ≡ None
    by_reading None e = e
    by_reading (Some items) e = absurd (never (items, are_elements bytes items e))
