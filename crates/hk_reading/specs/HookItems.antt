-- The items of a change of hooks, as functions of their fields.
use Rattle.std.specs.Prelude.{ℕ, ◌%◌, ◌==◌, ◌&&◌, ◌||◌, nat_le, Bool, true, false, List, [], ◌∷◌, length, Option, Some}
use Rattle.std.specs.Prelude.{None, is_some, unwrap_or}
use Rattle.std.specs.Option.{option_and_then, option_map}
use Rattle.hk_base.specs.declared.ids.Hash256.{Hash256}
use Rattle.xo_fields.specs.declared.field.FieldId.{FieldId}
use Rattle.xo_list.specs.Item.{Item, lookup}
use Rattle.xo_object.specs.declared.terms.Terms.{Terms}
use Rattle.xo_object.specs.declared.transaction.Grant.{Grant}
use Rattle.xo_object.specs.declared.transaction.HookItem.{HookItem}
use Rattle.xo_object.specs.declared.transaction.HookItem.TheVariants.{Noop, DeleteNamespace, Delete, Create, Install}
use Rattle.xo_object.specs.declared.transaction.HookItem.TheVariants.{Update}
use Rattle.xo_object.specs.declared.transaction.Parameter.{Parameter}
use Rattle.xo_object.specs.Names as names
use Rattle.xo_object.specs.Transaction.{number16, number32, only, or_empty, Which, noop, delete, create, install}
use Rattle.xo_object.specs.Transaction.{delete_namespace, update, which}
use Rattle.hk_reading.specs.Amounts.{only_if}
use Rattle.hk_reading.specs.Lists.{bytes_in, hash_of, elements_as, given_as, parameters_in, grants_in}

abbrev pub hash_in : FieldId → List Item → Option Hash256
hash_in f fields = option_map hash_of (lookup f fields)

-- flags: one of two numbers; none, or without effect but for bit 1; whether that bit is there
abbrev pub is_either : ℕ → ℕ → Option ℕ → Bool
is_either one other None = false
is_either one other (Some bits) = bits == one || bits == other

abbrev pub are_replacing : Option ℕ → Bool
are_replacing None = true
are_replacing (Some bits) = bits == 0 || bits == 1 || bits == 4 || bits == 5

abbrev pub replaces : Option ℕ → Bool
replaces None = false
replaces (Some bits) = bits % 2 == 1

-- the lists of an item, each of which may be absent
abbrev pub Lists : Type 0
Lists = Option (List Parameter) × Option (List Grant)

abbrev pub lists_of : List Item → Option Lists
lists_of fields =
    option_and_then
    (λ parameters. option_map (λ grants. (parameters, grants)) (given_as grants_in (lookup names.hook_grants fields)))
    (given_as parameters_in (lookup names.hook_parameters fields))

abbrev pub terms_guess : List Item → Lists → Terms
terms_guess fields lists = record {
  on = hash_of (bytes_in names.hook_on fields);
  namespace = hash_of (bytes_in names.hook_namespace fields);
  parameters = or_empty lists.0;
  grants = or_empty lists.1;
  replace = replaces (number32 names.flags fields);
}

abbrev pub has_terms : List Item → Bool
has_terms fields =
    is_some (lookup names.hook_on fields) &&
    (is_some (lookup names.hook_namespace fields) && are_replacing (number32 names.flags fields))

-- what installs a hook says of it besides its code
abbrev pub terms_of : List Item → Option Terms
terms_of fields =
    option_and_then (λ lists. only_if (has_terms fields) (Some (terms_guess fields lists))) (lists_of fields)

abbrev pub delete_of : List Item → Option HookItem
delete_of fields =
    only_if (only (names.flags ∷ names.create_code ∷ []) fields && is_either 1 5 (number32 names.flags fields))
    (Some Delete)

abbrev pub is_deletion : List Item → Bool
is_deletion fields =
    only (names.flags ∷ names.hook_namespace ∷ []) fields &&
    (is_either 2 6 (number32 names.flags fields) && is_some (lookup names.hook_namespace fields))

abbrev pub delete_namespace_of : List Item → Option HookItem
delete_namespace_of fields =
    only_if (is_deletion fields) (Some (DeleteNamespace (hash_of (bytes_in names.hook_namespace fields))))

abbrev pub version_in : List Item → ℕ
version_in fields = unwrap_or (number16 names.hook_api_version fields) 0

abbrev pub is_create : List Item → Bool
is_create fields =
    only
    (names.flags ∷ names.hook_on ∷ names.hook_namespace ∷ names.hook_api_version ∷ names.create_code ∷
    names.hook_parameters ∷ names.hook_grants ∷ []) fields
    && (is_some (lookup names.create_code fields) &&
    (is_some (number16 names.hook_api_version fields) && nat_le (version_in fields) 1))

abbrev pub created : List Item → Terms → HookItem
created fields t =
    Create (bytes_in names.create_code fields) (version_in fields) t.on t.namespace t.parameters t.grants t.replace

abbrev pub create_of : List Item → Option HookItem
create_of fields = only_if (is_create fields) (option_map (created fields) (terms_of fields))

abbrev pub is_install : List Item → Bool
is_install fields =
    only
    (names.flags ∷ names.hook_on ∷ names.hook_hash ∷ names.hook_namespace ∷ names.hook_parameters ∷ names.hook_grants ∷
    []) fields && is_some (lookup names.hook_hash fields)

abbrev pub installed : List Item → Terms → HookItem
installed fields t =
    Install (hash_of (bytes_in names.hook_hash fields)) t.on t.namespace t.parameters t.grants t.replace

abbrev pub install_of : List Item → Option HookItem
install_of fields = only_if (is_install fields) (option_map (installed fields) (terms_of fields))

abbrev pub is_update : List Item → Lists → Bool
is_update fields lists =
    only (names.flags ∷ names.hook_on ∷ names.hook_namespace ∷ names.hook_parameters ∷ names.hook_grants ∷ []) fields
    && (are_replacing (number32 names.flags fields) &&
    (is_some (hash_in names.hook_on fields) || is_some (hash_in names.hook_namespace fields) || is_some lists.0 ||
    is_some lists.1))

abbrev pub updated : List Item → Lists → HookItem
updated fields lists = Update (hash_in names.hook_on fields) (hash_in names.hook_namespace fields) lists.0 lists.1

abbrev pub update_of : List Item → Option HookItem
update_of fields =
    option_and_then (λ lists. only_if (is_update fields lists) (Some (updated fields lists))) (lists_of fields)

-- the item that fields are
abbrev pub item_as : Which → List Item → Option HookItem
item_as noop fields = Some Noop
item_as delete fields = delete_of fields
item_as create fields = create_of fields
item_as install fields = install_of fields
item_as delete_namespace fields = delete_namespace_of fields
item_as update fields = update_of fields

abbrev pub item_of : List Item → Option HookItem
item_of fields = item_as (which fields) fields

-- 1 to 10 items
abbrev pub some_items : List HookItem → Option (List HookItem)
some_items items = only_if (nat_le 1 (length items)) (Some items)

abbrev pub hooks_in : List ℕ → Option (List HookItem)
hooks_in bytes = option_and_then some_items (elements_as names.hook item_of 10 bytes)
