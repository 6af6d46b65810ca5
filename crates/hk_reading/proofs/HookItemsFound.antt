-- The items of a change of hooks are found.
use Rattle.std.proofs.Common.{◌≡◌, ℕ, ◌≤◌, ◌==◌, ◌||◌, Bool, true, List, [], ◌∷◌, length, refl, sym, ap, subst, ◌∙◌}
use Rattle.std.proofs.Common.{Option, Some, None, is_some, IsTrue}
use Rattle.std.specs.Prelude.{Decides}
use Rattle.std.specs.Option.{option_map}
use Rattle.std.proofs.lemmas.Bool.Decides.{Decides-and}
use Rattle.xo_list.specs.Item.{Item, lookup}
use Rattle.xo_object.specs.declared.terms.Terms.{Terms}
use Rattle.xo_object.specs.declared.transaction.HookItem.{HookItem}
use Rattle.xo_object.specs.declared.transaction.HookItem.TheVariants.{Noop, DeleteNamespace, Delete, Create, Install}
use Rattle.xo_object.specs.declared.transaction.HookItem.TheVariants.{Update}
use Rattle.xo_object.specs.Names as names
use Rattle.xo_object.specs.Transaction.{number16, number32, only, AreElements, AreParameters, AreGrants, Given}
use Rattle.xo_object.specs.Transaction.{Replaces, TermsAre, IsDelete, IsDeleteNamespace, IsCreate, IsInstall, IsUpdate}
use Rattle.xo_object.specs.Transaction.{Form, HookIs, AreHooks, Which, noop, delete, create, install, delete_namespace}
use Rattle.xo_object.specs.Transaction.{update, which}
use Rattle.xo_fields.proofs.Cases.{some_same}
use Rattle.hk_reading.specs.Amounts.{only_if}
use Rattle.hk_reading.specs.Lists.{bytes_in, hash_of, given_as, parameters_in, grants_in}
use Rattle.hk_reading.specs.HookItems.{hash_in, is_either, are_replacing, replaces, Lists, lists_of, terms_guess}
use Rattle.hk_reading.specs.HookItems.{has_terms, terms_of, delete_of, delete_namespace_of, version_in, is_create}
use Rattle.hk_reading.specs.HookItems.{created, create_of, is_install, installed, install_of, is_update, updated}
use Rattle.hk_reading.specs.HookItems.{update_of, item_as, item_of, some_items, hooks_in}
use Rattle.hk_reading.proofs.Finding.{Finds, finds_one, finds_if, finds_then, finds_map, nat_up_to}
use Rattle.hk_reading.proofs.ListsFound.{itself, some_value, value_of, is_there, hash_there, hash_again, all_found}
use Rattle.hk_reading.proofs.ListsFound.{given_found, parameters_found, grants_found}

-- flags
either_there : (one other : ℕ) (o : Option ℕ) → is_either one other o ≡ true →
    (bits : ℕ) × (o ≡ Some bits) × (IsTrue (bits == one || bits == other))
either_there one other None e = absurd cc
either_there one other (Some bits) e = (bits, refl, e)

either_again : (one other : ℕ) (o : Option ℕ) (bits : ℕ) → o ≡ Some bits → IsTrue (bits == one || bits == other) →
    is_either one other o ≡ true
either_again one other o bits e h = ap (is_either one other) e ∙ h

replaces_there : (o : Option ℕ) → are_replacing o ≡ true → Replaces o (replaces o)
replaces_there None e = refl
replaces_there (Some bits) e = (e, refl)

replaces_again : (o : Option ℕ) (replace : Bool) → Replaces o replace →
    (are_replacing o ≡ true) × (replaces o ≡ replace)
replaces_again None replace h = (refl, sym h)
replaces_again (Some bits) replace h = (h.0, sym h.1)

module _ (fields : List Item) where
  -- lists
  abbrev pub ListsAre : Lists → Type 0
  ListsAre lists =
      Given AreParameters (lookup names.hook_parameters fields) lists.0
      × Given AreGrants (lookup names.hook_grants fields) lists.1

  lists_found : Finds ListsAre (lists_of fields)
  lists_found =
      finds_then (Given AreParameters (lookup names.hook_parameters fields))
      (λ parameters lists. Given AreGrants (lookup names.hook_grants fields) lists.1 × (parameters ≡ lists.0)) ListsAre
      _ _
      (given_found AreParameters parameters_in parameters_found (lookup names.hook_parameters fields))
      (λ parameters h. finds_map (Given AreGrants (lookup names.hook_grants fields))
      (λ lists. Given AreGrants (lookup names.hook_grants fields) lists.1 × (parameters ≡ lists.0))
      (given_as grants_in (lookup names.hook_grants fields))
      (λ grants. (parameters, grants)) (given_found AreGrants grants_in grants_found (lookup names.hook_grants fields))
      (λ grants k. (k, refl)) (λ lists (k, same). (lists.1, k, λ i. (same i, lists.1))))
      (λ parameters lists h (k, same). (subst (Given AreParameters (lookup names.hook_parameters fields)) same h, k))
      (λ lists (h, k). (lists.0, h, (k, refl)))

  -- terms
  abbrev pub HasTerms : Type 0
  HasTerms =
      (is_some (lookup names.hook_on fields) ≡ true)
      × ((is_some (lookup names.hook_namespace fields) ≡ true) × (are_replacing (number32 names.flags fields) ≡ true))

  has_terms_so : Decides (has_terms fields) HasTerms
  has_terms_so =
      Decides-and _ _ (itself (is_some (lookup names.hook_on fields))) (Decides-and _ _
      (itself (is_some (lookup names.hook_namespace fields))) (itself (are_replacing (number32 names.flags fields))))

  abbrev pub IsGuess : Lists → Terms → Type 0
  IsGuess lists t = HasTerms × (terms_guess fields lists ≡ t)

  guess_found : (lists : Lists) → Finds (IsGuess lists) (only_if (has_terms fields) (Some (terms_guess fields lists)))
  guess_found lists =
      finds_one (IsGuess lists) (has_terms fields) (terms_guess fields lists) has_terms_so (λ h. (h, refl)) (λ t h. h)

  terms_there : (lists : Lists) → ListsAre lists → HasTerms → TermsAre fields (terms_guess fields lists)
  terms_there lists (parameters, grants) (on, (namespace, flags)) = record {
    parameters = lists.0;
    grants = lists.1;
    fires = some_value (lookup names.hook_on fields) [] on;
    named = some_value (lookup names.hook_namespace fields) [] namespace;
    given_parameters = parameters;
    given_grants = grants;
    all_parameters = refl;
    all_grants = refl;
    flags = replaces_there (number32 names.flags fields) flags;
  }

  terms_again : (t : Terms) → TermsAre fields t → (lists : Lists) × ListsAre lists × IsGuess lists t
  terms_again t h =
      let on : bytes_in names.hook_on fields ≡ t.on.0 = value_of (lookup names.hook_on fields) [] t.on.0 h.fires in
      let namespace : bytes_in names.hook_namespace fields ≡ t.namespace.0 =
      value_of (lookup names.hook_namespace fields) [] t.namespace.0 h.named in
      let flags : (are_replacing (number32 names.flags fields) ≡ true)
      × (replaces (number32 names.flags fields) ≡ t.replace) =
      replaces_again (number32 names.flags fields) t.replace h.flags in
      let same : terms_guess fields (h.parameters, h.grants) ≡ t =
      λ i.
      record {
        on = hash_of (on i);
        namespace = hash_of (namespace i);
        parameters = sym h.all_parameters i;
        grants = sym h.all_grants i;
        replace = flags.1 i;
      } in (
        (h.parameters, h.grants),
        (h.given_parameters, h.given_grants),
        (
          (
            is_there (lookup names.hook_on fields) t.on.0 h.fires,
            (is_there (lookup names.hook_namespace fields) t.namespace.0 h.named, flags.0),
          ),
          same,
        ),
      )

  terms_found : Finds (TermsAre fields) (terms_of fields)
  terms_found =
      finds_then ListsAre IsGuess (TermsAre fields) _ _ lists_found (λ lists h. guess_found lists)
      (λ lists t h (tests, same). subst (TermsAre fields) same (terms_there lists h tests)) terms_again

  -- an item that is made of terms
  abbrev pub IsMade : (Terms → HookItem) → HookItem → Type 0
  IsMade make h = (t : Terms) × TermsAre fields t × (make t ≡ h)

  item_made : (make : Terms → HookItem) → Finds (IsMade make) (option_map make (terms_of fields))
  item_made make =
      finds_map (TermsAre fields) (IsMade make) (terms_of fields) make terms_found (λ t h. (t, h, refl)) (λ h k. k)

  -- each kind of items
  abbrev pub DeleteTests : Type 0
  DeleteTests =
      (only (names.flags ∷ names.create_code ∷ []) fields ≡ true) × (is_either 1 5 (number32 names.flags fields) ≡ true)

  delete_there : DeleteTests → IsDelete fields Delete
  delete_there (others, flags) =
      let bits : (n : ℕ) × (number32 names.flags fields ≡ Some n) × (IsTrue (n == 1 || n == 5)) =
      either_there 1 5 (number32 names.flags fields) flags in
      record { bits = bits.0; flags = bits.1; right = bits.2; others = others; is = refl }

  delete_found : Finds (IsDelete fields) (delete_of fields)
  delete_found =
      finds_one (IsDelete fields) _ Delete (Decides-and _ _
      (itself (only (names.flags ∷ names.create_code ∷ []) fields))
      (itself (is_either 1 5 (number32 names.flags fields)))) delete_there
      (λ h k. ((k.others, either_again 1 5 (number32 names.flags fields) k.bits k.flags k.right), sym k.is))

  abbrev pub DeletionTests : Type 0
  DeletionTests =
      (only (names.flags ∷ names.hook_namespace ∷ []) fields ≡ true)
      × ((is_either 2 6 (number32 names.flags fields) ≡ true) × (is_some (lookup names.hook_namespace fields) ≡ true))

  deletion_there : DeletionTests →
      IsDeleteNamespace fields (DeleteNamespace (hash_of (bytes_in names.hook_namespace fields)))
  deletion_there (others, (flags, there)) =
      let bits : (n : ℕ) × (number32 names.flags fields ≡ Some n) × (IsTrue (n == 2 || n == 6)) =
      either_there 2 6 (number32 names.flags fields) flags in
      record {
        bits = bits.0;
        flags = bits.1;
        right = bits.2;
        others = others;
        namespace = hash_of (bytes_in names.hook_namespace fields);
        named = some_value (lookup names.hook_namespace fields) [] there;
        is = refl;
      }

  deletion_again : (h : HookItem) → IsDeleteNamespace fields h →
      DeletionTests × (DeleteNamespace (hash_of (bytes_in names.hook_namespace fields)) ≡ h)
  deletion_again h k =
      let named : bytes_in names.hook_namespace fields ≡ k.namespace.0 =
      value_of (lookup names.hook_namespace fields) [] k.namespace.0 k.named in (
        (
          k.others,
          (
            either_again 2 6 (number32 names.flags fields) k.bits k.flags k.right,
            is_there (lookup names.hook_namespace fields) k.namespace.0 k.named,
          ),
        ),
        ap (λ bytes. DeleteNamespace (hash_of bytes)) named ∙ sym k.is,
      )

  deletion_found : Finds (IsDeleteNamespace fields) (delete_namespace_of fields)
  deletion_found =
      finds_one (IsDeleteNamespace fields) _ _
      (Decides-and _ _ (itself (only (names.flags ∷ names.hook_namespace ∷ []) fields))
      (Decides-and _ _ (itself (is_either 2 6 (number32 names.flags fields)))
      (itself (is_some (lookup names.hook_namespace fields)))))
      deletion_there deletion_again

  abbrev pub CreateTests : Type 0
  CreateTests =
      (only
      (names.flags ∷ names.hook_on ∷ names.hook_namespace ∷ names.hook_api_version ∷ names.create_code ∷
      names.hook_parameters ∷ names.hook_grants ∷ []) fields ≡ true)
      × ((is_some (lookup names.create_code fields) ≡ true)
      × ((is_some (number16 names.hook_api_version fields) ≡ true) × (version_in fields ≤ 1)))

  create_so : Decides (is_create fields) CreateTests
  create_so =
      Decides-and _ _ (itself (only
      (names.flags ∷ names.hook_on ∷ names.hook_namespace ∷ names.hook_api_version ∷ names.create_code ∷
      names.hook_parameters ∷ names.hook_grants ∷ []) fields))
      (Decides-and _ _ (itself (is_some (lookup names.create_code fields)))
      (Decides-and _ _ (itself (is_some (number16 names.hook_api_version fields))) (nat_up_to (version_in fields) 1)))

  create_there : (h : HookItem) → CreateTests → IsMade (created fields) h → IsCreate fields h
  create_there h (others, (code, (version, known))) (t, terms, same) = record {
    code = bytes_in names.create_code fields;
    version = version_in fields;
    terms = t;
    coded = some_value (lookup names.create_code fields) [] code;
    said_version = some_value (number16 names.hook_api_version fields) 0 version;
    known = known;
    said = terms;
    others = others;
    is = sym same;
  }

  create_again : (h : HookItem) → IsCreate fields h → CreateTests × IsMade (created fields) h
  create_again h k =
      let code : bytes_in names.create_code fields ≡ k.code =
      value_of (lookup names.create_code fields) [] k.code k.coded in
      let version : version_in fields ≡ k.version =
      value_of (number16 names.hook_api_version fields) 0 k.version k.said_version in (
        (
          k.others,
          (
            is_there (lookup names.create_code fields) k.code k.coded,
            (
              is_there (number16 names.hook_api_version fields) k.version k.said_version,
              subst (λ n. n ≤ 1) (sym version) k.known,
            ),
          ),
        ),
        (
          k.terms,
          k.said,
          (λ i.
              Create (code i) (version i) k.terms.on k.terms.namespace k.terms.parameters k.terms.grants
              k.terms.replace)
              ∙ sym k.is,
        ),
      )

  create_found : Finds (IsCreate fields) (create_of fields)
  create_found =
      finds_if (IsMade (created fields)) (IsCreate fields) _ _ create_so (item_made (created fields)) create_there
      create_again

  abbrev pub InstallTests : Type 0
  InstallTests =
      (only
      (names.flags ∷ names.hook_on ∷ names.hook_hash ∷ names.hook_namespace ∷ names.hook_parameters ∷
      names.hook_grants ∷ []) fields ≡ true) × (is_some (lookup names.hook_hash fields) ≡ true)

  install_so : Decides (is_install fields) InstallTests
  install_so =
      Decides-and _ _ (itself (only
      (names.flags ∷ names.hook_on ∷ names.hook_hash ∷ names.hook_namespace ∷ names.hook_parameters ∷
      names.hook_grants ∷ []) fields)) (itself (is_some (lookup names.hook_hash fields)))

  install_again : (h : HookItem) → IsInstall fields h → InstallTests × IsMade (installed fields) h
  install_again h k =
      let hash : bytes_in names.hook_hash fields ≡ k.hash.0 =
      value_of (lookup names.hook_hash fields) [] k.hash.0 k.hashed in (
        (k.others, is_there (lookup names.hook_hash fields) k.hash.0 k.hashed),
        (
          k.terms,
          k.said,
          ap (λ bytes.
              Install (hash_of bytes) k.terms.on k.terms.namespace k.terms.parameters k.terms.grants k.terms.replace)
              hash
              ∙ sym k.is,
        ),
      )

  install_found : Finds (IsInstall fields) (install_of fields)
  install_found =
      finds_if (IsMade (installed fields)) (IsInstall fields) _ _ install_so (item_made (installed fields))
      (λ h (others, there) (t, terms, same).
      record {
        hash = hash_of (bytes_in names.hook_hash fields);
        terms = t;
        hashed = some_value (lookup names.hook_hash fields) [] there;
        said = terms;
        others = others;
        is = sym same;
      })
      install_again

  abbrev pub IsSome : Lists → Type 0
  IsSome lists =
      IsTrue (is_some (hash_in names.hook_on fields) || is_some (hash_in names.hook_namespace fields) ||
      is_some lists.0 || is_some lists.1)

  abbrev pub UpdateTests : Lists → Type 0
  UpdateTests lists =
      (only (names.flags ∷ names.hook_on ∷ names.hook_namespace ∷ names.hook_parameters ∷ names.hook_grants ∷ []) fields
      ≡ true) × ((are_replacing (number32 names.flags fields) ≡ true) × IsSome lists)

  update_so : (lists : Lists) → Decides (is_update fields lists) (UpdateTests lists)
  update_so lists =
      Decides-and _ _ (itself (only
      (names.flags ∷ names.hook_on ∷ names.hook_namespace ∷ names.hook_parameters ∷ names.hook_grants ∷ []) fields))
      (Decides-and _ _ (itself (are_replacing (number32 names.flags fields)))
      (itself (is_some (hash_in names.hook_on fields) || is_some (hash_in names.hook_namespace fields) ||
      is_some lists.0 || is_some lists.1)))

  abbrev pub IsUpdated : Lists → HookItem → Type 0
  IsUpdated lists h = UpdateTests lists × (updated fields lists ≡ h)

  update_there : (lists : Lists) (h : HookItem) → ListsAre lists → IsUpdated lists h → IsUpdate fields h
  update_there lists h (parameters, grants) ((others, (flags, some)), same) = record {
    on = hash_in names.hook_on fields;
    namespace = hash_in names.hook_namespace fields;
    parameters = lists.0;
    grants = lists.1;
    replace = replaces (number32 names.flags fields);
    fires = hash_there (lookup names.hook_on fields);
    named = hash_there (lookup names.hook_namespace fields);
    given_parameters = parameters;
    given_grants = grants;
    some = some;
    flags = replaces_there (number32 names.flags fields) flags;
    others = others;
    is = sym same;
  }

  update_again : (h : HookItem) → IsUpdate fields h → (lists : Lists) × ListsAre lists × IsUpdated lists h
  update_again h k =
      let on : hash_in names.hook_on fields ≡ k.on = ap (option_map hash_of) k.fires ∙ hash_again k.on in
      let namespace : hash_in names.hook_namespace fields ≡ k.namespace =
      ap (option_map hash_of) k.named ∙ hash_again k.namespace in
      let some : IsSome (k.parameters, k.grants) =
      (λ i. is_some (on i) || is_some (namespace i) || is_some k.parameters || is_some k.grants) ∙ k.some in (
        (k.parameters, k.grants),
        (k.given_parameters, k.given_grants),
        (
          (k.others, ((replaces_again (number32 names.flags fields) k.replace k.flags).0, some)),
          (λ i. Update (on i) (namespace i) k.parameters k.grants) ∙ sym k.is,
        ),
      )

  update_found : Finds (IsUpdate fields) (update_of fields)
  update_found =
      finds_then ListsAre IsUpdated (IsUpdate fields) _ _ lists_found
      (λ lists h. finds_one (IsUpdated lists) _ _ (update_so lists) (λ t. (t, refl)) (λ h k. k)) update_there
      update_again

  form_found : (form : Which) → Finds (Form form fields) (item_as form fields)
  form_found noop = record { sound = λ h e. sym (some_same Noop h e); complete = λ h e. ap Some (sym e) }
  form_found delete = delete_found
  form_found create = create_found
  form_found install = install_found
  form_found delete_namespace = deletion_found
  form_found update = update_found

item_found : (fields : List Item) → Finds (HookIs fields) (item_of fields)
item_found fields = form_found fields (which fields)

-- 1 to 10 items
some_found : (items : List HookItem) → Finds (λ found. (1 ≤ length items) × (items ≡ found)) (some_items items)
some_found items =
    finds_one (λ found. (1 ≤ length items) × (items ≡ found)) _ items (nat_up_to 1 (length items)) (λ h. (h, refl))
    (λ found h. h)

pub hooks_found : (bytes : List ℕ) → Finds (AreHooks bytes) (hooks_in bytes)
hooks_found bytes =
    finds_then (AreElements names.hook HookIs 10 bytes) (λ items found. (1 ≤ length items) × (items ≡ found))
    (AreHooks bytes) _ _ (all_found names.hook HookIs item_of item_found 10 bytes)
    (λ items are. some_found items) (λ items found are (some, same). subst (AreHooks bytes) same (are, some))
    (λ items (are, some). (items, are, (some, refl)))
