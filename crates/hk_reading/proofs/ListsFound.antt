-- The lists in a transaction are found.
use Rattle.std.proofs.Common.{◌≡◌, ℕ, ◌≤◌, Bool, true, List, [], ◌∷◌, ◌++◌, length, refl, sym, ap, subst, ◌∙◌, Option}
use Rattle.std.proofs.Common.{Some, None, is_some}
use Rattle.std.specs.Prelude.{Decides, unwrap_or}
use Rattle.std.specs.Option.{option_and_then, option_map}
use Rattle.std.proofs.lemmas.Bool.Decides.{Decides-and, Decides-not, Decides-like}
use Rattle.hk_base.specs.declared.ids.AccountId.{AccountId}
use Rattle.hk_base.specs.declared.ids.Hash256.{Hash256}
use Rattle.xo_fields.specs.declared.field.FieldId.{FieldId}
use Rattle.xo_object.specs.declared.transaction.Grant.{Grant}
use Rattle.xo_object.specs.declared.transaction.Parameter.{Parameter}
use Rattle.xo_list.specs.Item.{Item, lookup, is_same}
use Rattle.xo_object.specs.Names as names
use Rattle.xo_object.specs.Transaction.{only, Each, IsElement, AreElements, ParameterIs, Differs, AllDiffer}
use Rattle.xo_object.specs.Transaction.{AreParameters, GrantIs, AreGrants, Given, or_empty}
use Rattle.xo_list.specs.Value.{IsObject, IsArray}
use Rattle.hk_reading.specs.Parsing.{fields_of}
use Rattle.hk_reading.specs.Lists.{bytes_in, account_of, hash_of, made_of, element_as, few_as, elements_as, given_as}
use Rattle.hk_reading.specs.Lists.{parameter_guess, is_parameter, parameter_of, differs, all_differ, differing}
use Rattle.hk_reading.specs.Lists.{parameters_in, parameters_of, grant_guess, is_grant, grant_of, grants_in}
use Rattle.hk_reading.proofs.FieldsFound.{fields_found, elements_found}
use Rattle.xo_fields.proofs.Cases.{some_same}
use Rattle.hk_reading.proofs.Finding.{Finds, finds_one, finds_if, finds_then, finds_map, always, nat_same, nat_up_to}
use Rattle.hk_reading.proofs.Finding.{lists_same}

-- a test, told by itself
pub itself : (b : Bool) → Decides b (b ≡ true)
itself b = (λ e. e, λ e. e)

pub some_value : {A : Type 0} (o : Option A) (d : A) → is_some o ≡ true → o ≡ Some (unwrap_or o d)
some_value None d e = absurd cc
some_value (Some x) d e = refl

pub value_of : {A : Type 0} (o : Option A) (d x : A) → o ≡ Some x → unwrap_or o d ≡ x
value_of o d x e = ap (λ p. unwrap_or p d) e

pub is_there : {A : Type 0} (o : Option A) (x : A) → o ≡ Some x → is_some o ≡ true
is_there o x e = ap (λ p. is_some p) e

-- accounts and hashes that may be absent
pub account_there : (value : Option (List ℕ)) →
    value ≡ option_map (λ (a : AccountId). a.0) (option_map account_of value)
account_there None = refl
account_there (Some value) = refl

pub account_again : (account : Option AccountId) →
    option_map account_of (option_map (λ (a : AccountId). a.0) account) ≡ account
account_again None = refl
account_again (Some account) = refl

pub hash_there : (value : Option (List ℕ)) → value ≡ option_map (λ (h : Hash256). h.0) (option_map hash_of value)
hash_there None = refl
hash_there (Some value) = refl

pub hash_again : (hash : Option Hash256) → option_map hash_of (option_map (λ (h : Hash256). h.0) hash) ≡ hash
hash_again None = refl
hash_again (Some hash) = refl

same_field : (f g : FieldId) → Decides (is_same f g) (f ≡ g)
same_field f g =
    Decides-like (is_same f g) (λ h i. record { kind = h.0 i; code = h.1 i })
    (λ e. (ap (λ (x : FieldId). x.kind) e, ap (λ (x : FieldId). x.code) e))
    (Decides-and _ _ (nat_same f.kind g.kind) (nat_same f.code g.code))

-- each of a list
module _ {T : Type 0} (R : Item → T → Type 0) (make : Item → Option T) (found : (x : Item) → Finds (R x) (make x)) where
  abbrev pub AfterFirst : List Item → T → List T → Type 0
  AfterFirst xs y zs = (ys : List T) × Each R xs ys × (y ∷ ys ≡ zs)

  nothing_made : (ys : List T) → Each R [] ys → Some [] ≡ Some ys
  nothing_made [] h = refl
  nothing_made (y ∷ ys) h = absurd h

  made_first : (x : Item) (xs : List Item) (zs : List T) → Each R (x ∷ xs) zs → (y : T) × R x y × AfterFirst xs y zs
  made_first x xs [] h = absurd h
  made_first x xs (z ∷ zs) h = (z, h.0, (zs, h.1, refl))

  pub made_found : (xs : List Item) → Finds (Each R xs) (made_of make xs)
  made_found [] = record { sound = λ ys e. subst (Each R []) (some_same [] ys e) tt; complete = nothing_made }
  made_found (x ∷ xs) =
      let rest : Finds (Each R xs) (made_of make xs) = made_found xs in
      finds_then (R x) (AfterFirst xs) (Each R (x ∷ xs)) _ _ (found x) (λ y r.
      finds_map (Each R xs) (AfterFirst xs y) (made_of make xs) (λ ys. y ∷ ys) rest (λ ys h. (ys, h, refl)) (λ zs h. h))
      (λ y zs r (ys, h, e). subst (Each R (x ∷ xs)) e (r, h)) (made_first x xs)

-- the elements of an array
module _ {T : Type 0} (f : FieldId) (Is : List Item → T → Type 0) (make : List Item → Option T)
    (found : (fields : List Item) → Finds (Is fields) (make fields)) where
  -- what an element's fields are
  abbrev pub IsInside : Item → T → Type 0
  IsInside x y = (fields : List Item) × IsObject fields x.value × Is fields y

  inside_found : (x : Item) → Finds (IsInside x) (option_and_then make (fields_of x.value))
  inside_found x =
      finds_then (λ fields. IsObject fields x.value) Is (IsInside x) _ _ (fields_found x.value)
      (λ fields object. found fields) (λ fields y object is. (fields, object, is)) (λ y h. h)

  element_found : (x : Item) → Finds (IsElement f Is x) (element_as f make x)
  element_found x =
      finds_if (IsInside x) (IsElement f Is x) _ _ (same_field x.field f) (inside_found x)
      (λ y e h. record { element = e; fields = h.0; object = h.1; is = h.2 })
      (λ y h. (h.element, (h.fields, h.object, h.is)))

  abbrev pub AreFew : ℕ → List Item → List T → Type 0
  AreFew limit elements ys = (length elements ≤ limit) × Each (IsElement f Is) elements ys

  few_found : (limit : ℕ) (elements : List Item) → Finds (AreFew limit elements) (few_as f make limit elements)
  few_found limit elements =
      finds_if (Each (IsElement f Is) elements) (AreFew limit elements) _ _ (nat_up_to (length elements) limit)
      (made_found (IsElement f Is) (element_as f make) element_found elements)
      (λ ys few each. (few, each)) (λ ys h. h)

  pub all_found : (limit : ℕ) (bytes : List ℕ) → Finds (AreElements f Is limit bytes) (elements_as f make limit bytes)
  all_found limit bytes =
      finds_then (λ elements. IsArray elements bytes) (AreFew limit) (AreElements f Is limit bytes) _ _
      (elements_found bytes) (λ elements array. few_found limit elements)
      (λ elements ys array (few, each). record { elements = elements; array = array; few = few; each = each })
      (λ ys are. (are.elements, are.array, (are.few, are.each)))

-- lists that may be absent
module _ {T : Type 0} (Are : List ℕ → List T → Type 0) (make : List ℕ → Option (List T))
    (found : (bytes : List ℕ) → Finds (Are bytes) (make bytes)) where
  none_given : (given : Option (List T)) → Given Are None given → Some None ≡ Some given
  none_given None h = refl
  none_given (Some ys) h = absurd h

  some_given : (bytes : List ℕ) (given : Option (List T)) → Given Are (Some bytes) given →
      (ys : List T) × Are bytes ys × (Some ys ≡ given)
  some_given bytes None h = absurd h
  some_given bytes (Some ys) h = (ys, h, refl)

  pub given_found : (bytes : Option (List ℕ)) → Finds (Given Are bytes) (given_as make bytes)
  given_found None = record {
    sound = λ given e. subst (Given Are None) (some_same None given e) tt;
    complete = none_given;
  }
  given_found (Some bytes) =
      finds_map (Are bytes) (Given Are (Some bytes)) (make bytes) Some (found bytes) (λ ys h. h) (some_given bytes)

-- parameters
abbrev pub ParameterTests : List Item → Parameter → Type 0
ParameterTests fields p =
    (only (names.parameter_name ∷ names.parameter_value ∷ []) fields ≡ true)
    × ((is_some (lookup names.parameter_name fields) ≡ true)
    × ((1 ≤ length p.name) × ((length p.name ≤ 32) × (length p.value ≤ 256))))

parameter_tests : (fields : List Item) (p : Parameter) → Decides (is_parameter fields p) (ParameterTests fields p)
parameter_tests fields p =
    Decides-and _ _ (itself (only (names.parameter_name ∷ names.parameter_value ∷ []) fields)) (Decides-and _ _
    (itself (is_some (lookup names.parameter_name fields)))
    (Decides-and _ _ (nat_up_to 1 (length p.name))
    (Decides-and _ _ (nat_up_to (length p.name) 32) (nat_up_to (length p.value) 256))))

parameter_sound : (fields : List Item) → ParameterTests fields (parameter_guess fields) →
    ParameterIs fields (parameter_guess fields)
parameter_sound fields (others, (there, (some, (short, value_short)))) = record {
  others = others;
  name = some_value (lookup names.parameter_name fields) [] there;
  name_some = some;
  name_short = short;
  value = refl;
  value_short = value_short;
}

guessed : (fields : List Item) (p : Parameter) → ParameterIs fields p → parameter_guess fields ≡ p
guessed fields p h =
    let name : bytes_in names.parameter_name fields ≡ p.name =
    value_of (lookup names.parameter_name fields) [] p.name h.name in
    λ i. record { name = name i; value = h.value i }

parameter_complete : (fields : List Item) (p : Parameter) → ParameterIs fields p →
    ParameterTests fields (parameter_guess fields) × (parameter_guess fields ≡ p)
parameter_complete fields p h = (
  subst (ParameterTests fields) (sym (guessed fields p h)) (
    h.others,
    (is_there (lookup names.parameter_name fields) p.name h.name, (h.name_some, (h.name_short, h.value_short))),
  ),
  guessed fields p h,
)

parameter_found : (fields : List Item) → Finds (ParameterIs fields) (parameter_of fields)
parameter_found fields =
    finds_one (ParameterIs fields) _ _ (parameter_tests fields (parameter_guess fields)) (parameter_sound fields)
    (parameter_complete fields)

differs_so : (name : List ℕ) (ps : List Parameter) → Decides (differs name ps) (Differs name ps)
differs_so name [] = always
differs_so name (p ∷ ps) = Decides-and _ _ (Decides-not _ (lists_same name p.name)) (differs_so name ps)

all_differ_so : (before ps : List Parameter) → Decides (all_differ before ps) (AllDiffer before ps)
all_differ_so before [] = always
all_differ_so before (p ∷ ps) = Decides-and _ _ (differs_so p.name before) (all_differ_so (before ++ p ∷ []) ps)

differing_found : (ps : List Parameter) → Finds (λ qs. AllDiffer [] ps × (ps ≡ qs)) (differing ps)
differing_found ps =
    finds_one (λ qs. AllDiffer [] ps × (ps ≡ qs)) _ ps (all_differ_so [] ps) (λ h. (h, refl)) (λ qs h. h)

pub parameters_found : (bytes : List ℕ) → Finds (AreParameters bytes) (parameters_in bytes)
parameters_found bytes =
    finds_then (AreElements names.hook_parameter ParameterIs 16 bytes) (λ ps qs. AllDiffer [] ps × (ps ≡ qs))
    (AreParameters bytes) _ _ (all_found names.hook_parameter ParameterIs parameter_of parameter_found 16 bytes)
    (λ ps are. differing_found ps) (λ ps qs are (differ, same). subst (AreParameters bytes) same (are, differ))
    (λ ps (are, differ). (ps, are, (differ, refl)))

-- the parameters that are given, or none
abbrev pub AreGiven : Option (List ℕ) → List Parameter → Type 0
AreGiven bytes ps = (given : Option (List Parameter)) × Given AreParameters bytes given × (or_empty given ≡ ps)

pub given_parameters_found : (bytes : Option (List ℕ)) → Finds (AreGiven bytes) (parameters_of bytes)
given_parameters_found bytes =
    finds_map (Given AreParameters bytes) (AreGiven bytes) (given_as parameters_in bytes) or_empty
    (given_found AreParameters parameters_in parameters_found bytes) (λ given h. (given, h, refl)) (λ ps h. h)

-- grants
grant_tests : (fields : List Item) →
    Decides (is_grant fields)
    ((only (names.hook_hash ∷ names.authorize ∷ []) fields ≡ true) × (is_some (lookup names.hook_hash fields) ≡ true))
grant_tests fields =
    Decides-and _ _ (itself (only (names.hook_hash ∷ names.authorize ∷ []) fields))
    (itself (is_some (lookup names.hook_hash fields)))

grant_complete : (fields : List Item) (g : Grant) → GrantIs fields g →
    ((only (names.hook_hash ∷ names.authorize ∷ []) fields ≡ true) × (is_some (lookup names.hook_hash fields) ≡ true))
    × (grant_guess fields ≡ g)
grant_complete fields g h =
    let hash : bytes_in names.hook_hash fields ≡ g.hash.0 =
    value_of (lookup names.hook_hash fields) [] g.hash.0 h.hash in
    let account : option_map account_of (lookup names.authorize fields) ≡ g.account =
    ap (option_map account_of) h.account ∙ account_again g.account in (
      (h.others, is_there (lookup names.hook_hash fields) g.hash.0 h.hash),
      λ i. record { hash = hash_of (hash i); account = account i },
    )

grant_found : (fields : List Item) → Finds (GrantIs fields) (grant_of fields)
grant_found fields =
    finds_one (GrantIs fields) _ _ (grant_tests fields)
    (λ (others, there).
    record {
      others = others;
      hash = some_value (lookup names.hook_hash fields) [] there;
      account = account_there (lookup names.authorize fields);
    }) (grant_complete fields)

pub grants_found : (bytes : List ℕ) → Finds (AreGrants bytes) (grants_in bytes)
grants_found bytes = all_found names.hook_grant GrantIs grant_of grant_found 16 bytes
