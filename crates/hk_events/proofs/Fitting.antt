-- What the fields of a transaction are says no more than an Install may have.
use Rattle.std.proofs.Common.{◌≡◌, ℕ, ◌≤◌, Bool, true, false, ◌==◌, List, [], ◌∷◌, length, refl, sym, subst, arith}
use Rattle.std.proofs.Common.{Option, Some, None}
use Rattle.xo_list.specs.Item.{Item, lookup}
use Rattle.xo_object.specs.declared.terms.Terms.{Terms}
use Rattle.xo_object.specs.declared.transaction.Grant.{Grant}
use Rattle.xo_object.specs.declared.transaction.HookItem.{HookItem}
use Rattle.xo_object.specs.declared.transaction.Parameter.{Parameter}
use Rattle.xo_object.specs.Names as names
use Rattle.xo_object.specs.Transaction as object
use Rattle.xo_object.specs.Transaction.{AreElements, IsElement, ParameterIs, GrantIs, Given, or_empty, Which, noop}
use Rattle.xo_object.specs.Transaction.{delete, create, install, delete_namespace, update, TermsAre, Form, HookIs}
use Rattle.xo_object.specs.Transaction.{AreHooks, GivenHooks, HooksFor, which}
use Rattle.hk_draft.specs.Lists.{Each}
use Rattle.hk_events.specs.Complete.{ParameterFits, ParametersFit, GrantsFit, IfGiven, ItemFits, TransactionsFit}

as_long : {X : Type 0} (R : Item → X → Type 0) (xs : List Item) (ys : List X) → object.Each R xs ys →
    length ys ≡ length xs
as_long R [] [] h = refl
as_long R (x ∷ xs) (y ∷ ys) h = let rest = as_long R xs ys h.1 in omega (arith, rest)
as_long R [] (y ∷ ys) h = absurd h
as_long R (x ∷ xs) [] h = absurd h

each_of : {X : Type 0} (R : Item → X → Type 0) (P : X → Type 0) → ((x : Item) (y : X) → R x y → P y) →
    (xs : List Item) (ys : List X) → object.Each R xs ys → Each P ys
each_of R P f [] [] h = tt
each_of R P f (x ∷ xs) (y ∷ ys) h = (f x y h.0, each_of R P f xs ys h.1)
each_of R P f [] (y ∷ ys) h = absurd h
each_of R P f (x ∷ xs) [] h = absurd h

parameter_fits : (x : Item) (p : Parameter) → IsElement names.hook_parameter ParameterIs x p → ParameterFits p
parameter_fits x p h = record { some = h.is.name_some; name = h.is.name_short; value = h.is.value_short }

parameters_fit : (bytes : List ℕ) (ps : List Parameter) → object.AreParameters bytes ps → ParametersFit ps
parameters_fit bytes ps h = record {
  few =
      let long = as_long (IsElement names.hook_parameter ParameterIs) h.0.elements ps h.0.each in
      let few = h.0.few in
      omega (arith, long, few);
  each = each_of (IsElement names.hook_parameter ParameterIs) ParameterFits parameter_fits h.0.elements ps h.0.each;
  differ = h.1;
}

grants_fit : (bytes : List ℕ) (gs : List Grant) → object.AreGrants bytes gs → GrantsFit gs
grants_fit bytes gs h =
    let long = as_long (IsElement names.hook_grant GrantIs) h.elements gs h.each in
    let few = h.few in
    omega (arith, long, few)

no_parameters : ParametersFit []
no_parameters = record { few = omega arith; each = tt; differ = tt }

given_parameters : (bytes : Option (List ℕ)) (ps : Option (List Parameter)) → Given object.AreParameters bytes ps →
    IfGiven ParametersFit ps × ParametersFit (or_empty ps)
given_parameters None None h = (tt, no_parameters)
given_parameters (Some bytes) (Some ps) h = (parameters_fit bytes ps h, parameters_fit bytes ps h)
given_parameters None (Some ps) h = absurd h
given_parameters (Some bytes) None h = absurd h

given_grants : (bytes : Option (List ℕ)) (gs : Option (List Grant)) → Given object.AreGrants bytes gs →
    IfGiven GrantsFit gs × GrantsFit (or_empty gs)
given_grants None None h = (tt, omega arith)
given_grants (Some bytes) (Some gs) h = (grants_fit bytes gs h, grants_fit bytes gs h)
given_grants None (Some gs) h = absurd h
given_grants (Some bytes) None h = absurd h

terms_fit : (fields : List Item) (t : Terms) → TermsAre fields t → ParametersFit t.parameters × GrantsFit t.grants
terms_fit fields t h = (
  subst ParametersFit (sym h.all_parameters)
      (given_parameters (lookup names.hook_parameters fields) h.parameters h.given_parameters).1,
  subst GrantsFit (sym h.all_grants) (given_grants (lookup names.hook_grants fields) h.grants h.given_grants).1,
)

form_fits : (w : Which) (fields : List Item) (i : HookItem) → Form w fields i → ItemFits i
form_fits noop fields i h = subst ItemFits (sym h) tt
form_fits delete fields i h = subst ItemFits (sym h.is) tt
form_fits create fields i h = subst ItemFits (sym h.is) (h.known, terms_fit fields h.terms h.said)
form_fits install fields i h = subst ItemFits (sym h.is) (terms_fit fields h.terms h.said)
form_fits delete_namespace fields i h = subst ItemFits (sym h.is) tt
form_fits update fields i h = subst ItemFits (sym h.is) (
  (given_parameters (lookup names.hook_parameters fields) h.parameters h.given_parameters).0,
  (given_grants (lookup names.hook_grants fields) h.grants h.given_grants).0,
)

hooks_fit : (bytes : List ℕ) (items : List HookItem) → AreHooks bytes items → (length items ≤ 10) × Each ItemFits items
hooks_fit bytes items h =
    let long = as_long (IsElement names.hook HookIs) h.0.elements items h.0.each in
    let few = h.0.few in (
      omega (arith, long, few),
      each_of (IsElement names.hook HookIs) ItemFits (λ x i is. form_fits (which is.fields) is.fields i is.is)
          h.0.elements items h.0.each,
    )

given_hooks : (bytes : Option (List ℕ)) (items : List HookItem) → GivenHooks bytes items →
    (length items ≤ 10) × Each ItemFits items
given_hooks None items h = absurd h
given_hooks (Some bytes) items h = hooks_fit bytes items h

hooks_for : (b : Bool) (bytes : Option (List ℕ)) (items : List HookItem) → HooksFor b bytes items →
    (length items ≤ 10) × Each ItemFits items
hooks_for false bytes items h = subst (λ is. (length is ≤ 10) × Each ItemFits is) (sym h) (omega arith, tt)
hooks_for true bytes items h = given_hooks bytes items h

pub fitting_law : TransactionsFit
fitting_law fields bytes sent_by_hook t is = hooks_for (t.kind == 22) (lookup names.hooks fields) t.hooks is.hooks
