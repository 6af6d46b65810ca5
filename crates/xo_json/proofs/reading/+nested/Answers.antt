use Rattle.std.proofs.Common.{◌≡◌, ◌+◌, [], ◌∷◌, ◌++◌, drop, refl, sym, ap, subst, ◌∙◌, arith, append_assoc, append-nil}
use Rattle.std.proofs.Common.{inl, inr}
use Rattle.std.proofs.lemmas.List.{drop_more, drop_all}
use Rattle.std.specs.List.Sorted.{IsStrictlySortedBy}
use Rattle.std.specs.Map.{keys_of}
use Rattle.std.specs.String.{string_cmp}
use Rattle.serde_json.specs.View.{view, members_view, items_view}
use Rattle.serde_json.proofs.Views.{Entry}
use Rattle.xo_fields.specs.declared.form.Form.TheVariants.{Object}
use Rattle.xo_list.specs.Item.{Item, spell, with_item}
use Rattle.xo_list.specs.List.{IsFit}
use Rattle.xo_list.specs.Span.{items}
use Rattle.xo_list.specs.Value.{IsObject}
use Rattle.xo_list.proofs.Placing.{spell-append}
use Rattle.xo_told.specs.Faults.{ValueFails, MemberFails, MembersFail, ItemsFail}
use Rattle.xo_json.specs.Parts.{ReadsValue, ShowsFields, ShowsElements}
use Rattle.xo_told.specs.Reading.{IsKey, ShowsValue}
use Rattle.xo_json.proofs.Numbers.{object_is, array_is}
use Rattle.xo_json.proofs.Nesting.{object_fails, object_read, array_read, key_form}
use Rattle.xo_json.proofs.Walking.{Held, fit_10, not_yet, held_more, held_shows, element_first, no_elements}
use Rattle.xo_json.proofs.reading.+nested.Goals as goal

-- ---- values that hold no fields

pub read_value-returns-in-Fixed : goal.read_value-returns-in-Fixed
read_value-returns-in-Fixed t c = record {
  value =
      subst (λ form. ReadsValue c.args.room form (view c.args.value.now) c.read_fixed.result) (sym c.in-Fixed.is)
      (c.read_fixed.ensures.value c.args.room);
}

pub read_value-returns-in-Money : goal.read_value-returns-in-Money
read_value-returns-in-Money t c = record {
  value =
      subst (λ form. ReadsValue c.args.room form (view c.args.value.now) c.read_money.result) (sym c.in-Money.is)
      (c.read_money.ensures.value c.args.room);
}

pub read_value-returns-in-Blob : goal.read_value-returns-in-Blob
read_value-returns-in-Blob t c = record {
  value =
      subst (λ form. ReadsValue c.args.room form (view c.args.value.now) c.read_blob.result) (sym c.in-Blob.is)
      (c.read_blob.ensures.value c.args.room);
}

pub read_value-returns-in-Account : goal.read_value-returns-in-Account
read_value-returns-in-Account t c = record {
  value =
      subst (λ form. ReadsValue c.args.room form (view c.args.value.now) c.read_account.result) (sym c.in-Account.is)
      (c.read_account.ensures.value c.args.room);
}

-- ---- nested objects and arrays

pub read_array-returns : goal.read_array-returns
read_array-returns t c = record {
  value =
      array_read c.args.room (view c.args.value.now) _ c.read_elements.result c.if-room-eq0.false
      (array_is _ _ (sym c.in-Some.ensures)) c.read_elements.ensures.bytes c.read_elements.ensures.elements;
}

pub read_object-returns-in-Err : goal.read_object-returns-in-Err
read_object-returns-in-Err t c = record {
  value =
      λ other.
      object_fails c.args.room (view c.args.value.now) _ c.in-Err.fault c.if-room-eq0.false
      (object_is _ _ (sym c.in-Some.ensures)) (c.in-Err.ensures.members other);
}

pub read_object-returns-in-Ok : goal.read_object-returns-in-Ok
read_object-returns-in-Ok t c = record {
  value =
      object_read c.args.room (view c.args.value.now) _ _ c.bytes.result.now c.copied.result c.if-room-eq0.false
      (object_is _ _ (sym c.in-Some.ensures)) c.in-Ok.ensures.members
      (subst (IsObject (items c.in-Ok.object)) (sym c.bytes.ensures.bytes) c.bytes.ensures.read.object)
      c.copied.ensures.ok c.copied.ensures.bytes c.copied.ensures.err;
}

-- ---- members

pub read_members-returns-in-Err : goal.read_members-returns-in-Err
read_members-returns-in-Err t c = record {
  members = λ other.
      c.loop-key.invariant.3 c.in-Err.fault (subst
      (λ es. MembersFail (ValueFails c.args.room) (ShowsValue c.args.room) (members_view es) c.in-Err.fault)
      (sym c.in-Some.ensures.steps)
      (inl (subst (λ k. MemberFails (ValueFails c.args.room) k (view c.in-Some.value.now) c.in-Err.fault)
      c.as_str.ensures.value (c.in-Err.ensures.member other))));
}

pub read_members-put_new-requires-clause-fit : goal.read_members-put_new-requires-clause-fit
read_members-put_new-requires-clause-fit t c =
    let found = c.in-Ok.ensures.member in
    subst (IsFit c.in-Ok.field) (sym c.as_slice.ensures.value) (fit_10 c.args.room c.as_str.result.now c.in-Ok.field
    found.0 (view c.in-Some.value.now) c.in-Ok.bytes.items c.requires found.1 found.2)

pub read_members-put_new-requires-clause-absent : goal.read_members-put_new-requires-clause-absent
read_members-put_new-requires-clause-absent t c =
    let l = c.loop-key in
    let e : Entry = (c.in-Some.key.now, c.in-Some.value.now) in
    let all : c.args.members.now.entries ≡ l.invariant.0 ++ e ∷ c.next.new.self =
    l.invariant.1 ∙ ap (λ es. l.invariant.0 ++ es) c.in-Some.ensures.steps in
    let found = c.in-Ok.ensures.member in
    not_yet c.args.room c.requires l.invariant.0 e c.next.new.self
    (subst (λ es. IsStrictlySortedBy string_cmp (keys_of es)) all c.iter-key-items.ensures.ordered) l.fields
    l.invariant.2
    c.in-Ok.field found.0 c.in-Ok.bytes.items
    (subst (λ k. IsKey k c.in-Ok.field found.0) c.as_str.ensures.value found.1) found.2

pub read_members-loop-key-preserved : goal.read_members-loop-key-preserved
read_members-loop-key-preserved t c =
    let l = c.loop-key in
    let e : Entry = (c.in-Some.key.now, c.in-Some.value.now) in
    let left = c.next.new.self in
    let all : c.args.members.now.entries ≡ l.invariant.0 ++ e ∷ left =
    l.invariant.1 ∙ ap (λ es. l.invariant.0 ++ es) c.in-Some.ensures.steps in
    let sorted = subst (λ es. IsStrictlySortedBy string_cmp (keys_of es)) all c.iter-key-items.ensures.ordered in
    let found = c.in-Ok.ensures.member in
    let k = subst (λ text. IsKey text c.in-Ok.field found.0) c.as_str.ensures.value found.1 in
    let put : c.put_new.new.fields
    ≡ with_item (record { field = c.in-Ok.field; value = c.in-Ok.bytes.items }) l.fields =
    c.in_default.ensures.ok
    ∙ ap (λ v. with_item (record { field = c.in-Ok.field; value = v }) l.fields) c.as_slice.ensures.value in (
      l.invariant.0 ++ e ∷ [],
      all ∙ sym (append_assoc l.invariant.0 (e ∷ []) left),
      subst (λ xs. Held c.args.room xs (members_view (l.invariant.0 ++ e ∷ []))) (sym put)
          (held_more c.args.room c.requires l.invariant.0 e left sorted l.fields l.invariant.2 c.in-Ok.field found.0
          c.in-Ok.bytes.items k found.2),
      λ fault h.
          l.invariant.3 fault (subst
          (λ es. MembersFail (ValueFails c.args.room) (ShowsValue c.args.room) (members_view es) fault)
          (sym c.in-Some.ensures.steps)
          (inr ((c.in-Ok.field, found.0, c.in-Ok.bytes.items, k, found.2), h))),
    )

pub read_members-returns-in-Ok-finish : goal.read_members-returns-in-Ok-finish
read_members-returns-in-Ok-finish t c = record {
  members =
      let l = c.loop-key in
      let all : c.args.members.now.entries ≡ l.invariant.0 =
      l.invariant.1 ∙ ap (λ es. l.invariant.0 ++ es) c.in-None.ensures.steps.0 ∙ append-nil l.invariant.0 in
      subst (ShowsFields c.args.room (members_view c.args.members.now.entries)) (sym c.in-Ok-finish.ensures.object.0)
      (subst (λ es. ShowsFields c.args.room (members_view es) l.fields) (sym all)
      (held_shows c.args.room l.fields (members_view l.invariant.0) l.invariant.2));
}

-- ---- elements

pub read_elements-loop-value-preserved : goal.read_elements-loop-value-preserved
read_elements-loop-value-preserved t c =
    let l = c.loop-value in
    let vs = c.deref-value-items.result.now in
    let v = c.value-item.result in
    let here : drop l.value-index vs ≡ v ∷ drop (l.value-index + 1) vs =
    drop_more vs l.value-index v (omega arith) ∙ ap (λ y. y ∷ drop (l.value-index + 1) vs) (sym c.value-item.is) in
    let x : Item = record { field = c.in-Ok.field; value = c.in-Ok.inner.items } in
    let pushed : c.push_element.new.bytes.items ≡ spell (l.invariant.0 ++ x ∷ []) =
    c.in_default.ensures.bytes
    ∙ (λ i. l.invariant.1 i ++ spell (record { field = c.in-Ok.field; value = c.as_slice.ensures.value i } ∷ []))
    ∙ sym (spell-append l.invariant.0 (x ∷ [])) in (
      l.invariant.0 ++ x ∷ [],
      pushed,
      λ ys s.
          subst (ShowsElements c.args.room (items_view vs)) (sym (append_assoc l.invariant.0 (x ∷ []) ys))
          (l.invariant.2 (x ∷ ys) (subst (λ es. ShowsElements c.args.room (items_view es) (x ∷ ys)) (sym here)
          (element_first c.args.room (view v) (items_view (drop (l.value-index + 1) vs)) c.in-Ok.field
          c.in-Ok.inner.items ys c.in-Ok.ensures.element s))),
      λ fault h.
          l.invariant.3 fault (subst
          (λ es. ItemsFail (ValueFails c.args.room) (ShowsValue c.args.room) (items_view es) fault) (sym here)
          (inr ((c.in-Ok.field, c.in-Ok.inner.items, c.in-Ok.ensures.element), h))),
    )

pub read_elements-returns-in-Err-clause-elements : goal.read_elements-returns-in-Err-clause-elements
read_elements-returns-in-Err-clause-elements t c = λ other.
    let l = c.loop-value in
    let vs = c.deref-value-items.result.now in
    let v = c.value-item.result in
    let here : drop l.value-index vs ≡ v ∷ drop (l.value-index + 1) vs =
    drop_more vs l.value-index v (omega arith) ∙ ap (λ y. y ∷ drop (l.value-index + 1) vs) (sym c.value-item.is) in
    subst (λ es. ItemsFail (ValueFails c.args.room) (ShowsValue c.args.room) (items_view es) c.in-Err.fault)
    c.deref-value-items.ensures.value
    (l.invariant.3 c.in-Err.fault (subst
    (λ es. ItemsFail (ValueFails c.args.room) (ShowsValue c.args.room) (items_view es) c.in-Err.fault) (sym here)
    (inl (c.in-Err.ensures.element other))))

pub read_elements-returns-clause-elements : goal.read_elements-returns-clause-elements
read_elements-returns-clause-elements t c =
    let l = c.loop-value in
    let vs = c.deref-value-items.result.now in
    let none : drop l.value-index vs ≡ [] = drop_all l.value-index vs (omega arith) in (
      l.invariant.0,
      subst (λ es. ShowsElements c.args.room (items_view es) l.invariant.0) c.deref-value-items.ensures.value (subst
          (ShowsElements c.args.room (items_view vs)) (append-nil l.invariant.0)
          (l.invariant.2 []
          (subst (λ es. ShowsElements c.args.room (items_view es) []) (sym none) (no_elements c.args.room)))),
      c.held.ensures.same ∙ l.invariant.1,
    )

-- ---- the member of an element

pub read_inner-returns-in-Ok-None : goal.read_inner-returns-in-Ok-None
read_inner-returns-in-Ok-None t c = record {
  inner = λ other. inl (refl, λ field k. (rw c.in-Ok-None.field-0-is at c.in-Ok-None.ensures.key) field Object k);
}

-- the key of another kind
pub read_inner-returns-in_default : goal.read_inner-returns-in_default
read_inner-returns-in_default t c = record {
  inner = λ other. inl (
    refl,
    λ field k.
        let found : IsKey c.args.key.now c.in-Ok-Some.keyed.field c.in-Ok-Some.keyed.form =
        rw c.in-Ok-Some.field-0-is at c.in-Ok-Some.ensures.key in
        c.in_default.not-Object
        (key_form c.args.key.now c.in-Ok-Some.keyed.field field c.in-Ok-Some.keyed.form Object found k),
  );
}
