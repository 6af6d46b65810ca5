use Rattle.std.proofs.Common.{◌≡◌, ℕ, suc, ◌+◌, ◌-◌, ◌<◌, ◌≤◌, List, length, take, drop, sym, ap, subst, ◌∙◌, arith}
use Rattle.std.proofs.lemmas.List.{take_all}
use Rattle.serde_json.specs.Data.{array, object}
use Rattle.serde_json.specs.View.{view, items_view}
use Rattle.serde_json.proofs.Views.{view-Array}
use Rattle.xo_fields.specs.declared.field.FieldId.{FieldId}
use Rattle.xo_list.specs.declared.span.Span.{Span}
use Rattle.xo_list.specs.Span.{items_of}
use Rattle.xo_fields.specs.declared.form.Form.{Form}
use Rattle.xo_fields.specs.declared.form.Form.TheVariants.{Object, Array}
use Rattle.xo_list.specs.Value.{IsValue}
use Rattle.xo_showing.specs.Showing.{members, elements, shown}
use Rattle.xo_showing.proofs.Elements.{element_more}
use Rattle.xo_showing.proofs.Placing.{object_opened, array_opened}
use Rattle.xo_showing.proofs.value.+nested.Goals as goal

pub array_value-loop-at-preserved : goal.array_value-loop-at-preserved
array_value-loop-at-preserved t c =
    let spans : List (FieldId × Span) = c.in_ok-spans.spans.items in
    let at : ℕ = c.loop-at.at in
    let within : at < length spans = omega (arith, c.loop-at-test.true, c.len-at-end.ensures) in
    let one : at + 1 - at ≡ 1 = omega arith in
    let next : suc at ≡ at + 1 = omega arith in
    let shows : view c.from.result
    ≡ object (members (shown c.args.room) (items_of c.args.bytes.now (take 1 (drop at spans)))) =
    c.from.ensures ∙ ap object (c.in_ok-element.ensures.members
    ∙ ap (λ n. members (shown c.args.room) (items_of c.args.bytes.now (take n (drop at c.deref.result.now)))) one
    ∙ ap (λ ss. members (shown c.args.room) (items_of c.args.bytes.now (take 1 (drop at ss)))) c.deref.ensures.value) in
    ap items_view c.in_ok-push.ensures.items
    ∙ element_more (shown c.args.room) c.args.bytes.now c.loop-at.list.items c.from.result spans at within
    c.loop-at.invariant shows
    ∙ ap (λ n. elements (shown c.args.room) (items_of c.args.bytes.now (take n spans))) next

pub array_value-returns : goal.array_value-returns
array_value-returns t c =
    let spans : List (FieldId × Span) = c.in_ok-spans.spans.items in
    let all : length spans ≤ c.loop-at.at = omega (arith, c.loop-at-test.false, c.len-at-end.ensures) in
    record {
      value = view-Array c.loop-at.list
          ∙ ap array (c.loop-at.invariant
          ∙ ap (λ ss. elements (shown c.args.room) (items_of c.args.bytes.now ss)) (take_all c.loop-at.at spans all)
          ∙ ap (elements (shown c.args.room)) (sym c.in_ok-spans.ensures.items));
    }

pub form_value-object_value-requires : goal.form_value-object_value-requires
form_value-object_value-requires t c =
    let value : IsValue c.args.room Object c.args.bytes.now =
    subst (λ (form : Form). IsValue c.args.room form c.args.bytes.now) c.in-Object.is c.requires in
    let some : 0 < c.args.room = (object_opened c.args.room c.args.bytes.now value).0 in
    (omega (arith, some, c.decreases), (object_opened c.args.room c.args.bytes.now value).1)

pub form_value-array_value-requires : goal.form_value-array_value-requires
form_value-array_value-requires t c =
    let value : IsValue c.args.room Array c.args.bytes.now =
    subst (λ (form : Form). IsValue c.args.room form c.args.bytes.now) c.in-Array.is c.requires in
    let some : 0 < c.args.room = (array_opened c.args.room c.args.bytes.now value).0 in
    (omega (arith, some, c.decreases), (array_opened c.args.room c.args.bytes.now value).1)
