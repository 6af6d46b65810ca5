use Rattle.std.proofs.Common.{◌∙◌, ap, sym, subst, refl, Some}
use Rattle.xo_list.specs.Builder.{puts, IsFree}
use Rattle.xo_list.specs.Item.{with_item}
use Rattle.xo_list.specs.List.{IsList}
use Rattle.xo_list.proofs.Building.{put_at, list_more, free_not_present}
use Rattle.xo_list.proofs.builder.ObjectBuilder.put.Goals as goal

pub returns-then-not-is_fit-clause-present : goal.returns-then-not-is_fit-clause-present
returns-then-not-is_fit-clause-present c = (
  λ e. absurd (cc),
  λ s. absurd (free_not_present c.args.field c.self.inside.fields.items c.args.self.now c.in-Some.index c.self.view_is
      (subst (λ xs. IsFree c.args.field xs (Some c.in-Some.index)) c.as_slice.ensures.value c.in-Some.ensures.slot) s),
)

pub returns-in-Err-clause-present : goal.returns-in-Err-clause-present
returns-in-Err-clause-present c = (
  λ e. absurd (cc),
  λ s. absurd (free_not_present c.args.field c.self.inside.fields.items c.args.self.now c.in-Some.index c.self.view_is
      (subst (λ xs. IsFree c.args.field xs (Some c.in-Some.index)) c.as_slice.ensures.value c.in-Some.ensures.slot) s),
)

pub returns-in-Err-insert-clause-present : goal.returns-in-Err-insert-clause-present
returns-in-Err-insert-clause-present c = (
  λ e. absurd (cc),
  λ s. absurd (free_not_present c.args.field c.self.inside.fields.items c.args.self.now c.in-Some.index c.self.view_is
      (subst (λ xs. IsFree c.args.field xs (Some c.in-Some.index)) c.as_slice.ensures.value c.in-Some.ensures.slot) s),
)

pub returns-clause-present : goal.returns-clause-present
returns-clause-present c = (
  λ e. absurd (cc),
  λ s. absurd (free_not_present c.args.field c.self.inside.fields.items c.args.self.now c.in-Some.index c.self.view_is
      (subst (λ xs. IsFree c.args.field xs (Some c.in-Some.index)) c.as_slice.ensures.value c.in-Some.ensures.slot) s),
)

pub returns-clause-ok : goal.returns-clause-ok
returns-clause-ok c =
    ap puts c.in_default.ensures.items
    ∙ put_at c.self.inside.fields.items (record { field = c.args.field; value = c.in-Ok.value }) c.in-Some.index
    (subst (λ xs. IsFree c.args.field xs (Some c.in-Some.index)) c.as_slice.ensures.value c.in-Some.ensures.slot)
    ∙ ap (λ v. with_item (record { field = c.args.field; value = v }) (puts c.self.inside.fields.items))
    c.in-Ok.ensures.items
    ∙ ap (with_item (record { field = c.args.field; value = c.args.value.now })) c.self.view_is

pub invariant_of-self-2 : goal.invariant_of-self-2
invariant_of-self-2 c =
    subst IsList
    (sym (ap puts c.in_default.ensures.items
    ∙ put_at c.self.inside.fields.items (record { field = c.args.field; value = c.in-Ok.value }) c.in-Some.index
    (subst (λ xs. IsFree c.args.field xs (Some c.in-Some.index)) c.as_slice.ensures.value c.in-Some.ensures.slot)
    ∙ ap (λ v. with_item (record { field = c.args.field; value = v }) (puts c.self.inside.fields.items))
    c.in-Ok.ensures.items))
    (list_more (puts c.self.inside.fields.items) c.args.field c.args.value.now c.self.invariant
    (c.if-not-is_fit.ensures.fit.0 refl))
