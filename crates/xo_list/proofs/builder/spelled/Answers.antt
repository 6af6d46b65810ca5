use Rattle.std.proofs.Common.{ap, sym, subst, ◌∙◌, ◌++◌, ◌∷◌, []}
use Rattle.xo_list.specs.Item.{spell}
use Rattle.xo_list.specs.declared.builder.Put.{Put}
use Rattle.xo_list.specs.List.{IsFit}
use Rattle.xo_list.proofs.Building.{fit_at, spelled_more}
use Rattle.xo_list.proofs.builder.spelled.Goals as goal

pub spell_field-requires : goal.spell_field-requires
spell_field-requires c =
    subst (λ v. IsFit c.put-item.result.field v) (sym c.as_slice.ensures.value)
    (subst (λ (p : Put). IsFit p.field p.value.items) (sym c.put-item.is)
    (fit_at c.args.fields.now c.loop-put.put-index c.put-item.result c.requires c.loop-put-test.true))

pub loop-put-preserved : goal.loop-put-preserved
loop-put-preserved c =
    spelled_more c.args.fields.now c.loop-put.put-index c.put-item.result c.loop-put.bytes.items
    c.spell_field.new.bytes.items c.loop-put-test.true c.put-item.is c.loop-put.invariant
    (c.in_ok-spell_field.ensures.bytes
    ∙ ap (λ v. c.loop-put.bytes.items ++ spell (record { field = c.put-item.result.field; value = v } ∷ []))
    c.as_slice.ensures.value)
