use Rattle.std.proofs.Common.{◌++◌, take, sym, ap, subst, ◌∙◌}
use Rattle.xo_edit.specs.Edit.{Emplaces}
use Rattle.xo_edit.proofs.Places.{all_left}
use Rattle.xo_edit.proofs.Splices.{emplaced_new, emplaced_over}
use Rattle.xo_edit.proofs.edit.emplaced.Goals as goal

pub returns-in-Ok-clause-emplaced : goal.returns-in-Ok-clause-emplaced
returns-in-Ok-clause-emplaced c =
    subst (Emplaces c.args.bytes.now c.args.put.now c.args.field) (sym (c.in-Ok.ensures.joined
    ∙ ap (λ b. take c.in-Absent.at c.args.bytes.now ++ (c.args.put.now ++ b))
    (all_left c.args.bytes.now c.in-Absent.at)))
    (emplaced_new c.one_spelling.ensures.law c.edits.ensures.law c.args.bytes.now c.args.put.now c.args.field
    c.requires.object.0 c.requires.field.0 c.in-Absent.at c.requires.object.1 c.requires.field.1
    (c.in-Absent.ensures.located c.requires.object.0 c.requires.object.1))

pub returns-in-Ok-joined-clause-emplaced : goal.returns-in-Ok-joined-clause-emplaced
returns-in-Ok-joined-clause-emplaced c =
    subst (Emplaces c.args.bytes.now c.args.put.now c.args.field) (sym (c.in-Ok-joined.ensures.joined
    ∙ ap (λ b. take c.in-Found.from c.args.bytes.now ++ (c.args.put.now ++ b))
    (all_left c.args.bytes.now c.in-Found.to)))
    (emplaced_over c.one_spelling.ensures.law c.edits.ensures.law c.args.bytes.now c.args.put.now c.args.field
    c.requires.object.0 c.requires.field.0 c.in-Found.from c.in-Found.value c.in-Found.to c.requires.object.1
    c.requires.field.1 (c.in-Found.ensures.located c.requires.object.0 c.requires.object.1))
