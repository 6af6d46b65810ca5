use Rattle.std.proofs.Common.{◌++◌, [], take, refl, sym, ap, subst, ◌∙◌}
use Rattle.xo_list.specs.Value.{HasFields}
use Rattle.xo_edit.specs.Edit.{Erases}
use Rattle.xo_edit.proofs.Places.{all_left, field_lacks, field_there}
use Rattle.xo_edit.proofs.Splices.{erased}
use Rattle.xo_edit.proofs.edit.erase.Goals as goal

pub returns-in-Absent-clause-doesnt_exist : goal.returns-in-Absent-clause-doesnt_exist
returns-in-Absent-clause-doesnt_exist c =
    let o : HasFields c.args.bytes.now = c.if-not-validate.ensures.object.0 refl in (
      λ e. (
        c.if-bytes-gt-LONGEST_OBJECT.false,
        field_lacks c.args.bytes.now c.args.field o.0 c.in-Absent.at o.1 (c.in-Absent.ensures.located o.0 o.1),
      ),
      λ lacks. refl,
    )

pub returns-in-Err-clause-doesnt_exist : goal.returns-in-Err-clause-doesnt_exist
returns-in-Err-clause-doesnt_exist c =
    let o : HasFields c.args.bytes.now = c.if-not-validate.ensures.object.0 refl in (
      λ e.
          cc,
      λ lacks.
          absurd (field_there c.one_reading.ensures.law c.args.bytes.now c.args.field o.0 c.in-Found.from
          c.in-Found.value
          c.in-Found.to o.1 (c.in-Found.ensures.located o.0 o.1) lacks.1),
    )

pub returns-in-Ok-clause-erased : goal.returns-in-Ok-clause-erased
returns-in-Ok-clause-erased c =
    let o : HasFields c.args.bytes.now = c.if-not-validate.ensures.object.0 refl in
    subst (Erases c.args.bytes.now c.args.field) (sym (c.in-Ok.ensures.joined
    ∙ ap (λ b. take c.in-Found.from c.args.bytes.now ++ ([] ++ b)) (all_left c.args.bytes.now c.in-Found.to)))
    (erased c.one_spelling.ensures.law c.edits.ensures.law c.args.bytes.now c.args.field o.0 c.in-Found.from
    c.in-Found.value c.in-Found.to o.1 (c.in-Found.ensures.located o.0 o.1))

pub returns-in-Ok-clause-doesnt_exist : goal.returns-in-Ok-clause-doesnt_exist
returns-in-Ok-clause-doesnt_exist c =
    let o : HasFields c.args.bytes.now = c.if-not-validate.ensures.object.0 refl in (
      λ e.
          cc,
      λ lacks.
          absurd (field_there c.one_reading.ensures.law c.args.bytes.now c.args.field o.0 c.in-Found.from
          c.in-Found.value
          c.in-Found.to o.1 (c.in-Found.ensures.located o.0 o.1) lacks.1),
    )
