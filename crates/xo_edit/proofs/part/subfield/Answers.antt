use Rattle.std.proofs.Common.{refl}
use Rattle.xo_list.specs.Value.{HasFields}
use Rattle.xo_edit.proofs.Places.{value_place, field_lacks, field_there}
use Rattle.xo_edit.proofs.part.subfield.Goals as goal

pub returns-in-Found-clause-found : goal.returns-in-Found-clause-found
returns-in-Found-clause-found c =
    let o : HasFields c.args.bytes.now = c.if-not-validate.ensures.object.0 refl in
    value_place c.one_spelling.ensures.law c.args.bytes.now c.args.field o.0 c.in-Found.from c.in-Found.value
    c.in-Found.to o.1 (c.in-Found.ensures.located o.0 o.1)

pub returns-in-Found-clause-doesnt_exist : goal.returns-in-Found-clause-doesnt_exist
returns-in-Found-clause-doesnt_exist c =
    let o : HasFields c.args.bytes.now = c.if-not-validate.ensures.object.0 refl in (
      λ e.
          cc,
      λ lacks.
          absurd (field_there c.one_reading.ensures.law c.args.bytes.now c.args.field o.0 c.in-Found.from
          c.in-Found.value
          c.in-Found.to o.1 (c.in-Found.ensures.located o.0 o.1) lacks),
    )

pub returns-in-Absent-clause-doesnt_exist : goal.returns-in-Absent-clause-doesnt_exist
returns-in-Absent-clause-doesnt_exist c =
    let o : HasFields c.args.bytes.now = c.if-not-validate.ensures.object.0 refl in (
      λ e.
          field_lacks c.args.bytes.now c.args.field o.0 c.in-Absent.at o.1 (c.in-Absent.ensures.located o.0 o.1),
      λ lacks. refl,
    )
