use Rattle.std.proofs.Common.{refl}
use Rattle.xo_list.specs.Value.{HasElements}
use Rattle.xo_edit.specs.Part.{IsElementAt}
use Rattle.xo_edit.proofs.Places.{element_place, element_there}
use Rattle.xo_edit.proofs.part.subarray.Goals as goal
use Rattle.xo_edit.proofs.part.subarray.Goals.{In-Some}

there : (c : In-Some) → IsElementAt c.args.bytes.now c.args.index c.in-Some.span
there c =
    let o : HasElements c.args.bytes.now = c.if-not-are_elements.ensures.array.0 refl in
    element_place c.one_array.ensures.law c.args.bytes.now o.0 c.args.index c.in-Some.span o.1
    (c.in-Some.ensures.found o.0 o.1)

pub returns-in-None-clause-doesnt_exist : goal.returns-in-None-clause-doesnt_exist
returns-in-None-clause-doesnt_exist c =
    let o : HasElements c.args.bytes.now = c.if-not-are_elements.ensures.array.0 refl in
    (λ e. (o.0, o.1, c.in-None.ensures.found o.0 o.1), λ lacks. refl)

pub returns-in-Some-clause-found : goal.returns-in-Some-clause-found
returns-in-Some-clause-found c = there c

pub returns-in-Some-clause-doesnt_exist : goal.returns-in-Some-clause-doesnt_exist
returns-in-Some-clause-doesnt_exist c = (
  λ e.
      cc,
  λ lacks.
      absurd (element_there c.one_reading.ensures.law c.args.bytes.now c.args.index c.in-Some.span (there c) lacks),
)
