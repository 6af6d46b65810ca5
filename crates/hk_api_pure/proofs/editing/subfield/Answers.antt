use Rattle.hk_api_pure.proofs.Edits.{subfield_fails, subfield_is}
use Rattle.hk_api_pure.proofs.Readings.{not_an_object}
use Rattle.hk_api_pure.proofs.editing.subfield.Goals as goal

pub returns-then-not-validate-clause-part : goal.returns-then-not-validate-clause-part
returns-then-not-validate-clause-part c =
    subfield_fails c.args.bytes.now c.args.field (not_an_object _ _ c.validate.ensures.object c.if-not-validate.true)

pub returns-in-Some-clause-part : goal.returns-in-Some-clause-part
returns-in-Some-clause-part c =
    let object = c.validate.ensures.object.0 c.if-not-validate.false in
    subfield_is c.args.bytes.now c.args.field _ object c.in-Some.ensures.place

pub returns-in-None-clause-part : goal.returns-in-None-clause-part
returns-in-None-clause-part c =
    let object = c.validate.ensures.object.0 c.if-not-validate.false in
    subfield_is c.args.bytes.now c.args.field _ object c.in-None.ensures.place

pub returns-in-Some-clause-order : goal.returns-in-Some-clause-order
returns-in-Some-clause-order c =
    let (items, object) = c.validate.ensures.object.0 c.if-not-validate.false in
    (c.in-Some.ensures.found items object).0

pub returns-in-Some-clause-within : goal.returns-in-Some-clause-within
returns-in-Some-clause-within c =
    let (items, object) = c.validate.ensures.object.0 c.if-not-validate.false in
    (c.in-Some.ensures.found items object).1
