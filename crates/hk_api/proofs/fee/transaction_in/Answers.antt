use Rattle.std.proofs.Common.{◌≡◌, ap, ◌∙◌, ok_or}
use Rattle.hk_calls.specs.declared.code.Code.TheVariants as code
use Rattle.hk_reading.proofs.OneReading.{at_some}
use Rattle.hk_api.proofs.Taken.{none_read, sent_read, emitted_read}
use Rattle.hk_api.proofs.fee.transaction_in.Goals as goal

pub returns-in-None-clause-found : goal.returns-in-None-clause-found
returns-in-None-clause-found c =
    ap (λ o. ok_or o code.InvalidTxn)
    (none_read c.args.bytes.now c.in_ok-object_of.field-0 c.in_ok-object_of.ensures.found c.in-None.is)

pub returns-in-Some-2-clause-found : goal.returns-in-Some-2-clause-found
returns-in-Some-2-clause-found c =
    ap (λ o. ok_or o code.InvalidTxn) (sent_read c.args.bytes.now c.in_ok-object_of.field-0
    c.in_ok-object_of.ensures.found
    c.in-Some.object c.in-Some.is (at_some (λ object. object.bytes ≡ c.args.bytes.now) c.in_ok-object_of.field-0
    c.in-Some.object c.in-Some.is c.in_ok-object_of.ensures.same)
    c.in_ok-sent.field-0 c.in-Some-2.sent c.in_ok-sent.ensures.found c.in-Some-2.is)

pub returns-in-None-2-clause-found : goal.returns-in-None-2-clause-found
returns-in-None-2-clause-found c =
    ap (λ o. ok_or o code.InvalidTxn) (emitted_read c.args.bytes.now c.in_ok-object_of.field-0
    c.in_ok-object_of.ensures.found
    c.in-Some.object c.in-Some.is (at_some (λ object. object.bytes ≡ c.args.bytes.now) c.in_ok-object_of.field-0
    c.in-Some.object c.in-Some.is c.in_ok-object_of.ensures.same)
    c.in_ok-sent.field-0 c.in_ok-transaction_of.field-0 c.in_ok-sent.ensures.found c.in_default.is
    c.in_ok-transaction_of.ensures.found
    ∙ c.in-None-2.is)

pub returns-clause-found : goal.returns-clause-found
returns-clause-found c =
    ap (λ o. ok_or o code.InvalidTxn) (emitted_read c.args.bytes.now c.in_ok-object_of.field-0
    c.in_ok-object_of.ensures.found
    c.in-Some.object c.in-Some.is (at_some (λ object. object.bytes ≡ c.args.bytes.now) c.in_ok-object_of.field-0
    c.in-Some.object c.in-Some.is c.in_ok-object_of.ensures.same)
    c.in_ok-sent.field-0 c.in_ok-transaction_of.field-0 c.in_ok-sent.ensures.found c.in_default.is
    c.in_ok-transaction_of.ensures.found
    ∙ c.in-Some-3.is)
