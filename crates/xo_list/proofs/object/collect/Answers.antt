use Rattle.std.proofs.Common.{sym, subst, drop, arith}
use Rattle.xo_fields.specs.Field.{number}
use Rattle.xo_list.specs.Value.{Head}
use Rattle.xo_list.specs.Fault.{HeadFails}
use Rattle.xo_list.proofs.Collecting.{Collected, collected_none, collected_more, collected_all, collected_head_fails}
use Rattle.xo_list.proofs.Collecting.{collected_body_fails}
use Rattle.xo_list.proofs.object.collect.Goals as goal

pub fields-init : goal.fields-init
fields-init c =
    subst (λ xs. Collected c.args.room c.args.place c.args.bytes.now xs 0 0) (sym c.new-spans.ensures.items)
    (collected_none c.args.room c.args.place c.args.bytes.now)

pub returns-in-Some-clause-ok : goal.returns-in-Some-clause-ok
returns-in-Some-clause-ok c =
    collected_all c.args.room c.args.place c.args.bytes.now c.fields.spans.items c.fields.last c.fields.at _
    c.fields.invariant c.in-Some.ensures.ends

pub returns-in-Err-clause-fault : goal.returns-in-Err-clause-fault
returns-in-Err-clause-fault c other =
    collected_head_fails c.args.room c.args.place c.args.bytes.now c.fields.spans.items c.fields.last c.fields.at
    c.in-Err.fault c.fields.invariant c.in_default.ensures.ends
    (subst (λ a. HeadFails a c.fields.last (drop c.fields.at c.args.bytes.now) c.in-Err.fault)
    c.holds_elements-array.ensures.array c.in-Err.ensures.start)

pub returns-in-Err-skip_value-clause-fault : goal.returns-in-Err-skip_value-clause-fault
returns-in-Err-skip_value-clause-fault c other =
    collected_body_fails c.args.room c.args.place c.args.bytes.now c.fields.spans.items c.fields.last c.fields.at
    c.in-Ok.start.field c.in-Ok.start.form _ c.in-Err-skip_value.fault c.fields.invariant c.in_default.ensures.ends
    (subst (λ a.
    Head a c.fields.last c.in-Ok.start.field c.in-Ok.start.form (drop c.fields.at c.args.bytes.now)
    (drop c.in-Ok.start.from c.args.bytes.now)) c.holds_elements-array.ensures.array c.in-Ok.ensures.start)
    c.in-Err-skip_value.ensures.value

pub fields-preserved : goal.fields-preserved
fields-preserved c =
    let w : _ = c.in-Ok-skip_value.ensures.within in
    subst
    (λ n. Collected c.args.room c.args.place c.args.bytes.now c.push.new.self.items n c.in-Ok-skip_value.value.next)
    (sym c.number-last.ensures.number)
    (subst (λ xs.
    Collected c.args.room c.args.place c.args.bytes.now xs (number c.in-Ok.start.field) c.in-Ok-skip_value.value.next)
    (sym c.in_default-push.ensures.items)
    (collected_more c.args.room c.args.place c.args.bytes.now c.fields.spans.items c.fields.last c.fields.at
    c.in-Ok.start.field c.in-Ok.start.form c.in-Ok.start.from
    (record { from = c.in-Ok-skip_value.value.from; to = c.in-Ok-skip_value.value.to }) c.in-Ok-skip_value.value.next
    c.fields.invariant (subst (λ a.
    Head a c.fields.last c.in-Ok.start.field c.in-Ok.start.form (drop c.fields.at c.args.bytes.now)
    (drop c.in-Ok.start.from c.args.bytes.now)) c.holds_elements-array.ensures.array c.in-Ok.ensures.start)
    c.in-Ok-skip_value.ensures.value (omega (arith, c.in-Ok.ensures.within)) w.1 w.2 w.3
    c.in-Ok-skip_value.ensures.place))
