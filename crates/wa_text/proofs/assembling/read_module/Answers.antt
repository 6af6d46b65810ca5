use Rattle.std.proofs.Common.{◌<◌, length}
use Rattle.wa_text.proofs.Folding.{goes_on, last_goes, last_breaks, some_bytes}
use Rattle.wa_text.proofs.assembling.read_module.Goals as goal

pub loop-line-preserved : goal.loop-line-preserved
loop-line-preserved c =
    goes_on c.args.text.now c.loop-line.draft c.take_line.new.draft c.loop-line.number c.loop-line.rest.now
    c.in-Some.line.now c.in-Some.more.now
    c.loop-line.invariant
    c.in-Some.ensures.line
    c.in-Some.ensures.shorter
    _
    c.in-Goes.is
    c.in_ok-take_line.ensures.step

pub returns-in-Goes-2-clause-err : goal.returns-in-Goes-2-clause-err
returns-in-Goes-2-clause-err c =
    let some : 0 < length c.loop-line.rest.now = some_bytes c.loop-line.rest.now c.if-is_empty.ensures in
    last_goes c.args.text.now c.loop-line.draft c.take_line-2.new.draft c.loop-line.number c.loop-line.rest.now
    c.loop-line.invariant
    c.in_default.ensures.line
    some
    _
    c.in-Goes-2.is
    c.in_ok-take_line-2.ensures.step

pub returns-in-Wrong-2-clause-err : goal.returns-in-Wrong-2-clause-err
returns-in-Wrong-2-clause-err c =
    let some : 0 < length c.loop-line.rest.now = some_bytes c.loop-line.rest.now c.if-is_empty.ensures in
    last_breaks c.args.text.now c.loop-line.draft c.take_line-2.new.draft _ c.loop-line.number c.loop-line.rest.now
    c.loop-line.invariant
    c.in_default.ensures.line
    some
    _
    c.in-Wrong-2.is
    c.in_ok-take_line-2.ensures.step
