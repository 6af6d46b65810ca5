use Rattle.xo_object.specs.Names.{hook_grant}
use Rattle.xo_object.specs.Transaction.{GrantIs}
use Rattle.xo_object.proofs.Elements.{too_many, more_read, refused_there, whole_read}
use Rattle.xo_object.proofs.lists.grants_of.Goals as goal

pub returns-then-elements-gt-MOST-clause-malformed : goal.returns-then-elements-gt-MOST-clause-malformed
returns-then-elements-gt-MOST-clause-malformed c e grants r =
    too_many c.one_reading.ensures.law hook_grant GrantIs 16 c.args.bytes.now c.args.elements.now c.requires.array
    grants r c.if-elements-gt-MOST.true

pub loop-element-preserved : goal.loop-element-preserved
loop-element-preserved c =
    more_read hook_grant GrantIs c.args.bytes.now c.args.elements.now c.loop-element.element-index _
    c.loop-element.grants c.push.new.self c.in-Ok.grant c.loop-element-test.true c.loop-element.invariant
    c.in-Ok.ensures.ok c.in_default.ensures.ok

pub returns-in-Err-clause-malformed : goal.returns-in-Err-clause-malformed
returns-in-Err-clause-malformed c e grants r =
    refused_there c.one_reading.ensures.law hook_grant GrantIs 16 c.args.bytes.now c.args.elements.now
    c.loop-element.element-index _ c.requires.array c.loop-element-test.true (c.in-Err.ensures.malformed (cc)) grants r

pub returns-clause-ok : goal.returns-clause-ok
returns-clause-ok c =
    whole_read hook_grant GrantIs 16 c.args.bytes.now c.args.elements.now c.loop-element.element-index
    c.loop-element.grants c.requires.array c.if-elements-gt-MOST.false c.loop-element-test.false
    c.loop-element.invariant
