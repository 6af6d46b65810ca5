use Rattle.std.proofs.Common.{arith}
use Rattle.xo_object.specs.Names.{hook}
use Rattle.xo_object.specs.Transaction.{HookIs, AreElements}
use Rattle.xo_object.proofs.Elements.{too_many, more_read, refused_there, whole_read, as_many}
use Rattle.xo_object.proofs.hooks.hooks_of.Goals as goal

pub returns-then-elements-gt-MOST-clause-malformed : goal.returns-then-elements-gt-MOST-clause-malformed
returns-then-elements-gt-MOST-clause-malformed c e items r =
    too_many c.one_reading.ensures.law hook HookIs 10 c.args.bytes.now c.args.elements.now c.requires.array items r.0
    c.if-elements-gt-MOST.true

pub returns-then-elements-lt1-clause-malformed : goal.returns-then-elements-lt1-clause-malformed
returns-then-elements-lt1-clause-malformed c e items r =
    omega (
      arith,
      as_many c.one_reading.ensures.law hook HookIs 10 c.args.bytes.now c.args.elements.now c.requires.array items r.0,
      r.1,
      c.if-elements-lt1.true,
    )

pub loop-element-preserved : goal.loop-element-preserved
loop-element-preserved c =
    more_read hook HookIs c.args.bytes.now c.args.elements.now c.loop-element.element-index _ c.loop-element.hooks
    c.push.new.self c.in-Ok.hook c.loop-element-test.true c.loop-element.invariant c.in-Ok.ensures.ok
    c.in_default.ensures.ok

pub returns-in-Err-clause-malformed : goal.returns-in-Err-clause-malformed
returns-in-Err-clause-malformed c e items r =
    refused_there c.one_reading.ensures.law hook HookIs 10 c.args.bytes.now c.args.elements.now
    c.loop-element.element-index _ c.requires.array c.loop-element-test.true (c.in-Err.ensures.malformed (cc)) items r.0

pub returns-clause-ok : goal.returns-clause-ok
returns-clause-ok c =
    let are : AreElements hook HookIs 10 c.args.bytes.now c.loop-element.hooks =
    whole_read hook HookIs 10 c.args.bytes.now c.args.elements.now c.loop-element.element-index c.loop-element.hooks
    c.requires.array c.if-elements-gt-MOST.false c.loop-element-test.false c.loop-element.invariant in (
      are,
      omega (
        arith,
        as_many c.one_reading.ensures.law hook HookIs 10 c.args.bytes.now c.args.elements.now c.requires.array
            c.loop-element.hooks are,
        c.if-elements-lt1.false,
      ),
    )
