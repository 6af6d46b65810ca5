use Rattle.std.proofs.Common.{◌∙◌, true, false, sym, ap}
use Rattle.std.proofs.Math.ListN.{drop_of_length-le}
use Rattle.wa_ops.specs.Typing.{all_carry}
use Rattle.wa_validate.proofs.Carrying.{carries_one}
use Rattle.wa_validate.proofs.labels.Labels.all_carry.Goals as goal

pub returns-then-not-carries : goal.returns-then-not-carries
returns-then-not-carries c = record {
  all =
      sym (c.loop-label.invariant
      ∙ carries_one c.args.self.now c.args.carried c.args.labels.now c.loop-label.label-index c.carries.result false
      c.loop-label-test.true c.carries.ensures.carries c.if-not-carries.true);
}

pub loop-label-preserved : goal.loop-label-preserved
loop-label-preserved c =
    c.loop-label.invariant
    ∙ carries_one c.args.self.now c.args.carried c.args.labels.now c.loop-label.label-index c.carries.result true
    c.loop-label-test.true c.carries.ensures.carries c.if-not-carries.false

pub returns : goal.returns
returns c = record {
  all =
      sym (c.loop-label.invariant
      ∙ ap (all_carry c.args.self.now c.args.carried) (drop_of_length-le c.args.labels.now c.loop-label-test.false));
}
