use Rattle.std.proofs.Common.{◌∙◌}
use Rattle.hk_demo.proofs.Playing.{summed}
use Rattle.hk_demo.proofs.whole.demo.Goals as goal

pub returns : goal.returns
returns c = record {
  summary =
      c.summary.ensures.told
      ∙ summed c.args.n c.new-play.result c.begin.new.play c.pay.new.play c.line.new.self c.new-play.ensures.begun
      c.in_ok-begin.ensures.ok c.in_ok-pay.ensures.ok c.in_ok-line.ensures.ok;
}
