use Rattle.std.proofs.Common.{◌∙◌}
use Rattle.wa_validate.proofs.Carrying.{not_aligned, not_less}
use Rattle.wa_validate.proofs.plain.is_aligned.Goals as goal

pub returns-else-align-lt4 : goal.returns-else-align-lt4
returns-else-align-lt4 c = record {
  aligned =
      not_less c.args.align c.if-align-lt4.false
      ∙ not_aligned c.args.align c.args.width c.if-align-lt4.false c.requires.width;
}
