use Rattle.hk_asm.proofs.Telling.{shown_late}
use Rattle.hk_asm.proofs.laws.shown_late.Goals as goal

pub returns : goal.returns
returns c = record { law = shown_late }
