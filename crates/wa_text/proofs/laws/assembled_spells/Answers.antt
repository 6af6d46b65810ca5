use Rattle.wa_text.proofs.Fitting.{assembled_spells}
use Rattle.wa_text.proofs.laws.assembled_spells.Goals as goal

pub returns : goal.returns
returns c = record { law = assembled_spells }
