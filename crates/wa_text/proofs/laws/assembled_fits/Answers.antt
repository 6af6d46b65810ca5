use Rattle.wa_text.proofs.Fitting.{assembled_fits}
use Rattle.wa_text.proofs.laws.assembled_fits.Goals as goal

pub returns : goal.returns
returns c = record { law = assembled_fits }
