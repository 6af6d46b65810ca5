use Rattle.wa_decode.proofs.ModuleReaders.{one_module}
use Rattle.wa_decode.proofs.decoding.one_module.Goals as goal

pub returns : goal.returns
returns c = record { law = one_module }
