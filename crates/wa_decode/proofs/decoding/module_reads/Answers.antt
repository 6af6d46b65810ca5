use Rattle.wa_decode.proofs.ModuleReaders.{module_back, module_forth}
use Rattle.wa_decode.proofs.decoding.module_reads.Goals as goal

pub returns : goal.returns
returns c = record { law = λ m bytes. (module_forth m bytes, module_back bytes m) }
