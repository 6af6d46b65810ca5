use Rattle.std.proofs.Common.{◌≡◌}
use Rattle.xo_object.specs.declared.reading.TransactionFault.TheVariants.{Malformed}
use Rattle.xo_list.proofs.OneList.{fields_or_fault}
use Rattle.xo_object.proofs.reading.nested_object.Goals as goal

pub returns-in-Err-clause-malformed : goal.returns-in-Err-clause-malformed
returns-in-Err-clause-malformed c e h =
    let same : c.fault_of.result ≡ Malformed = cc in
    fields_or_fault c.one_reading.ensures.law 10 c.args.bytes.now c.in-Err.fault
    (c.in-Err.ensures.fault (c.fault_of.ensures.malformed same)) h
