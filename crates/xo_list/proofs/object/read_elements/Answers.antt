use Rattle.xo_list.proofs.Collecting.{array_read}
use Rattle.xo_list.proofs.OneList.{elements_or_fault}
use Rattle.xo_list.proofs.object.read_elements.Goals as goal

pub returns-in-Err-clause-fault : goal.returns-in-Err-clause-fault
returns-in-Err-clause-fault c other h =
    elements_or_fault c.one_reading.ensures.law c.args.bytes.now c.in-Err.fault (c.in-Err.ensures.fault other) h

pub returns-in-Ok-clause-ok : goal.returns-in-Ok-clause-ok
returns-in-Ok-clause-ok c = array_read c.args.bytes.now c.in-Ok.spans.items c.in-Ok.ensures.ok
