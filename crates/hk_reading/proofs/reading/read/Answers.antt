use Rattle.hk_reading.proofs.OneReading.{read_so}
use Rattle.hk_reading.proofs.reading.read.Goals as goal

pub returns-clause-reading : goal.returns-clause-reading
returns-clause-reading c = read_so c.args.bytes.now c.read_by_relation.result c.read_by_relation.ensures.relation
