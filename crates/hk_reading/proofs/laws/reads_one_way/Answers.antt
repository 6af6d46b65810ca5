use Rattle.hk_reading.proofs.OneReading.{reads_so, reads_only_so}
use Rattle.hk_reading.proofs.laws.reads_one_way.Goals as goal

pub returns-clause-so : goal.returns-clause-so
returns-clause-so c = reads_so

pub returns-clause-only_so : goal.returns-clause-only_so
returns-clause-only_so c = reads_only_so
