use Rattle.hk_emit.proofs.Judging.{accepted_emission}
use Rattle.hk_emit.proofs.laws.accepted_reads.Goals as goal

pub returns : goal.returns
returns c = record { law = accepted_emission c.one_header.ensures.law }
