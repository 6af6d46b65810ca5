use Rattle.hk_replay.proofs.Ranges.{range}
use Rattle.hk_replay.proofs.replaying.read_in_range.Goals as goal

pub returns-clause-range : goal.returns-clause-range
returns-clause-range c =
    range c.reads_spelled.ensures.law c.args.taken c.args.line.now c.read_if.result c.read_if.ensures.read
