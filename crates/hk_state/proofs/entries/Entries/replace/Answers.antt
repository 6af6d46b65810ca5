use Rattle.std.specs.FinMap as map
use Rattle.hk_state.proofs.Told.{certain}
use Rattle.hk_state.proofs.entries.Entries.replace.Goals as goal

pub returns : goal.returns
returns c = record {
  replaced =
      certain c.put-known.result (map.get c.args.self.now c.args.key) c.put-known.ensures.ok c.put-known.ensures.absent
      c.requires.there;
}
