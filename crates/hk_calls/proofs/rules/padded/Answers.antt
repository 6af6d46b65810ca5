use Rattle.hk_calls.proofs.RuleLemmas.{padded_is}
use Rattle.hk_calls.proofs.rules.padded.Goals as goal

pub returns : goal.returns
returns c = padded_is 32 c.args.bytes.now _ c.copy_from_slice.ensures.after c.requires
