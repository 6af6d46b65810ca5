use Rattle.std.proofs.Common.{rules}
use Rattle.std.proofs.lemmas.Int.{to_z-of_z}
use Rattle.std.specs.Int.{w64}
use Rattle.hk_api_pure.proofs.FloatLemmas.{no_float}
use Rattle.hk_api_pure.proofs.floats.float.Goals as goal

pub returns-in-None : goal.returns-in-None
returns-in-None c = no_float c.args.bits _ (to_z-of_z w64 c.args.bits (search rules)) c.in-None.ensures.none
