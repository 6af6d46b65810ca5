use Rattle.std.proofs.Common.{◌≡◌, ◌<◌, ◌∙◌, length, arith}
use Rattle.hk_bound.proofs.Ruled.{cbak_within}
use Rattle.hk_bound.proofs.entries.cbak_entry.Goals as goal

pub function_entry-requires-clause-function : goal.function_entry-requires-clause-function
function_entry-requires-clause-function c =
    let within : c.in-Some.function < length c.args.module.now.functions =
    cbak_within c.args.module.now c.in-Some.function c.requires.ruled (c.requires.guards.cbak ∙ c.in-Some.is) in
    let paired : length c.args.module.now.codes ≡ length c.args.module.now.functions = c.requires.sound.paired in
    omega (arith, within, paired)
