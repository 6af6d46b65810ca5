use Rattle.std.proofs.Common.{◌≡◌, ◌<◌, length, arith}
use Rattle.hk_bound.proofs.Ruled.{hook_within}
use Rattle.hk_bound.proofs.entries.hook_entry.Goals as goal

pub function_entry-requires-clause-function : goal.function_entry-requires-clause-function
function_entry-requires-clause-function c =
    let within : c.args.guards.now.hook < length c.args.module.now.functions =
    hook_within c.args.module.now c.args.guards.now.hook c.requires.ruled c.requires.guards.hook in
    let paired : length c.args.module.now.codes ≡ length c.args.module.now.functions = c.requires.sound.paired in
    omega (arith, within, paired)
