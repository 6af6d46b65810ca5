use Rattle.std.proofs.Common.{◌≡◌, ◌<◌, length, arith}
use Rattle.hk_bound.proofs.Ruled.{hook_within}
use Rattle.hk_bound.proofs.checking.hook_bound.Goals as goal

pub bound_at-bound-requires-clause-function : goal.bound_at-bound-requires-clause-function
bound_at-bound-requires-clause-function c =
    let within : c.args.guards.now.hook < length c.args.module.now.functions =
    hook_within c.args.module.now c.args.guards.now.hook c.requires.ruled c.requires.guards.hook in
    let paired : length c.args.module.now.codes ≡ length c.args.module.now.functions = c.requires.sound.paired in
    omega (arith, within, paired)
