use Rattle.std.proofs.Common.{◌≡◌, ◌<◌, ◌∙◌, length, arith}
use Rattle.hk_bound.proofs.Ruled.{cbak_within}
use Rattle.hk_bound.proofs.checking.cbak_bound.Goals as goal

pub bound_at-bound-requires-clause-function : goal.bound_at-bound-requires-clause-function
bound_at-bound-requires-clause-function c =
    let within : c.in-Some.func < length c.args.module.now.functions =
    cbak_within c.args.module.now c.in-Some.func c.requires.ruled (c.requires.guards.cbak ∙ c.in-Some.is) in
    let paired : length c.args.module.now.codes ≡ length c.args.module.now.functions = c.requires.sound.paired in
    omega (arith, within, paired)
