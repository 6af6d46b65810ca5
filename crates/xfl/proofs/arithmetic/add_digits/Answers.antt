use Rattle.std.proofs.Common.{arith, rules, sym, ◌<◌, ◌^◌, ◌*◌}
use Rattle.xfl.proofs.Wholes.{all_added, few_added, ten_rises}
use Rattle.xfl.proofs.arithmetic.add_digits.Goals as goal

pub returns-then-added-gt22 : goal.returns-then-added-gt22
returns-then-added-gt22 c =
    sym (all_added c.args.mantissa c.args.added (c.requires.some c.if-added-gt22.true) c.if-added-gt22.true)

pub pow-requires : goal.pow-requires
pow-requires c = omega (arith, ten_rises c.args.added 22 c.if-added-gt22.false)

pub overflow_mul-whole : goal.overflow_mul-whole
overflow_mul-whole c =
    let fits : c.from.result * c.pow.result < 2 ^ 128 =
    rw (c.from.ensures, c.pow.ensures)
    (few_added c.args.mantissa c.args.added c.requires.short c.if-added-gt22.false) in
    search rules
