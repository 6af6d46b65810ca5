use Rattle.std.proofs.Common.{arith}
use Rattle.wa_decode.proofs.Powers.{at_most, high_fits}
use Rattle.wa_decode.proofs.numbers.+unsigned.Goals as goal

pub overflow_mul-result : goal.overflow_mul-result
overflow_mul-result t c =
    omega (
      arith,
      high_fits c.args.bits c.in_ok-high.high (omega arith) c.in_ok-high.ensures.fits,
      at_most c.args.bits 32 c.requires.bits,
    )

pub overflow_add-result : goal.overflow_add-result
overflow_add-result t c =
    omega (
      arith,
      high_fits c.args.bits c.in_ok-high.high (omega arith) c.in_ok-high.ensures.fits,
      at_most c.args.bits 32 c.requires.bits,
      c.type_inv.bytes 0,
    )

pub returns-clause-fits : goal.returns-clause-fits
returns-clause-fits t c =
    omega (arith, high_fits c.args.bits c.in_ok-high.high (omega arith) c.in_ok-high.ensures.fits, c.type_inv.bytes 0)
