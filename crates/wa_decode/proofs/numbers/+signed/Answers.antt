use Rattle.std.proofs.Common.{ℕ, ◌-◌, ◌*◌, ◌^◌, ◌<◌, ◌≤◌, get_or, arith}
use Rattle.wa_decode.proofs.Powers.{at_most, half_seven_more, product_fits, tidy, signed_more, in_range_more}
use Rattle.wa_decode.proofs.numbers.+signed.Goals as goal

within : (bits : ℕ) → 7 < bits → bits ≤ 64 → 128 * 2 ^ (bits - 7 - 1) ≤ 2 ^ 63
within bits h m = omega (arith, half_seven_more bits h, at_most (bits - 1) 63 (omega arith))

pub overflow_mul-result : goal.overflow_mul-result
overflow_mul-result t c =
    product_fits _ _ c.in_ok-high.ensures.fits.0 c.in_ok-high.ensures.fits.1
    (within c.args.bits (omega arith) (omega arith))

pub returns-clause-number : goal.returns-clause-number
returns-clause-number t c =
    signed_more c.args.bits c.args.bytes.now c.in_ok-high.high _ c.in_ok-high.rest.now c.in-len1-up.len_at_least
    (omega arith) (omega arith) c.in_ok-high.ensures.number
    (tidy (2 ^ (c.args.bits - 7 - 1)) (get_or c.args.bytes.now 0 0 - 128) c.in_ok-high.high c.from-2.result
    c.in_ok-high.ensures.fits.0 c.in_ok-high.ensures.fits.1 (within c.args.bits (omega arith) (omega arith))
    c.from-2.ensures (omega (arith, c.type_inv.bytes 0)))

pub returns-clause-fits : goal.returns-clause-fits
returns-clause-fits t c =
    in_range_more (2 ^ (c.args.bits - 7 - 1)) (2 ^ (c.args.bits - 1)) (get_or c.args.bytes.now 0 0 - 128)
    c.in_ok-high.high _ c.in_ok-high.ensures.fits.0 c.in_ok-high.ensures.fits.1
    (half_seven_more c.args.bits (omega arith)) (omega (arith, c.type_inv.bytes 0))
    (tidy (2 ^ (c.args.bits - 7 - 1)) (get_or c.args.bytes.now 0 0 - 128) c.in_ok-high.high c.from-2.result
    c.in_ok-high.ensures.fits.0 c.in_ok-high.ensures.fits.1 (within c.args.bits (omega arith) (omega arith))
    c.from-2.ensures (omega (arith, c.type_inv.bytes 0)))
