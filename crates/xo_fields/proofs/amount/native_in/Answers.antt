use Rattle.std.proofs.Common.{arith}
use Rattle.xo_fields.proofs.AmountBytes.{native_cut}
use Rattle.xo_fields.proofs.amount.native_in.Goals as goal

pub returns-then-bytes-lt-NUMBER_SIZE : goal.returns-then-bytes-lt-NUMBER_SIZE
returns-then-bytes-lt-NUMBER_SIZE c =
    native_cut c.args.bytes.now (λ i. omega (arith, c.type_inv.bytes i)) c.requires.some c.requires.low c.requires.high
    c.if-bytes-lt-NUMBER_SIZE.true
