use Rattle.xfl.proofs.Bits.{bits_give_back, decimal_gives_back}
use Rattle.xfl.proofs.laws.one_to_one.Goals as goal

pub returns-clause-bits : goal.returns-clause-bits
returns-clause-bits c = bits_give_back

pub returns-clause-decimals : goal.returns-clause-decimals
returns-clause-decimals c = decimal_gives_back
