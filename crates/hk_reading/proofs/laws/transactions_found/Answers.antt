use Rattle.hk_reading.proofs.OneReading.{transactions_found}
use Rattle.hk_reading.proofs.laws.transactions_found.Goals as goal

pub returns : goal.returns
returns c = record { law = transactions_found }
