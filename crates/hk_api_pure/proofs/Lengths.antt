-- A call keeps the memory's length.
use Rattle.hk_calls.proofs.Lengths.{length_stays}
use Rattle.hk_api_pure.specs.Laws.{PureKeepsLength}
use Rattle.hk_api_pure.specs.Table.{pure_output, pure_row, pure_call}

pub pure_keeps_length : PureKeepsLength
unfolding pure_row pure_call
pure_keeps_length row arguments m = length_stays arguments m (pure_output row arguments m)
