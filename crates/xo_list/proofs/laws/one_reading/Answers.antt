use Rattle.xo_list.proofs.OneWay.{one_way}
use Rattle.xo_list.proofs.laws.one_reading.Goals as goal

pub returns : goal.returns
returns c =
    record {
      law =
          one_way (record {
            header = c.one_header.ensures.law;
            header_read = c.one_header_read.ensures.law;
            length = c.one_length.ensures.law;
            length_read = c.one_length_read.ensures.law;
            amount = c.one_amount.ensures.law;
            amount_read = c.one_amount_read.ensures.law;
          });
    }
