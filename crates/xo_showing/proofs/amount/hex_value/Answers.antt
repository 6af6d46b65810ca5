use Rattle.std.proofs.Common.{ap, ◌∙◌}
use Rattle.serde_json.specs.Data.{string}
use Rattle.hk_base.proofs.HexText.{encode_lower-is}
use Rattle.xo_showing.proofs.amount.hex_value.Goals as goal

pub returns : goal.returns
returns c = record { hex = c.from.ensures ∙ ap string (c.in_ok-encode.ensures ∙ encode_lower-is c.args.bytes.now) }
