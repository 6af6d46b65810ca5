use Rattle.hk_base.proofs.HexText.{encode_lower-is}
use Rattle.hk_lines.proofs.printing.write_hex.Goals as goal

-- the crate `hex` writes the text of the definition
pub returns : goal.returns
returns c = record {
  text = rw (← (encode_lower-is c.args.bytes.now)) c.encode.ensures;
}
