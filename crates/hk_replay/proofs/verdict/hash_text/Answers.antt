use Rattle.hk_base.proofs.HexText.{encode_lower-is}
use Rattle.hk_replay.proofs.verdict.hash_text.Goals as goal

-- the crate `hex` writes the text of the definition
pub returns : goal.returns
returns c = record { text = rw (← (encode_lower-is c.args.hash.now.0)) c.encode.ensures }
