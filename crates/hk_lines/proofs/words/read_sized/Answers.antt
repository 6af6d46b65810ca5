use Rattle.std.proofs.Common.{◌∙◌, ap}
use Rattle.std.specs.Result.{result_ok}
use Rattle.hk_lines.proofs.HexWords.{decode_sized-is, result_ok-is}
use Rattle.hk_lines.proofs.words.read_sized.Goals as goal

-- what was read into room for so many bytes
pub returns : goal.returns
returns g c = record {
  bytes =
      c.ok.ensures.value ∙ ap result_ok c.from_hex.ensures ∙ result_ok-is _ ∙ decode_sized-is c.args.word.now g.row.N;
}
