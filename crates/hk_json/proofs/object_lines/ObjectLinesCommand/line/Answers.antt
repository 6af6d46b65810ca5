use Rattle.std.proofs.Common.{codes, sym, ◌∙◌}
use Rattle.hk_lines.specs.Taken.{begins}
use Rattle.hk_lines.specs.Words.{words_of}
use Rattle.hk_json.specs.Turns.{bytes_of, bytes_step, closing}
use Rattle.hk_json.proofs.Reading.{first_taken}
use Rattle.hk_json.proofs.object_lines.ObjectLinesCommand.line.Goals as goal

pub returns-then-begins-clause-did : goal.returns-then-begins-clause-did
returns-then-begins-clause-did c =
    first_taken (begins c.args.line.now (codes "obj")) (bytes_step (bytes_of (words_of c.args.line.now)))
    (closing c.args.line.now) c.show.result _ _ (sym c.begins.ensures.begins ∙ c.if-begins.true) c.show.ensures.did
