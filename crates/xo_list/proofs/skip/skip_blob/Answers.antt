use Rattle.xo_list.proofs.Parts.{blob_valued, length_before}
use Rattle.xo_list.proofs.skip.skip_blob.Goals as goal

pub returns-else-bytes-from-clause-value : goal.returns-else-bytes-from-clause-value
returns-else-bytes-from-clause-value c =
    blob_valued c.args.bytes.now c.args.at c.in-Length.length c.in-Length.size c.in-Length.ensures.read
    c.if-bytes-from.false c.requires

pub returns-else-bytes-from-clause-place : goal.returns-else-bytes-from-clause-place
returns-else-bytes-from-clause-place c =
    length_before c.args.bytes.now c.args.at c.in-Length.length c.in-Length.size c.in-Length.ensures.read
    c.if-bytes-from.false c.requires
