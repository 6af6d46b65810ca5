use Rattle.xo_list.proofs.Parts.{account_valued, account_before}
use Rattle.xo_list.proofs.skip.skip_account.Goals as goal

pub returns-else-bytes-from-lt20-clause-value : goal.returns-else-bytes-from-lt20-clause-value
returns-else-bytes-from-lt20-clause-value c =
    account_valued c.args.bytes.now c.args.at c.in-Length.length c.in-Length.size c.in-Length.ensures.read
    c.if-length-ne-ACCOUNT_SIZE.false c.if-bytes-from-lt20.false c.requires

pub returns-else-bytes-from-lt20-clause-place : goal.returns-else-bytes-from-lt20-clause-place
returns-else-bytes-from-lt20-clause-place c =
    account_before c.args.bytes.now c.args.at c.in-Length.length c.in-Length.size c.in-Length.ensures.read
    c.if-length-ne-ACCOUNT_SIZE.false c.if-bytes-from-lt20.false c.requires
