use Rattle.std.proofs.Common.{sym}
use Rattle.xo_fields.specs.declared.header.HeaderRead.TheVariants.{Header}
use Rattle.xo_list.proofs.Parts.{header_stands}
use Rattle.xo_list.proofs.skip.start_of.Goals as goal

pub returns-in-Some-clause-start : goal.returns-in-Some-clause-start
returns-in-Some-clause-start c =
    (Header c.in-Header.field c.in-Header.size, c.in-Header.ensures.read, c.in-Some.ensures.allowed c.in-Header.size)

pub returns-in-Some-form_of-clause-start : goal.returns-in-Some-form_of-clause-start
returns-in-Some-form_of-clause-start c =
    header_stands c.args.array c.args.last c.in-Header.field c.in-Some-form_of.form c.args.bytes.now c.args.at
    c.in-Header.size c.in-Header.ensures.read (sym c.in-Some-form_of.ensures.form) c.in_default.ensures.allowed
