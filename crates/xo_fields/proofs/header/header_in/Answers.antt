use Rattle.std.proofs.Common.{sym, arith}
use Rattle.xo_fields.proofs.HeaderBytes.{header_cut, header_bad, header_known, header_unknown}
use Rattle.xo_fields.proofs.header.header_in.Goals as goal

pub returns-in-Cut : goal.returns-in-Cut
returns-in-Cut c = header_cut c.args.bytes.now (sym c.in-Cut.ensures) (λ i. omega (arith, c.type_inv.bytes i))

pub returns-in-Bad : goal.returns-in-Bad
returns-in-Bad c = header_bad c.args.bytes.now (sym c.in-Bad.ensures)

pub returns-in-None : goal.returns-in-None
returns-in-None c =
    header_unknown c.args.bytes.now c.in-Header.field c.in-Header.size (sym c.in-Header.ensures)
    (sym c.in-None.ensures.form) (λ i. omega (arith, c.type_inv.bytes i))

pub returns-in-Some : goal.returns-in-Some
returns-in-Some c =
    header_known c.args.bytes.now c.in-Header.field c.in-Header.size c.in-Some.field-0 (sym c.in-Header.ensures)
    (sym c.in-Some.ensures.form) (λ i. omega (arith, c.type_inv.bytes i))
