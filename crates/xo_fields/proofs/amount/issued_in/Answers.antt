use Rattle.std.proofs.Common.{sym, ap, ◌∙◌, arith}
use Rattle.std.specs.Int.{w64, from_be_bytes}
use Rattle.xo_fields.proofs.AmountBytes.{no_decimal, decimal_past, decimal_cut, decimal_there}
use Rattle.xo_fields.proofs.amount.issued_in.Goals as goal

pub returns-in-None : goal.returns-in-None
returns-in-None c =
    no_decimal c.args.bytes.now c.from_be_bytes-low.result c.from_be_bytes-high.result
    (record {
      some = c.requires.some;
      first = c.requires.low;
      small = λ i. omega (arith, c.type_inv.bytes i);
      low_is = c.from_be_bytes-low.ensures ∙ ap (λ x. from_be_bytes w64 x) c.padded.ensures;
      high_is = c.from_be_bytes-high.ensures ∙ ap (λ x. from_be_bytes w64 x) c.padded-2.ensures;
    })
    (sym c.in-None.is ∙ c.least_decimal.ensures)

pub returns-then-high-value : goal.returns-then-high-value
returns-then-high-value c =
    decimal_past c.args.bytes.now c.from_be_bytes-low.result c.from_be_bytes-high.result c.in-Some.value
    (record {
      some = c.requires.some;
      first = c.requires.low;
      small = λ i. omega (arith, c.type_inv.bytes i);
      low_is = c.from_be_bytes-low.ensures ∙ ap (λ x. from_be_bytes w64 x) c.padded.ensures;
      high_is = c.from_be_bytes-high.ensures ∙ ap (λ x. from_be_bytes w64 x) c.padded-2.ensures;
    })
    (sym c.in-Some.is ∙ c.least_decimal.ensures) c.if-high-value.true

pub returns-then-bytes-lt-ISSUED_SIZE : goal.returns-then-bytes-lt-ISSUED_SIZE
returns-then-bytes-lt-ISSUED_SIZE c =
    decimal_cut c.args.bytes.now c.from_be_bytes-low.result c.from_be_bytes-high.result c.in-Some.value
    (record {
      some = c.requires.some;
      first = c.requires.low;
      small = λ i. omega (arith, c.type_inv.bytes i);
      low_is = c.from_be_bytes-low.ensures ∙ ap (λ x. from_be_bytes w64 x) c.padded.ensures;
      high_is = c.from_be_bytes-high.ensures ∙ ap (λ x. from_be_bytes w64 x) c.padded-2.ensures;
    })
    (sym c.in-Some.is ∙ c.least_decimal.ensures) c.if-high-value.false c.if-bytes-lt-ISSUED_SIZE.true

pub returns-else-bytes-lt-ISSUED_SIZE : goal.returns-else-bytes-lt-ISSUED_SIZE
returns-else-bytes-lt-ISSUED_SIZE c =
    decimal_there c.args.bytes.now c.from_be_bytes-low.result c.from_be_bytes-high.result c.in-Some.value
    c.twenty.result c.twenty-else-bytes-lt-ISSUED_SIZE.result
    (record {
      some = c.requires.some;
      first = c.requires.low;
      small = λ i. omega (arith, c.type_inv.bytes i);
      low_is = c.from_be_bytes-low.ensures ∙ ap (λ x. from_be_bytes w64 x) c.padded.ensures;
      high_is = c.from_be_bytes-high.ensures ∙ ap (λ x. from_be_bytes w64 x) c.padded-2.ensures;
    })
    (sym c.in-Some.is ∙ c.least_decimal.ensures) c.if-high-value.false c.if-bytes-lt-ISSUED_SIZE.false c.twenty.ensures
    c.twenty-else-bytes-lt-ISSUED_SIZE.ensures
