use Rattle.std.proofs.Common.{ap}
use Rattle.xo_fields.specs.Form.{form_at}
use Rattle.xo_object.proofs.Values.{amount_begins, given_amount, amount_of}
use Rattle.xo_object.proofs.reading.amount_at.Goals as goal

pub value_at-requires : goal.value_at-requires
value_at-requires c = ap form_at c.requires

pub returns-in-Cut : goal.returns-in-Cut
returns-in-Cut c = record {
  amount = absurd (c.in-Cut.ensures.read.0 (amount_begins c.in-Some.value.now c.in-Some.ensures.fits));
}

pub returns-in-Bad : goal.returns-in-Bad
returns-in-Bad c = record {
  amount = absurd (c.in-Bad.ensures.read.0 (amount_begins c.in-Some.value.now c.in-Some.ensures.fits));
}

pub returns-in-Amount : goal.returns-in-Amount
returns-in-Amount c = record {
  amount =
      given_amount _ c.in-Some.value.now c.in-Amount.amount c.in-Some.ensures.found
      (amount_of c.one_amount.ensures.law c.in-Some.value.now c.in-Amount.amount _ c.in-Some.ensures.fits
      c.in-Amount.ensures.read);
}
