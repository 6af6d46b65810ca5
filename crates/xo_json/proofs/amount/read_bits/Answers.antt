use Rattle.std.proofs.Common.{◌≡◌, refl, sym, ap, ◌∙◌, arith}
use Rattle.serde_json.specs.Data.{string}
use Rattle.serde_json.specs.View.{view}
use Rattle.xo_showing.specs.Shows.{lowered}
use Rattle.xo_json.proofs.AmountValues.{decimal_shows, decimal_shown}
use Rattle.xo_json.proofs.Numbers.{text_is}
use Rattle.xo_json.proofs.amount.read_bits.Goals as goal

-- a text that is no decimal, or one of a greater number
pub returns-in-Ok-None : goal.returns-in-Ok-None
returns-in-Ok-None c = record {
  bits = λ other. (
    refl,
    λ bits small shows.
        let is : view c.args.value.now ≡ string c.in-Some.text.now = text_is _ _ (sym c.in-Some.ensures) in
        (rw c.in-Ok-None.field-0-is at c.in-Ok-None.ensures.number) bits (omega arith)
        (decimal_shown c.in-Some.text.now bits (omega arith) (sym (ap lowered is) ∙ shows)),
  );
}

pub returns-in-Ok-Some : goal.returns-in-Ok-Some
returns-in-Ok-Some c = record {
  bits =
      let told = rw c.in-Ok-Some.field-0-is at c.in-Ok-Some.ensures.number in (
        omega (arith, told.0),
        decimal_shows (view c.args.value.now) c.in-Ok-Some.bits (omega (arith, told.0))
            (text_is _ _ (sym c.in-Some.ensures) ∙ ap string told.1),
      );
}
