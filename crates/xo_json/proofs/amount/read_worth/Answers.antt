use Rattle.std.proofs.Common.{◌≡◌, refl, sym, ap, subst, ◌∙◌}
use Rattle.serde_json.specs.View.{view}
use Rattle.xo_fields.specs.Amount.{IsAmount}
use Rattle.xo_json.specs.Parts.{issued_bytes}
use Rattle.xo_json.proofs.Compared.{never_true}
use Rattle.xo_json.proofs.AmountValues.{bits_one}
use Rattle.xo_json.proofs.amount.read_worth.Goals as goal

-- bits that are no decimal's
pub returns-then-not-is_amount : goal.returns-then-not-is_amount
returns-then-not-is_amount c = record {
  worth = λ other. (
    refl,
    λ bytes w.
        let same : w.bits ≡ c.in-Ok.bits =
        bits_one (view c.args.value.now) w.bits c.in-Ok.bits w.small c.in-Ok.ensures.bits.0 w.shows
        c.in-Ok.ensures.bits.1 in
        never_true c.is_amount.result (c.is_amount.ensures.amount.1 (subst IsAmount
        (w.is
        ∙ ap (λ n. issued_bytes n c.args.currency.now c.args.issuer.now) same
        ∙ sym c.in-Ok-issued.ensures.bytes
        ∙ sym c.as_slice.ensures.value) w.amount))
        c.if-not-is_amount.true,
  );
}
