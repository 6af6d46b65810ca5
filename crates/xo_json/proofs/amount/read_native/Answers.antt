use Rattle.std.proofs.Common.{refl, sym, ap, subst, ◌∙◌, arith}
use Rattle.serde_json.specs.Data.{string}
use Rattle.xo_fields.specs.declared.form.Form.TheVariants.{Money}
use Rattle.xo_told.specs.Reading.{ShowsValue}
use Rattle.xo_json.proofs.AmountValues.{native_shows, native_needs}
use Rattle.xo_json.proofs.amount.read_native.Goals as goal

-- a text that is no decimal, or one of more drops than there may be
pub returns-in-Ok-None : goal.returns-in-Ok-None
returns-in-Ok-None c = record {
  value = λ room other. (
    refl,
    λ value s.
        let needs = native_needs room c.args.text.now value s in
        (rw c.in-Ok-None.field-0-is at c.in-Ok-None.ensures.number) needs.0 (omega (arith, needs.1)) needs.2,
  );
}

pub returns-in-Ok : goal.returns-in-Ok
returns-in-Ok c = record {
  value = λ room.
      let told = rw c.in-Ok-Some.field-0-is at c.in-Ok-Some.ensures.number in
      subst (ShowsValue room Money (string c.args.text.now)) (sym (c.in-Ok.ensures.items ∙ c.to_be_bytes.ensures))
      (native_shows room c.in-Ok-Some.drops (string c.args.text.now) (omega (arith, told.0)) (ap string told.1));
}
