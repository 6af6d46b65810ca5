use Rattle.std.proofs.Common.{refl, sym, subst}
use Rattle.serde_json.specs.View.{view}
use Rattle.xo_fields.specs.declared.form.Form.TheVariants.{Money}
use Rattle.xo_json.specs.Parts.{ReadsValue}
use Rattle.xo_json.proofs.AmountValues.{no_money}
use Rattle.xo_json.proofs.Numbers.{text_is, object_is}
use Rattle.xo_json.proofs.amount.read_money.Goals as goal

pub returns-in-Some : goal.returns-in-Some
returns-in-Some c = record {
  value =
      λ room.
      subst (λ d. ReadsValue room Money d c.read_native.result)
      (sym (text_is (view c.args.value.now) _ (sym c.in-Some.ensures))) (c.read_native.ensures.value room);
}

-- neither a text nor an object
pub returns-in_default-as_object : goal.returns-in_default-as_object
returns-in_default-as_object c = record {
  value =
      λ room other. (
        refl,
        λ value s.
            no_money room (view c.args.value.now) value (sym c.in_default.ensures) (sym c.in_default-as_object.ensures)
            s,
      );
}

pub returns : goal.returns
returns c = record {
  value =
      λ room.
      subst (λ d. ReadsValue room Money d c.read_issued.result)
      (sym (object_is (view c.args.value.now) _ (sym c.in-Some-as_object.ensures))) (c.read_issued.ensures.value room);
}
