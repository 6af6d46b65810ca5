use Rattle.std.proofs.Common.{refl, sym, ap, ◌∙◌, subst, length}
use Rattle.serde_json.specs.View.{view, members_view}
use Rattle.xo_fields.specs.declared.form.Form.TheVariants.{Account}
use Rattle.xo_told.specs.Reading.{ShowsValue}
use Rattle.xo_json.proofs.AmountValues.{no_parts, parts_need, issued_read}
use Rattle.xo_json.proofs.amount.read_issued.Goals as goal

-- other members
pub returns-in_default : goal.returns-in_default
returns-in_default c = record {
  value =
      λ room other. (
        refl,
        λ value s.
            no_parts room (members_view c.args.members.now.entries) value
            (rw c.in_default.is at c.parts_of.ensures.parts) s,
      );
}

-- no currency
pub returns-in-Err : goal.returns-in-Err
returns-in-Err c = record {
  value = λ room other.
      let fails = c.in-Err.ensures.value room other in (
        fails.0,
        λ value s.
            let needs =
            parts_need room (members_view c.args.members.now.entries) _ _ _ value c.in-Some.ensures.parts s in
            fails.1 needs.currency needs.currency_shows,
      );
}

-- no issuer
pub returns-in-Err-read_account : goal.returns-in-Err-read_account
returns-in-Err-read_account c = record {
  value = λ room other.
      let fails = c.in-Err-read_account.ensures.value room other in (
        fails.0,
        λ value s.
            let needs =
            parts_need room (members_view c.args.members.now.entries) _ _ _ value c.in-Some.ensures.parts s in
            fails.1 needs.issuer needs.issuer_shows,
      );
}

pub read_worth-requires-clause-currency : goal.read_worth-requires-clause-currency
read_worth-requires-clause-currency c = ap length c.as_slice.ensures.value ∙ (c.in-Ok.ensures.value 0).fits

pub read_worth-requires-clause-issuer : goal.read_worth-requires-clause-issuer
read_worth-requires-clause-issuer c =
    ap length c.as_slice-in-Ok-read_account.ensures.value ∙ (c.in-Ok-read_account.ensures.value 0).fits

pub returns : goal.returns
returns c = record {
  value = λ room.
      issued_read room (members_view c.args.members.now.entries) (view c.in-Some.currency.now)
      (view c.in-Some.issuer.now) (view c.in-Some.value.now)
      c.as_slice.result.now c.as_slice-in-Ok-read_account.result.now c.read_worth.result c.in-Some.ensures.parts
      (subst (ShowsValue room Account (view c.in-Some.currency.now)) (sym c.as_slice.ensures.value)
      (c.in-Ok.ensures.value room))
      (subst (ShowsValue room Account (view c.in-Some.issuer.now)) (sym c.as_slice-in-Ok-read_account.ensures.value)
      (c.in-Ok-read_account.ensures.value room))
      c.read_worth.ensures.worth;
}
