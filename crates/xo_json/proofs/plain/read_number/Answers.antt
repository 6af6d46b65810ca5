use Rattle.std.proofs.Common.{◌-◌, refl, sym, ap, subst, ◌∙◌, arith, take, drop, replicate, length-drop}
use Rattle.std.specs.Int.{w64, to_be_bytes}
use Rattle.std.proofs.lemmas.List.{take-replicate, take_all}
use Rattle.serde_json.specs.View.{view}
use Rattle.xo_fields.specs.declared.form.Form.TheVariants.{Fixed}
use Rattle.xo_told.specs.Reading.{ShowsValue}
use Rattle.xo_json.proofs.PlainValues.{number_shows, no_number_shows}
use Rattle.xo_json.proofs.Compared.{compared_same, compared_other}
use Rattle.xo_json.proofs.Numbers.{number_is}
use Rattle.xo_json.proofs.plain.read_number.Goals as goal

-- a number of more bytes
pub returns-then-ne : goal.returns-then-ne
returns-then-ne c = record {
  value = λ room other. (
    refl,
    λ value s.
        let zeros =
        no_number_shows room c.in-Some.number c.args.size (view c.args.value.now) value c.requires
        (number_is _ _ (sym c.in-Some.ensures)) s in
        compared_other (take (8 - c.args.size) c.to_be_bytes-bytes.result) (take (8 - c.args.size) (replicate 8 0))
        c.if-ne.ensures
        (ap (take (8 - c.args.size)) c.to_be_bytes-bytes.ensures
        ∙ zeros
        ∙ sym (take-replicate (8 - c.args.size) 8 0 (omega arith))),
  );
}

pub returns-in-Ok : goal.returns-in-Ok
returns-in-Ok c = record {
  value = λ room.
      let front =
      compared_same (take (8 - c.args.size) c.to_be_bytes-bytes.result) (take (8 - c.args.size) (replicate 8 0))
      c.if-ne.ensures in
      let told =
      number_shows room c.in-Some.number c.args.size (view c.args.value.now) c.requires (omega arith)
      (number_is _ _ (sym c.in-Some.ensures))
      (sym (ap (take (8 - c.args.size)) c.to_be_bytes-bytes.ensures)
      ∙ front
      ∙ take-replicate (8 - c.args.size) 8 0 (omega arith)) in
      subst (ShowsValue room (Fixed c.args.size) (view c.args.value.now))
      (sym (c.in-Ok.ensures.items
      ∙ ap (λ bytes. take (8 - (8 - c.args.size)) (drop (8 - c.args.size) bytes)) c.to_be_bytes-bytes.ensures
      ∙ take_all (8 - (8 - c.args.size)) (drop (8 - c.args.size) (to_be_bytes w64 c.in-Some.number))
      (omega (arith, length-drop (8 - c.args.size) (to_be_bytes w64 c.in-Some.number))))) told;
}
