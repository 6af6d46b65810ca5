use Rattle.std.proofs.Common.{refl, sym, ap, ◌∙◌}
use Rattle.serde_json.specs.Data.{string}
use Rattle.serde_json.specs.View.{view}
use Rattle.xo_json.proofs.PlainValues.{is_hex, no_hex}
use Rattle.xo_json.proofs.Numbers.{text_is}
use Rattle.xo_json.proofs.plain.read_hex.Goals as goal

-- a text that isn't hex
pub returns-in-None : goal.returns-in-None
returns-in-None c = record {
  hex = λ other. (
    refl,
    λ bytes small shows.
        no_hex (view c.args.value.now) c.as_bytes.result.now bytes
        (text_is _ _ (sym c.in-Some.ensures) ∙ ap string (sym c.as_bytes.ensures.value))
        (rw c.in-None.is at (sym c.in-Ok.ensures.bytes)) small shows,
  );
}

pub returns-in-Some-found : goal.returns-in-Some-found
returns-in-Some-found c = record {
  hex = is_hex (view c.args.value.now) c.as_bytes.result.now c.in-Some-found.bytes.items
      (text_is _ _ (sym c.in-Some.ensures) ∙ ap string (sym c.as_bytes.ensures.value))
      (rw c.in-Some-found.is at (sym c.in-Ok.ensures.bytes));
}
