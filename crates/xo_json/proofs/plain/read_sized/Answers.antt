use Rattle.std.proofs.Common.{◌≡◌, refl, ◌∙◌, arith, length}
use Rattle.serde_json.specs.View.{view}
use Rattle.xo_json.proofs.PlainValues.{hex_length, fixed_hex}
use Rattle.xo_json.proofs.plain.read_sized.Goals as goal

-- more bytes or fewer
pub returns-then-len-size : goal.returns-then-len-size
returns-then-len-size c = record {
  value = λ room other. (
    refl,
    λ value s.
        let long : length value ≡ length c.in-Ok.bytes.items =
        hex_length (view c.args.value.now) c.in-Ok.bytes.items value c.in-Ok.ensures.hex s.bytes
        (s.shows ∙ fixed_hex c.args.size value c.requires) in
        c.if-len-size.true (omega (arith, s.fits, c.len.ensures)),
  );
}
