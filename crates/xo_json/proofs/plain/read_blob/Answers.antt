use Rattle.std.proofs.Common.{◌≡◌, refl, arith, length}
use Rattle.serde_json.specs.View.{view}
use Rattle.xo_json.proofs.PlainValues.{hex_length}
use Rattle.xo_json.proofs.plain.read_blob.Goals as goal

-- more bytes than the longest blob has
pub returns-then-len-gt-LONGEST : goal.returns-then-len-gt-LONGEST
returns-then-len-gt-LONGEST c = record {
  value = λ room other. (
    refl,
    λ value s.
        let long : length value ≡ length c.in-Ok.bytes.items =
        hex_length (view c.args.value.now) c.in-Ok.bytes.items value c.in-Ok.ensures.hex s.bytes s.shows in
        omega (arith, s.fits, c.len.ensures),
  );
}
