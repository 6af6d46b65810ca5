use Rattle.std.proofs.Common.{◌≡◌, refl, arith, length}
use Rattle.serde_json.specs.View.{view}
use Rattle.xo_json.proofs.PlainValues.{hex_length}
use Rattle.xo_json.proofs.plain.read_account.Goals as goal

-- more bytes or fewer
pub returns-then-len-ne-ACCOUNT_SIZE : goal.returns-then-len-ne-ACCOUNT_SIZE
returns-then-len-ne-ACCOUNT_SIZE c = record {
  value = λ room other. (
    refl,
    λ value s.
        let long : length value ≡ length c.in-Ok.bytes.items =
        hex_length (view c.args.value.now) c.in-Ok.bytes.items value c.in-Ok.ensures.hex s.bytes s.shows in
        c.if-len-ne-ACCOUNT_SIZE.true (omega (arith, s.fits, c.len.ensures)),
  );
}
