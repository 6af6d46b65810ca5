use Rattle.std.proofs.Common.{arith}
use Rattle.wa_decode.proofs.ModuleReaders.{found_of, malformed_of}
use Rattle.wa_decode.proofs.Soundness.{bytes_of, sound_of}
use Rattle.wa_decode.proofs.decoding.decode.Goals as goal

pub returns : goal.returns
returns c =
    let found = found_of c.args.bytes.now c.module.result c.module.ensures in
    record {
      found = found;
      sound =
          sound_of c.args.bytes.now c.module.result (bytes_of c.args.bytes.now (λ i. omega (arith, c.type_inv.bytes i)))
          found;
      malformed = malformed_of c.args.bytes.now c.module.result c.module.ensures;
    }
