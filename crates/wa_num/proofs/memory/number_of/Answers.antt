use Rattle.std.proofs.Common.{◌≡◌, ◌<◌, ◌^◌, arith, length, ap, subst, sym, ◌∙◌}
use Rattle.std.specs.Int.{w64, from_le_bytes}
use Rattle.wa_num.proofs.Numbers.{little_widened, little_below}
use Rattle.wa_num.proofs.memory.number_of.Goals as goal

pub returns : goal.returns
returns c =
    let h : c.from_le_bytes.result ≡ from_le_bytes w64 c.widened.result = c.from_le_bytes.ensures in
    let n = h ∙ ap (from_le_bytes w64) c.widened.ensures.bytes ∙ little_widened _ c.requires.width in
    record {
      number = n;
      fits =
          subst (λ m. m < 256 ^ length c.args.bytes.now) (sym n)
          (little_below c.args.bytes.now (λ i. let t = c.type_inv.bytes i in omega (arith, t)) c.requires.width);
    }
