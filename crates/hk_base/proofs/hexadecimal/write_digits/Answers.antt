use Rattle.std.proofs.Common.{◌≡◌, ℕ, ◌-◌, List, ◌++◌, take, drop, length, ap, append-nil, ◌∙◌, arith, length-drop}
use Rattle.std.proofs.lemmas.List.{drop_all}
use borrow.Rule.Slice.PartMut.{put_mid}
use Rattle.hk_base.proofs.HexText.{encode_lower-is}
use Rattle.hk_base.proofs.hexadecimal.write_digits.Goals as goal

-- what is written over the end of a text ends it
put_mid-end : (start : ℕ) (text digits : List ℕ) →
    put_mid start (length text - start) text digits ≡ take start text ++ digits
put_mid-end start text digits =
    ap (λ rest. take start text ++ (digits ++ rest))
    (drop_all (length text - start) (drop start text) (omega (arith, length-drop start text)))
    ∙ ap (λ rest. take start text ++ rest) (append-nil digits)

pub returns : goal.returns
returns c = record {
  digits = put_mid-end c.args.start c.args.text.now c.encode_to_slice.new.output
      ∙ ap (λ digits. take c.args.start c.args.text.now ++ digits)
      (c.in-Ok.ensures.written ∙ encode_lower-is c.args.bytes.now);
}
