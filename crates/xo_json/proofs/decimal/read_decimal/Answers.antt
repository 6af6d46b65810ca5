use Rattle.std.proofs.Common.{◌≡◌, Ok, arith, sym, ap, ◌∙◌, decimal}
use Rattle.std.proofs.lemmas.Fmt.{parse-decimal}
use Rattle.xo_json.proofs.Compared.{compared_other}
use Rattle.xo_json.proofs.decimal.read_decimal.Goals as goal
use Rattle.xo_json.proofs.decimal.read_decimal.Goals.{then-number-most-via-then-number-most}
use Rattle.xo_json.proofs.decimal.read_decimal.Goals.{then-number-most-via-else-number-most+then-ne}

-- a text that doesn't parse is no decimal
pub returns-in_default : goal.returns-in_default
returns-in_default c = record {
  number =
      λ n low text.
      c.in_default.not-Ok n (parse-decimal 64 n _ _ (omega arith) (omega arith) text c.parse.ensures.value.0);
}

-- a number past the most, or another text than its decimal
pub returns-then-number-most : goal.returns-then-number-most
returns-then-number-most c = record {
  number = λ n low text.
      let parsed : c.parse.result ≡ Ok n =
      parse-decimal 64 n _ _ (omega arith) (omega arith) text c.parse.ensures.value.0 in
      let same : c.in-Ok.number ≡ n = cc in
      elim c.then-number-most.branch [
        | then-number-most-via-then-number-most w ↦ omega arith
        | then-number-most-via-else-number-most+then-ne w ↦
            let spelled : w.as_str.result.now ≡ c.args.text.now =
            w.as_str.ensures.value ∙ c.in_ok-printed.ensures.ok ∙ ap decimal same ∙ sym text in
            compared_other w.as_str.result.now c.args.text.now w.if-ne.ensures spelled
      ];
}
