use Rattle.std.proofs.Common.{◌≡◌, Ok, arith, sym, subst, ap, ◌∙◌}
use Rattle.std.proofs.lemmas.Fmt.{parse-decimal, IsAscii-decimal}
use Rattle.std.proofs.lemmas.Str.{IsUtf8-from_ascii}
use Rattle.std.proofs.lemmas.Slice.Eq.{bytes_eq-Decides}
use Rattle.std.specs.Fmt.{decimal}
use Rattle.std.specs.Str.{IsAscii}
use Rattle.hk_lines.proofs.Numerals.{number_none}
use Rattle.hk_lines.proofs.words.read_number.Goals as goal
use Rattle.hk_lines.proofs.words.read_number.Goals.{else-eq-via-then-eq+then-least-number+else-number-most}
use Rattle.hk_lines.proofs.words.read_number.Goals.{else-eq-via-then-eq+else-least-number, else-eq-via-else-eq}

-- a word that is no text is no decimal
pub returns-in_default : goal.returns-in_default
returns-in_default c = record {
  number = number_none c.args.least c.args.most c.args.word.now (λ number text low high.
      c.in_default.ensures.cases.0
      (IsUtf8-from_ascii _ (subst IsAscii (sym text) (IsAscii-decimal number (omega arith)))));
  range = tt;
}

-- a word that doesn't parse is no decimal
pub returns-in_default-parse : goal.returns-in_default-parse
returns-in_default-parse c = record {
  number = number_none c.args.least c.args.most c.args.word.now (λ number text low high.
      c.in_default-parse.not-Ok number
      (parse-decimal 64 number _ _ (omega arith) (omega arith) (c.in-Ok.ensures.cases.0 ∙ text)
      c.parse.ensures.value.0));
  range = tt;
}

-- a word that is another than its number's decimal, or a number out of range
pub returns : goal.returns
returns c = record {
  number = number_none c.args.least c.args.most c.args.word.now (λ number text low high.
      let parsed : c.parse.result ≡ Ok number =
      parse-decimal 64 number _ _ (omega arith) (omega arith) (c.in-Ok.ensures.cases.0 ∙ text)
      c.parse.ensures.value.0 in
      let same : c.in-Ok-parse.number ≡ number = cc in
      elim c.else-eq.branch [
        | else-eq-via-then-eq+then-least-number+else-number-most w ↦ omega arith
        | else-eq-via-then-eq+else-least-number w ↦ omega arith
        | else-eq-via-else-eq w ↦
            let spelled : c.as_bytes.result.now ≡ c.args.word.now =
            c.as_bytes.ensures.value ∙ c.in_ok-printed.ensures.ok ∙ ap decimal same ∙ sym text in
            let test = (bytes_eq-Decides c.as_bytes.result.now c.args.word.now).1 spelled in
            cc (w.if-eq.ensures, test)
      ]);
  range = tt;
}
