use Rattle.std.proofs.Common.{◌∙◌, sym, subst, ap, true, IfOk, arith}
use Rattle.hk_asm.specs.Assembling.{Tells, told}
use Rattle.hk_asm.proofs.Telling.{told_just}
use Rattle.wa_text.specs.Meaning.{meaning}
use Rattle.hk_asm.proofs.answer.answer_text.Goals as goal

pub returns : goal.returns
returns c =
    let same = ap (λ lines. told true (meaning lines)) c.whole_lines.ensures.lines
    ∙ sym (told_just c.args.text.now (omega (arith, c.if-text-lt-LONGEST_TEXT.false)) c.requires.size) in
    record {
      answer =
          subst (λ given. IfOk c.answer_lines-2.result (λ answer. Tells given answer.text.items answer.status)) same
          c.answer_lines-2.ensures.answer;
    }
