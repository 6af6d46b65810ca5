use Rattle.std.proofs.Common.{◌∙◌, ◌-◌, length, sym, arith}
use Rattle.std.proofs.lemmas.List.{length-take-le}
use Rattle.hk_asm.proofs.Lines.{all_lines, fewer_lines}
use Rattle.hk_asm.proofs.answer.whole_lines.Goals as goal

pub returns-then-last-eq10-clause-lines : goal.returns-then-last-eq10-clause-lines
returns-then-last-eq10-clause-lines c =
    sym (all_lines c.loop-rest.rest.now _ c.in-len1-up.len_at_least c.if-last-eq10.true) ∙ c.loop-rest.invariant.0

pub loop-rest-preserved : goal.loop-rest-preserved
loop-rest-preserved c =
    let rest = c.loop-rest.rest.now in
    let shorter = length-take-le (length rest - 1) rest (omega arith) in (
      sym (fewer_lines rest _ c.in-len1-up.len_at_least c.if-last-eq10.false) ∙ c.loop-rest.invariant.0,
      omega (arith, shorter, c.loop-rest.invariant.1),
    )
