use Rattle.std.proofs.Common.{◌≡◌, ◌==◌, ◌+◌, ℕ, false, [], ◌∷◌, ◌++◌, take, get_or, inr, sym, ap, subst, ◌∙◌, arith}
use Rattle.std.proofs.lemmas.Bool.Decides.{nat_tests}
use Rattle.std.proofs.lemmas.List.{take_more}
use Rattle.hk_lines.specs.Cut.{cut, behind}
use Rattle.hk_lines.proofs.HeldLemmas.{cut_more, cut_ended}
use Rattle.hk_lines.proofs.cutting.line_size.Goals as goal

-- the byte is the first line feed
pub returns-then-byte-eq10-clause-cut : goal.returns-then-byte-eq10-clause-cut
returns-then-byte-eq10-clause-cut c =
    let more : take (c.loop-at.at + 1) c.args.piece.now ≡ take c.loop-at.at c.args.piece.now ++ 10 ∷ [] =
    take_more c.args.piece.now c.loop-at.at 0 c.loop-at-test.true
    ∙ ap (λ byte. take c.loop-at.at c.args.piece.now ++ byte ∷ []) c.if-byte-eq10.true in
    inr (
      take c.loop-at.at c.args.piece.now,
      ap cut more ∙ cut_ended (take c.loop-at.at c.args.piece.now) c.loop-at.invariant,
    )

-- the byte is none
pub loop-at-preserved : goal.loop-at-preserved
loop-at-preserved c =
    let byte : ℕ = get_or c.args.piece.now c.loop-at.at 0 in
    let other : (byte == 10) ≡ false = grind (arith, nat_tests, c.if-byte-eq10.false) in
    let more : take (c.loop-at.at + 1) c.args.piece.now ≡ take c.loop-at.at c.args.piece.now ++ byte ∷ [] =
    take_more c.args.piece.now c.loop-at.at 0 c.loop-at-test.true in
    subst (λ front. cut front ≡ behind front) (sym more)
    (cut_more (take c.loop-at.at c.args.piece.now) byte c.loop-at.invariant other)
