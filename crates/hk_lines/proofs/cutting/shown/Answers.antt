use Rattle.std.proofs.Common.{◌≡◌, ◌≤◌, ◌<◌, [], ◌∷◌, length, ap, subst, ◌∙◌}
use Rattle.std.proofs.lemmas.Bool.Decides.{Decides-eqb}
use Rattle.std.proofs.lemmas.Slice.Eq.{strip_suffix_is}
use Rattle.hk_lines.specs.Cut.{trim}
use Rattle.hk_lines.specs.Numbers.{longest_line}
use Rattle.hk_lines.proofs.CutLemmas.{trim_stripped}
use Rattle.hk_lines.proofs.cutting.shown.Goals as goal

-- the text is the trimmed line
pub returns-then-text-le-LONGEST_LINE : goal.returns-then-text-le-LONGEST_LINE
returns-then-text-le-LONGEST_LINE c =
    let text : c.unwrap_or-text.result.now ≡ trim c.args.line.now =
    ap (λ r. r.now) c.unwrap_or-text.ensures
    ∙ trim_stripped c.strip_suffix.result c.args.line
    (strip_suffix_is Decides-eqb c.args.line.now (13 ∷ []) _ c.strip_suffix.ensures.cases) in
    record { shows = (text, subst (λ t. length t ≤ longest_line) text c.if-text-le-LONGEST_LINE.true) }

pub returns-else-text-le-LONGEST_LINE : goal.returns-else-text-le-LONGEST_LINE
returns-else-text-le-LONGEST_LINE c =
    let text : c.unwrap_or-text.result.now ≡ trim c.args.line.now =
    ap (λ r. r.now) c.unwrap_or-text.ensures
    ∙ trim_stripped c.strip_suffix.result c.args.line
    (strip_suffix_is Decides-eqb c.args.line.now (13 ∷ []) _ c.strip_suffix.ensures.cases) in
    record { shows = subst (λ t. longest_line < length t) text c.if-text-le-LONGEST_LINE.false }
