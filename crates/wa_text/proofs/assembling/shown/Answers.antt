use Rattle.std.proofs.Common.{◌≡◌, [], ◌∷◌, ap, ◌∙◌}
use Rattle.std.proofs.lemmas.Bool.Decides.{Decides-eqb}
use Rattle.std.proofs.lemmas.Slice.Eq.{strip_suffix_is}
use Rattle.hk_lines.specs.Cut.{trim}
use Rattle.hk_lines.proofs.CutLemmas.{trim_stripped}
use Rattle.wa_text.specs.Lines.{without_spaces}
use Rattle.wa_text.proofs.assembling.shown.Goals as goal

-- the text is the trimmed line
pub returns : goal.returns
returns c =
    let text : c.unwrap_or.result.now ≡ trim c.args.line.now =
    ap (λ r. r.now) c.unwrap_or.ensures
    ∙ trim_stripped c.strip_suffix.result c.args.line
    (strip_suffix_is Decides-eqb c.args.line.now (13 ∷ []) _ c.strip_suffix.ensures.cases) in
    record { shown = c.without_spaces.ensures.rest ∙ ap without_spaces text }
