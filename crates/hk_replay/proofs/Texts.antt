-- The texts of lines, joined.
use Rattle.std.proofs.Common.{◌≡◌, ℕ, ◌+◌, ◌<◌, List, [], ◌∷◌, ◌++◌, length, take, get_or, sym, ap, ◌∙◌, append_assoc}
use Rattle.std.proofs.Common.{append-nil}
use Rattle.std.proofs.lemmas.List.{take_more}
use Rattle.hk_lines.specs.declared.output_line.OutputLine.{OutputLine}
use Rattle.hk_lines.specs.OutputForms.{line_text}
use Rattle.hk_replay.specs.Replaying.{texts}

-- one line more
texts_more : (lines : List OutputLine) (line : OutputLine) → texts (lines ++ line ∷ []) ≡ texts lines ++ line_text line
texts_more [] line = append-nil (line_text line)
texts_more (first ∷ lines) line =
    ap (λ t. line_text first ++ t) (texts_more lines line)
    ∙ sym (append_assoc (line_text first) (texts lines) (line_text line))

-- the text of the next line goes on that of those before it
pub next_text : (lines : List OutputLine) (at : ℕ) (line : OutputLine) (before was now : List ℕ) → at < length lines →
    line ≡ get_or lines at line →
    was ≡ before ++ texts (take at lines) → now ≡ was ++ line_text line → now ≡ before ++ texts (take (at + 1) lines)
next_text lines at line before was now below this is more =
    more ∙ ap (λ t. t ++ line_text line) is
    ∙ append_assoc before (texts (take at lines)) (line_text line)
    ∙ ap (λ t. before ++ t) (
    sym (texts_more (take at lines) line)
    ∙ ap (λ x. texts (take at lines ++ x ∷ [])) this
    ∙ ap texts (sym (take_more lines at line below))
    )
