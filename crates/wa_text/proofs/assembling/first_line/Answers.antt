use Rattle.std.proofs.Common.{◌≡◌, ◌∙◌, ◌+◌, suc, sym, subst, ap, take, drop, arith}
use Rattle.std.proofs.lemmas.List.{take_rest}
use Rattle.hk_lines.specs.Cut.{cut, whole}
use Rattle.wa_text.proofs.Cutting.{Cuts, cut_at}
use Rattle.wa_text.proofs.assembling.first_line.Goals as goal

pub returns-in_default-clause-line : goal.returns-in_default-clause-line
returns-in_default-clause-line c =
    let bytes = c.args.bytes.now in
    subst (Cuts (cut bytes) bytes) (sym c.in_default.ensures.place) (cut_at bytes)

pub returns-clause-line : goal.returns-clause-line
returns-clause-line c =
    let bytes = c.args.bytes.now in
    let at = c.in-Some.at in
    let behind : suc at ≡ at + 1 = omega arith in
    let found : cut bytes ≡ whole (take at bytes) (cut (drop (suc at) bytes)) =
    subst (Cuts (cut bytes) bytes) (sym c.in-Some.ensures.place) (cut_at bytes) in
    found
    ∙ ap (λ n. whole (take at bytes) (cut (drop n bytes))) behind
    ∙ ap (λ rest. whole (take at bytes) (cut rest)) (sym (take_rest bytes (at + 1)))
