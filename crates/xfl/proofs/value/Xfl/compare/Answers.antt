use Rattle.std.proofs.Common.{rules, ◌≡◌, ◌∙◌, to_z, of_z, w64}
use Rattle.std.proofs.lemmas.Int.{to_z-of_z}
use Rattle.xfl.specs.Steps.{rank_of}
use Rattle.xfl.proofs.Ranks.{rank_order}
use Rattle.xfl.proofs.value.Xfl.compare.Goals as goal

pub returns : goal.returns
returns c =
    let one : to_z w64 (of_z w64 c.rank.result) ≡ rank_of c.args.self =
    to_z-of_z w64 c.rank.result (search rules) ∙ c.rank.ensures.value in
    let two : to_z w64 (of_z w64 c.rank-2.result) ≡ rank_of c.args.other =
    to_z-of_z w64 c.rank-2.result (search rules) ∙ c.rank-2.ensures.value in
    rw (one, two) at c.cmp.ensures ∙ rank_order c.args.self c.args.other c.rank.ensures.valid c.rank-2.ensures.valid
