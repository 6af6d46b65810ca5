use Rattle.std.proofs.Common.{◌≡◌, length, sym, ap, subst, ◌∙◌, rules, vec_len, min, ◌-◌}
use Rattle.hk_lines.specs.Cutting.{IsHeld, IsUnfinished}
use Rattle.hk_lines.proofs.HeldLemmas.{Feeds, feeds_held, feeds_all}
use Rattle.hk_lines.proofs.cutting.Cutter.feed.Goals as goal

-- what the call takes of the piece
feeds : (c : goal.In_ok-extend_from_slice) →
    Feeds c.self.inside.held.items c.args.piece.now c.min.result c.line_size-count.result
feeds c =
    let long : vec_len c.self.inside.held ≡ length c.self.inside.held.items = search rules in
    record {
      unfinished = subst IsUnfinished (sym c.self.view_is) c.requires.unfinished;
      room_is = c.min.ensures ∙ ap (λ n. min (2097154 - n) (length c.args.piece.now)) (c.len-room.ensures ∙ long);
      most = c.line_size-count.ensures.most;
      cuts = c.line_size-count.ensures.cut;
    }

pub invariant_of-self-2 : goal.invariant_of-self-2
invariant_of-self-2 c =
    subst IsHeld (sym c.in_ok-extend_from_slice.ensures.items)
    (feeds_held c.self.inside.held.items c.args.piece.now c.min.result c.line_size-count.result (feeds c))

pub returns-clause-all : goal.returns-clause-all
returns-clause-all c = λ unfinished.
    feeds_all c.self.inside.held.items c.args.piece.now c.min.result c.line_size-count.result (feeds c)
    (subst IsUnfinished c.in_ok-extend_from_slice.ensures.items unfinished)

pub returns-clause-held : goal.returns-clause-held
returns-clause-held c =
    subst IsHeld (sym c.in_ok-extend_from_slice.ensures.items)
    (feeds_held c.self.inside.held.items c.args.piece.now c.min.result c.line_size-count.result (feeds c))
