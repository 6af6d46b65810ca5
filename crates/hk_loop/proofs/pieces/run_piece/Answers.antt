use Rattle.std.proofs.Common.{sym, ◌∙◌}
use Rattle.hk_lines.specs.Given.{given_from}
use Rattle.hk_lines.specs.Cut.{cut, begun, joined}
use Rattle.hk_loop.proofs.Feeding.{front_of_more}
use Rattle.hk_loop.proofs.pieces.run_piece.Goals as goal

-- a fault of the sink
pub returns-in-Err-Failed-clause-stopped : goal.returns-in-Err-Failed-clause-stopped
returns-in-Err-Failed-clause-stopped g c = λ _ more close.
    front_of_more
    (given_from g.C.Command.turn c.args.command.now c.args.number.now
    (begun c.args.cutter.now (joined (cut c.args.piece.now) more)) close)
    (given_from g.C.Command.turn c.feed_piece.new.command c.feed_piece.new.number (begun c.feed_piece.new.cutter more)
    close)
    c.new-out.result.items c.feed_piece.new.out.items c.in-Ok-None.field-0 _ _ c.new-out.ensures.items
    c.in-Ok-None.field-0-is
    (c.in-Ok-None.ensures.given more close) (
      c.in-Err-Failed.ensures.front.0,
      c.in-Err-Failed.ensures.front.1,
      sym c.deref.ensures.value ∙ c.in-Err-Failed.ensures.front.2,
      c.in-Err-Failed.ensures.front.3,
    )

-- want of memory of the sink
pub returns-in-Ok-None-clause-stopped : goal.returns-in-Ok-None-clause-stopped
returns-in-Ok-None-clause-stopped g c = λ _ more close.
    front_of_more
    (given_from g.C.Command.turn c.args.command.now c.args.number.now
    (begun c.args.cutter.now (joined (cut c.args.piece.now) more)) close)
    (given_from g.C.Command.turn c.feed_piece.new.command c.feed_piece.new.number (begun c.feed_piece.new.cutter more)
    close)
    c.new-out.result.items c.feed_piece.new.out.items c.in-Ok-None.field-0 _ _ c.new-out.ensures.items
    c.in-Ok-None.field-0-is
    (c.in-Ok-None.ensures.given more close) (
      c.in-Err-NoMemory.ensures.front.0,
      c.in-Err-NoMemory.ensures.front.1,
      sym c.deref.ensures.value ∙ c.in-Err-NoMemory.ensures.front.2,
      c.in-Err-NoMemory.ensures.front.3,
    )
