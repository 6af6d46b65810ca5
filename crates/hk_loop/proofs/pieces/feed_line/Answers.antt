use Rattle.std.proofs.Common.{◌+◌, drop, sym, ap, subst, ◌∙◌}
use Rattle.hk_lines.specs.Cut.{cut, begun, joined}
use Rattle.hk_lines.specs.Given.{given_from}
use Rattle.hk_lines.specs.Reached.{state_from}
use Rattle.hk_loop.specs.Turned.{led, LeadsOn}
use Rattle.hk_loop.proofs.Feeding.{part_unready, part_ready, reaches_unready, reaches_ready}
use Rattle.hk_loop.proofs.pieces.feed_line.Goals as goal

-- no line is whole yet
pub returns-in-None-clause-given : goal.returns-in-None-clause-given
returns-in-None-clause-given g c =
    part_unready g.C.Command.turn c.args.command.now c.args.number.now c.args.cutter.now c.args.piece.now
    c.feed.new.self c.in_ok-count.count
    c.args.out.now.items c.requires.unfinished.0 c.in_ok-count.ensures.taken c.in-None.ensures.line.0

-- a line was taken
pub returns-clause-given : goal.returns-clause-given
returns-clause-given g c = λ more close.
    part_ready g.C.Command.turn c.args.command.now c.run_line.new.command c.args.number.now c.args.cutter.now
    c.args.piece.now c.feed.new.self
    c.in_ok-count.count c.args.out.now.items c.run_line.new.out.items c.in-Some.line c.in_ok-stop-in-Some.stop
    c.requires.unfinished.0
    c.in_ok-count.ensures.taken c.in-Some.ensures.line (record { given = c.in_ok-stop-in-Some.ensures.given }) more
    close
    ∙ ap (λ held. led c.in_ok-stop-in-Some.stop c.run_line.new.out.items
    (given_from g.C.Command.turn c.run_line.new.command (c.args.number.now + 1)
    (begun held (joined (cut (drop c.in_ok-count.count c.args.piece.now)) more)) close)) (sym c.next.ensures.nothing)

pub returns-in-None-clause-reached : goal.returns-in-None-clause-reached
returns-in-None-clause-reached g c =
    reaches_unready g.C.Command.turn c.args.command.now c.args.cutter.now c.args.piece.now c.feed.new.self
    c.in_ok-count.count c.requires.unfinished.0 c.in_ok-count.ensures.taken c.in-None.ensures.line.0

pub returns-clause-reached : goal.returns-clause-reached
returns-clause-reached g c = λ more.
    subst (λ held. LeadsOn g.C.Command.keeps c.in_ok-stop-in-Some.stop
    (state_from g.C.Command.turn c.args.command.now (begun c.args.cutter.now (joined (cut c.args.piece.now) more)))
    (state_from g.C.Command.turn c.run_line.new.command
    (begun held (joined (cut (drop c.in_ok-count.count c.args.piece.now)) more)))
    c.run_line.new.command) (sym c.next.ensures.nothing)
    (reaches_ready g.C.Command.turn g.C.Command.keeps c.args.command.now c.run_line.new.command c.args.cutter.now
    c.args.piece.now
    c.feed.new.self c.in_ok-count.count c.in-Some.line c.in_ok-stop-in-Some.stop c.requires.unfinished.0
    c.in_ok-count.ensures.taken c.in-Some.ensures.line (record { reached = c.in_ok-stop-in-Some.ensures.reached }) more)
