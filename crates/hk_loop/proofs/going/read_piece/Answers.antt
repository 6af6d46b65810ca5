use Rattle.std.proofs.Common.{[], take, refl, inl, inr, subst, arith, rules}
use Rattle.std.specs.Io.KnownBytes.{Consumes}
use Rattle.hk_loop.proofs.going.read_piece.Goals as goal

-- the input ended
pub returns-then-count-eq0-clause-stops : goal.returns-then-count-eq0-clause-stops
returns-then-count-eq0-clause-stops g c = record {
  taken = [];
  consumed =
      subst (λ n.
      Consumes (g.S.Source.left c.args.source.now) (g.S.Source.left c.read_some.new.source)
      (take n c.read_some.new.buffer))
      c.if-count-eq0.true c.in-Ok.ensures.moved;
  most = omega arith;
  few = omega arith;
  not_full = c.finish.ensures.not_full;
  why = inl (record {
    nothing = refl;
    at_end = c.in-Ok.ensures.end c.if-count-eq0.true;
    answered = c.finish.ensures.answered;
    stopped = c.finish.ensures.stopped;
    kept = c.finish.ensures.kept;
    no_read_fault = c.finish.ensures.cause.no_read_fault;
  });
}

-- the piece ended the command, or writing stopped it
pub returns-in-Err-run_piece-clause-stops : goal.returns-in-Err-run_piece-clause-stops
returns-in-Err-run_piece-clause-stops g c = record {
  taken = take c.in-Ok.count c.read_some.new.buffer;
  consumed = c.in-Ok.ensures.moved;
  most = search rules;
  few = search rules;
  not_full = c.in-Err-run_piece.ensures.not_full;
  why = inr (inl (record {
    answered = search rules;
    stopped = search rules;
    kept = search rules;
    no_read_fault = c.in-Err-run_piece.ensures.cause.no_read_fault;
  }));
}
