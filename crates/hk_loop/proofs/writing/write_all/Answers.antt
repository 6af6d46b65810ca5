use Rattle.std.proofs.Common.{◌++◌, [], take, arith, refl, sym, subst, ◌∙◌}
use Rattle.std.proofs.lemmas.Result.{err_from_is_err_and}
use Rattle.std.specs.Io.KnownBytes.{Appends}
use Rattle.hk_loop.proofs.Moves.{writes_none, writes_more, writes_still, front_grows, all_front}
use Rattle.hk_loop.proofs.writing.write_all.Goals as goal

pub loop-rest-init : goal.loop-rest-init
loop-rest-init g c = record { wrote = ([], refl, writes_none (g.K.Sink.written c.args.sink.now)); later = omega arith }

pub loop-rest-preserved : goal.loop-rest-preserved
loop-rest-preserved g c =
    let before = c.loop-rest.invariant.wrote in
    let rest = c.loop-rest.rest.now in
    let count = c.in_ok-count.count in
    record {
      wrote = (
        before.0 ++ take count rest,
        front_grows c.args.text.now before.0 rest count before.1,
        writes_more _ _ _ _ _ before.2 c.in_ok-count.ensures.moved,
      );
      later = omega (arith, c.loop-rest.invariant.later, c.in_ok-count.ensures.never_falls);
    }

pub returns-in_err-count-clause-front : goal.returns-in_err-count-clause-front
returns-in_err-count-clause-front g c =
    let before = c.loop-rest.invariant.wrote in
    let p = err_from_is_err_and c.from_residual.result c.from_residual.ensures.1 in
    rw p.1 (before.0, c.loop-rest.rest.now, before.1, writes_still _ _ _ _ before.2 c.in_err-count.ensures.kept)

pub returns-clause-whole : goal.returns-clause-whole
returns-clause-whole g c =
    let before = c.loop-rest.invariant.wrote in
    subst (λ front. Appends (g.K.Sink.written c.args.sink.now) (g.K.Sink.written c.loop-rest.sink) front)
    (all_front c.args.text.now before.0 c.loop-rest.rest.now before.1 (sym c.is_empty.ensures ∙ c.loop-rest-test.false))
    before.2
