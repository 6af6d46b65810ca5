use Rattle.std.proofs.Common.{sym, ◌∙◌}
use Rattle.hk_rules.proofs.Repeats.{met_again, met_next}
use Rattle.hk_rules.proofs.exports.has_repeats.Goals as goal

pub returns-then-not-is_new-clause-repeats : goal.returns-then-not-is_new-clause-repeats
returns-then-not-is_new-clause-repeats c =
    met_again c.args.exports.now c.loop-export.export-index c.export-item.result c.as_slice.result
    c.loop-export.met.keys
    c.loop-export-test.true c.export-item.is c.as_slice.ensures.items
    (sym c.if-not-is_new.true ∙ c.in_ok-is_new.ensures.added) c.loop-export.invariant

pub loop-export-preserved : goal.loop-export-preserved
loop-export-preserved c =
    met_next c.args.exports.now c.loop-export.export-index c.export-item.result c.as_slice.result c.loop-export.met.keys
    c.insert.new.self.keys
    c.loop-export-test.true c.export-item.is c.as_slice.ensures.items
    (sym c.if-not-is_new.false ∙ c.in_ok-is_new.ensures.added) c.in_ok-is_new.ensures.keys c.loop-export.invariant
