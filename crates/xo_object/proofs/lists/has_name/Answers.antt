use Rattle.std.proofs.Common.{◌∙◌, sym, refl}
use Rattle.xo_object.proofs.Elements.{differs_not, differs_more}
use Rattle.xo_object.proofs.lists.has_name.Goals as goal

pub returns-then-same_bytes-clause-found : goal.returns-then-same_bytes-clause-found
returns-then-same_bytes-clause-found c t =
    differs_not c.args.name.now c.args.parameters.now c.loop-parameter.parameter-index c.parameter-item.result
    c.loop-parameter-test.true c.parameter-item.is (c.if-same_bytes.ensures.same.0 refl ∙ c.as_slice.ensures.items)

pub loop-parameter-preserved : goal.loop-parameter-preserved
loop-parameter-preserved c =
    differs_more c.args.name.now c.args.parameters.now c.loop-parameter.parameter-index c.parameter-item.result
    c.loop-parameter-test.true c.parameter-item.is c.loop-parameter.invariant
    (λ e. let t : _ = c.if-same_bytes.ensures.same.1 (e ∙ sym c.as_slice.ensures.items) in absurd (cc))
