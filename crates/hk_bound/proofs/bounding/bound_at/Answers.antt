use Rattle.hk_bound.proofs.Savings.{function_at, function_bound, function_spares}
use Rattle.hk_bound.proofs.bounding.bound_at.Goals as goal

pub weigh-requires-clause-spares : goal.weigh-requires-clause-spares
weigh-requires-clause-spares c =
    function_spares c.args.module.now c.args.func c.index-as_slice-func-2.result c.as_slice-2.result.now
    (function_at c.args.module.now c.args.guards.now c.args.func c.index-as_slice-func.result
    c.index-as_slice-func-2.result c.as_slice.result.now
    c.as_slice-3.result.now c.as_slice-2.result.now c.requires.sound c.requires.guards.functions c.requires.function
    c.as_slice.ensures.items c.index-as_slice-func.is c.as_slice-3.ensures.items c.index-as_slice-func-2.is
    c.as_slice-2.ensures.items)

pub returns : goal.returns
returns c = record {
  bound =
      function_bound c.args.version c.args.module.now c.args.func c.weigh.result c.index-as_slice-func-2.result
      c.as_slice-2.result.now
      (function_at c.args.module.now c.args.guards.now c.args.func c.index-as_slice-func.result
      c.index-as_slice-func-2.result c.as_slice.result.now
      c.as_slice-3.result.now c.as_slice-2.result.now c.requires.sound c.requires.guards.functions c.requires.function
      c.as_slice.ensures.items c.index-as_slice-func.is c.as_slice-3.ensures.items c.index-as_slice-func-2.is
      c.as_slice-2.ensures.items)
      c.requires.known c.weigh.ensures.bound;
}
