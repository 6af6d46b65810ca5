use Rattle.std.proofs.Common.{◌∙◌, ◌++◌, slice_get, sym, ap}
use Rattle.std.proofs.lemmas.List.{append-nil}
use Rattle.wa_ops.specs.Contexts.{locals_of}
use Rattle.wa_validate.proofs.Names.{get_none}
use Rattle.wa_validate.proofs.scope.add_locals.Goals as goal

pub returns-in-None : goal.returns-in-None
returns-in-None c = record {
  locals = sym (ap (λ o. c.args.locals.now ++ locals_of o)
      (ap (λ xs. slice_get xs c.args.function) (sym c.as_slice.ensures.items)
      ∙ get_none c.as_slice.result.now c.args.function c.get.result c.get.ensures.lookup c.in-None.is)
      ∙ append-nil c.args.locals.now);
}
