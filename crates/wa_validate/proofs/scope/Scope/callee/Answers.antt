use Rattle.std.proofs.Common.{◌≡◌, ◌∙◌, None, Some, IfSome, slice_get, sym, ap, subst}
use Rattle.std.specs.Slice.{IsItemAt}
use Rattle.wa_ops.specs.Callees.{Callee}
use Rattle.wa_ops.specs.Contexts.{calls_of, callee_of_row}
use Rattle.wa_ops.specs.Rows.{row_named}
use Rattle.wa_ops.specs.Typing.{Context}
use Rattle.wa_validate.specs.Needs.{IsTypeOf}
use Rattle.wa_validate.proofs.Names.{IsCallee, get_none, get_some, callee_none, callee_some, some_callee}
use Rattle.wa_validate.proofs.scope.Scope.callee.Goals as goal

pub function_of-requires : goal.function_of-requires
function_of-requires c = record {
  typed = (
    c.in-Some.import.now.name,
    (callee_some c.self.inside.wasm.now.types c.self.inside.wasm.now.imports c.args.function c.in-Some.import.now
        c.self.invariant
        (get_some c.self.inside.wasm.now.imports c.args.function c.get.result c.in-Some.import
        (subst (λ xs. IsItemAt xs c.args.function c.get.result) c.as_slice.ensures.items c.get.ensures.lookup)
        c.in-Some.is)).typed,
  );
}

pub returns-in-Some-clause-some : goal.returns-in-Some-clause-some
returns-in-Some-clause-some c =
    let i : IsCallee c.self.inside.wasm.now.types (slice_get (calls_of c.self.inside.wasm.now.imports) c.args.function)
    c.in-Some.import.now =
    callee_some c.self.inside.wasm.now.types c.self.inside.wasm.now.imports c.args.function c.in-Some.import.now
    c.self.invariant
    (get_some c.self.inside.wasm.now.imports c.args.function c.get.result c.in-Some.import
    (subst (λ xs. IsItemAt xs c.args.function c.get.result) c.as_slice.ensures.items c.get.ensures.lookup)
    c.in-Some.is) in
    some_callee c.args.self.now.calls c.args.function (callee_of_row (row_named c.in-Some.import.now.name))
    c.function_of.result
    (ap (λ (s : Context). slice_get s.calls c.args.function) (sym c.self.view_is) ∙ i.is)
    (c.function_of.ensures.typed c.in-Some.import.now.name i.typed)

pub returns-in-None-clause-none : goal.returns-in-None-clause-none
returns-in-None-clause-none c = λ e.
    ap (λ (s : Context). slice_get s.calls c.args.function) (sym c.self.view_is)
    ∙ callee_none c.self.inside.wasm.now.types c.self.inside.wasm.now.imports c.args.function c.self.invariant
    (get_none c.self.inside.wasm.now.imports c.args.function c.get.result
    (subst (λ xs. IsItemAt xs c.args.function c.get.result) c.as_slice.ensures.items c.get.ensures.lookup) c.in-None.is)
