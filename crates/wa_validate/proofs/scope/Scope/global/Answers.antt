use Rattle.std.proofs.Common.{◌≡◌, ◌∙◌, Some, IfSome, slice_get, sym, ap, subst}
use Rattle.std.specs.Slice.{IsItemAt}
use Rattle.wa_ops.specs.Typing.{Context}
use Rattle.wa_validate.proofs.Names.{get_none, global_none, some_global}
use Rattle.wa_validate.proofs.scope.Scope.global.Goals as goal

pub returns-clause-none : goal.returns-clause-none
returns-clause-none c = λ e.
    ap (λ (s : Context). slice_get s.globals c.args.index) (sym c.self.view_is)
    ∙ global_none c.self.inside.wasm.now.globals c.args.index (get_none c.self.inside.wasm.now.globals c.args.index
    c.get.result (subst (λ xs. IsItemAt xs c.args.index c.get.result) c.as_slice.ensures.items c.get.ensures.lookup) e)

pub returns-clause-some : goal.returns-clause-some
returns-clause-some c =
    subst (λ (s : Context).
    IfSome c.get.result
    (λ g. slice_get s.globals c.args.index ≡ Some (record { kind = g.now.kind; is_mutable = g.now.mutable })))
    c.self.view_is
    (some_global c.self.inside.wasm.now.globals c.args.index c.get.result
    (subst (λ xs. IsItemAt xs c.args.index c.get.result) c.as_slice.ensures.items c.get.ensures.lookup))
