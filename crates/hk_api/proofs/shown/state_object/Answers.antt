use Rattle.std.proofs.Common.{◌∷◌, [], refl, arith}
use Rattle.xo_fields.specs.declared.form.Form.TheVariants.{Fixed}
use Rattle.hk_api.proofs.Putting.{fits}
use Rattle.hk_api.proofs.shown.state_object.Goals as goal

pub put-requires-clause-fit : goal.put-requires-clause-fit
put-requires-clause-fit c =
    fits (record { kind = 1; code = 1 }) (Fixed 2) (0 ∷ 118 ∷ []) (omega arith) (omega arith) (omega arith)
    (omega arith) refl refl

pub put-requires-2-clause-fit : goal.put-requires-2-clause-fit
put-requires-2-clause-fit c =
    fits (record { kind = 5; code = 30 }) (Fixed 32) c.args.key.now.0 (omega arith) (omega arith) (omega arith)
    (omega arith) refl
    (omega (arith, c.well_formed))
