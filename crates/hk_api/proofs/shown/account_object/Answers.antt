use Rattle.std.proofs.Common.{◌∷◌, [], refl, arith}
use Rattle.xo_fields.specs.declared.amount.Amount.TheVariants.{Native}
use Rattle.xo_fields.specs.declared.form.Form.TheVariants.{Fixed, Money}
use Rattle.hk_api.proofs.Putting.{fits}
use Rattle.hk_api.proofs.shown.account_object.Goals as goal

pub put-requires-clause-fit : goal.put-requires-clause-fit
put-requires-clause-fit c =
    fits (record { kind = 1; code = 1 }) (Fixed 2) (0 ∷ 97 ∷ []) (omega arith) (omega arith) (omega arith) (omega arith)
    refl refl

pub put-requires-2-clause-fit : goal.put-requires-2-clause-fit
put-requires-2-clause-fit c =
    fits (record { kind = 2; code = 2 }) (Fixed 4) (0 ∷ 0 ∷ 0 ∷ 0 ∷ []) (omega arith) (omega arith) (omega arith)
    (omega arith) refl refl

pub put-requires-5-clause-fit : goal.put-requires-5-clause-fit
put-requires-5-clause-fit c =
    fits (record { kind = 6; code = 2 }) Money _ (omega arith) (omega arith) (omega arith) (omega arith) refl
    (Native c.args.balance, c.requires.drops, c.write_amount-size.ensures.bytes)
