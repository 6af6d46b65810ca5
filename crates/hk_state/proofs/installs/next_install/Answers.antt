use Rattle.std.proofs.Common.{◌≡◌, sym, subst, true, Some}
use Rattle.hk_state.specs.declared.key.Key.TheVariants.{Install}
use Rattle.hk_state.specs.Installs.{IsNext}
use Rattle.hk_state.specs.Least.{Least, is_from}
use Rattle.hk_state.specs.Reserves.{is_own}
use Rattle.hk_state.proofs.Installing.{none_at_all, none_own, found_own}
use Rattle.hk_state.proofs.installs.next_install.Goals as goal

pub returns-in_err-key : goal.returns-in_err-key
returns-in_err-key c =
    let m = c.args.ledger.now.entries in
    record {
      next =
          subst (IsNext m c.args.account.now c.args.from) (sym c.from_residual.ensures)
          (none_at_all m c.args.account.now c.args.from c.in_err-key.ensures.least);
    }

pub returns-then-not-is_own : goal.returns-then-not-is_own
returns-then-not-is_own c = record {
  next =
      none_own c.args.ledger.now.entries c.args.account.now c.args.from c.in_ok-key.key.now c.in_ok-key.field-0-1.now
      c.in_ok-key.ensures.least (sym c.if-not-is_own.ensures.own);
}

pub returns-in-Install : goal.returns-in-Install
returns-in-Install c =
    let m = c.args.ledger.now.entries in
    let id = c.args.account.now in
    record {
      next =
          found_own m id c.args.from c.in-Install.field-0 c.in-Install.position c.in_ok-key.field-0-1.now
          (subst (λ k. Least m (is_from (Install id c.args.from)) (Some (k, c.in_ok-key.field-0-1.now)))
          c.in-Install.is c.in_ok-key.ensures.least)
          (subst (λ k. is_own (Install id c.args.from) k ≡ true) c.in-Install.is (sym c.if-not-is_own.ensures.own));
    }
