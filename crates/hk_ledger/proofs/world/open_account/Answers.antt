use Rattle.std.proofs.Common.{◌∙◌, ◌+◌, subst, sym}
use Rattle.hk_state.proofs.Told.{is_none}
use Rattle.hk_chain.specs.Programs.{AreOf}
use Rattle.hk_ledger.specs.World.{IsWhole}
use Rattle.hk_ledger.proofs.Whole.{account_whole, account_programs}
use Rattle.hk_ledger.proofs.world.open_account.Goals as goal

pub invariant_of-world : goal.invariant_of-world
invariant_of-world c =
    let ledger = c.world.inside.ledger in
    let opening = c.world.inside.opening in
    let programs = c.world.inside.programs in
    let made = sym c.in-Ok.ensures.ok in
    let most = c.if-opening-gt-MOST_DROPS.false in
    let none =
    sym c.holding.ensures.holding ∙ is_none c.holding.result (sym c.is_some.ensures ∙ c.if-is_some.false) in (
      subst (λ l. IsWhole l (opening + c.args.balance)) made
          (account_whole ledger c.args.id.now c.args.balance c.args.sequence opening none most
          c.world.invariant.0),
      subst (λ l. AreOf l.entries programs) made
          (account_programs ledger.entries c.args.id.now c.args.balance c.args.sequence programs c.world.invariant.1),
    )
