use Rattle.std.proofs.Common.{subst, sym}
use Rattle.hk_state.specs.declared.ledger.Header.{Header}
use Rattle.hk_chain.specs.Programs.{AreOf}
use Rattle.hk_ledger.specs.World.{IsWhole}
use Rattle.hk_ledger.proofs.Whole.{header_whole}
use Rattle.hk_ledger.proofs.world.open_ledger.Goals as goal

pub invariant_of-world : goal.invariant_of-world
invariant_of-world c =
    let ledger = c.world.inside.ledger in
    let opening = c.world.inside.opening in
    let programs = c.world.inside.programs in
    let made = sym c.set_header.ensures.header in
    let header : Header = record { seq = c.args.seq; time = c.args.time; last_hash = c.args.last_hash.now } in (
      subst (λ l. IsWhole l opening) made
          (header_whole ledger header opening c.world.invariant.0),
      subst (λ l. AreOf l.entries programs) made c.world.invariant.1,
    )
