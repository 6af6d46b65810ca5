use Rattle.std.proofs.Common.{arith}
use Rattle.hk_state.specs.Reserves.{first_install, first_state, own_units}
use Rattle.hk_state.specs.Writes.{with_writes}
use Rattle.hk_state.proofs.Owned.{sum_of_both}
use Rattle.hk_state.proofs.reserves.reserve.Goals as goal

pub owned_units-installs-requires : goal.owned_units-installs-requires
owned_units-installs-requires c =
    let both =
    sum_of_both (own_units (first_install c.args.account.now)) (own_units (first_state c.args.account.now))
    (with_writes c.args.ledger.now.entries c.args.overlay.now) in
    let fits = c.requires.fits in
    record { fits = omega (arith, both, fits) }

pub owned_units-states-requires : goal.owned_units-states-requires
owned_units-states-requires c =
    let both =
    sum_of_both (own_units (first_install c.args.account.now)) (own_units (first_state c.args.account.now))
    (with_writes c.args.ledger.now.entries c.args.overlay.now) in
    let fits = c.requires.fits in
    record { fits = omega (arith, both, fits) }

pub overflow_add-result : goal.overflow_add-result
overflow_add-result c =
    let both =
    sum_of_both (own_units (first_install c.args.account.now)) (own_units (first_state c.args.account.now))
    (with_writes c.args.ledger.now.entries c.args.overlay.now) in
    let fits = c.requires.fits in
    let installs = c.owned_units-installs.ensures.units in
    let states = c.owned_units-states.ensures.units in
    omega (arith, both, fits, installs, states)

pub overflow_mul-result : goal.overflow_mul-result
overflow_mul-result c =
    let both =
    sum_of_both (own_units (first_install c.args.account.now)) (own_units (first_state c.args.account.now))
    (with_writes c.args.ledger.now.entries c.args.overlay.now) in
    let fits = c.requires.fits in
    let installs = c.owned_units-installs.ensures.units in
    let states = c.owned_units-states.ensures.units in
    omega (arith, both, fits, installs, states)

pub overflow_add-result-2 : goal.overflow_add-result-2
overflow_add-result-2 c =
    let both =
    sum_of_both (own_units (first_install c.args.account.now)) (own_units (first_state c.args.account.now))
    (with_writes c.args.ledger.now.entries c.args.overlay.now) in
    let fits = c.requires.fits in
    let installs = c.owned_units-installs.ensures.units in
    let states = c.owned_units-states.ensures.units in
    omega (arith, both, fits, installs, states)

pub returns : goal.returns
returns c =
    let both =
    sum_of_both (own_units (first_install c.args.account.now)) (own_units (first_state c.args.account.now))
    (with_writes c.args.ledger.now.entries c.args.overlay.now) in
    let installs = c.owned_units-installs.ensures.units in
    let states = c.owned_units-states.ensures.units in
    record { reserve = omega (arith, both, installs, states) }
