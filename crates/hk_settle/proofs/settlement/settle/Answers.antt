use Rattle.std.proofs.Common.{◌≡◌, length, subst, sym, ap, arith}
use Rattle.hk_events.specs.Settled as defined
use Rattle.hk_perform.specs.Needs.{AreCovered}
use Rattle.hk_settle.specs.Waits.{waiting_of}
use Rattle.hk_settle.proofs.Coming.{came_within}
use Rattle.hk_settle.proofs.settlement.settle.Goals as goal

pub settled_lines-requires : goal.settled_lines-requires
settled_lines-requires g c =
    let laws = g.met.T.Transactor in
    let rules = g.T.Transactor.rules in
    let lawful = c.engines_lawful.ensures.law rules laws.keeps_sum laws.keeps_others laws.keeps_accounts in
    let within =
    came_within rules lawful (c.engines_measured.ensures.law rules) c.args.ledger.now c.requires.steady c.args.number
    (waiting_of c.in_ok-waiting.waiting) in
    let room = within.room in
    let same = ap (λ (s : defined.Settled). length s.draft.emissions) c.in_ok-word.ensures.settled in
    let slice = ap length c.as_slice.ensures.items in record { room = omega (arith, room, same, slice) }

pub answer-requires-clause-covered : goal.answer-requires-clause-covered
answer-requires-clause-covered g c =
    let laws = g.met.T.Transactor in
    let rules = g.T.Transactor.rules in
    let lawful = c.engines_lawful.ensures.law rules laws.keeps_sum laws.keeps_others laws.keeps_accounts in
    let within =
    came_within rules lawful (c.engines_measured.ensures.law rules) c.args.ledger.now c.requires.steady c.args.number
    (waiting_of c.in_ok-waiting.waiting) in
    subst AreCovered (sym (ap (λ (s : defined.Settled). s.draft.entries) c.in_ok-word.ensures.settled)) within.covered

pub answer-requires-clause-room : goal.answer-requires-clause-room
answer-requires-clause-room g c =
    let laws = g.met.T.Transactor in
    let rules = g.T.Transactor.rules in
    let lawful = c.engines_lawful.ensures.law rules laws.keeps_sum laws.keeps_others laws.keeps_accounts in
    let within =
    came_within rules lawful (c.engines_measured.ensures.law rules) c.args.ledger.now c.requires.steady c.args.number
    (waiting_of c.in_ok-waiting.waiting) in
    let room = within.room in
    let same = ap (λ (s : defined.Settled). length s.draft.emissions) c.in_ok-word.ensures.settled in
    omega (arith, room, same)

pub returns-in_err-lines-2-clause-stays : goal.returns-in_err-lines-2-clause-stays
returns-in_err-lines-2-clause-stays g c = λ at held h.
    c.answer.ensures.stays at held (c.settle_waiting.ensures.stays at held h)

pub returns-clause-stays : goal.returns-clause-stays
returns-clause-stays g c = λ at held h.
    c.answer.ensures.stays at held (c.settle_waiting.ensures.stays at held h)
