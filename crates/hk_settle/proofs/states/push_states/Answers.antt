use Rattle.std.proofs.Common.{◌∙◌, ◌++◌, ◌+◌, ap, drop}
use Rattle.hk_state.specs.Rules.{state_keys}
use Rattle.hk_state.specs.Writes.{with_writes}
use Rattle.hk_events.specs.Printed.{state_lines}
use Rattle.hk_settle.proofs.Lined.{listed_key, none_listed, next_state, last_state}
use Rattle.hk_settle.proofs.states.push_states.Goals as goal

pub returns-in-None : goal.returns-in-None
returns-in-None c =
    let m = with_writes c.args.ledger.now.entries c.args.overlay.now in
    let keys = c.args.overlay.now.listed in
    record {
      ok = last_state m keys c.loop-place.place c.loop-place.lines _ c.loop-place.invariant
          (none_listed c.args.overlay.now c.loop-place.place c.in-None.ensures.write);
    }

pub loop-place-preserved : goal.loop-place-preserved
loop-place-preserved c =
    let m = with_writes c.args.ledger.now.entries c.args.overlay.now in
    let keys = c.args.overlay.now.listed in
    let rest = state_lines m (state_keys (drop (c.loop-place.place + 1) keys)) in
    ap (λ lines. lines ++ rest) c.in_ok-push_state-in-Some.ensures.ok
    ∙ next_state m keys c.loop-place.place c.loop-place.lines _ c.loop-place.invariant c.in-Some.key.now
    (listed_key c.args.overlay.now c.loop-place.place c.in-Some.key.now _ c.in-Some.ensures.write)
