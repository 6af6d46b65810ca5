-- What a transaction does itself, as one end: what is left of a draft, or why it fails. This project's own.
use Rattle.std.specs.Prelude.{◌==◌, if◌then◌else◌}
use Rattle.xo_object.specs.declared.transaction.Transaction.{Transaction}
use Rattle.hk_reading.specs.Readings.{hook_kind}
use Rattle.hk_state.specs.declared.ledger.Header.{Header}
use Rattle.hk_state.specs.Rules.{Effect, keeps, fails}
use Rattle.hk_draft.specs.Draft.{Draft}
use Rattle.hk_events.specs.Engine.{Engine}
use Rattle.hk_events.specs.Items.{ItemEnd, leaves, stops, hooks_end}

abbrev pub as_end : Draft → Effect → ItemEnd
as_end d (keeps n) = leaves (record { entries = n; written = d.written; emissions = d.emissions })
as_end d (fails name) = stops name

-- the items of a change of hooks, or the rules of its type
abbrev pub acts : Engine → Header → Transaction → Draft → ItemEnd
acts e header t d =
    if t.kind == hook_kind then hooks_end e t.account t.hooks d else as_end d (e.rules header d.entries t)
