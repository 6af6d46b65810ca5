-- An overlay's writes over entries, with the emissions so far, as a draft. This project's own.
use Rattle.std.specs.Prelude.{List}
use Rattle.hk_emit.specs.declared.emission.Emission.{Emission}
use Rattle.hk_state.specs.Entries.{Entries}
use Rattle.hk_state.specs.Writes.{Writes, with_writes}
use Rattle.hk_state.specs.Rules.{state_keys}
use Rattle.hk_draft.specs.Draft.{Draft}

abbrev pub draft_of : Entries → Writes → List Emission → Draft
draft_of m w es = record { entries = with_writes m w; written = state_keys w.listed; emissions = es }
