-- What is printed of what was written and emitted. This project's own.
use Rattle.std.specs.Prelude.{ℕ, ◌+◌, List, [], ◌∷◌, Option, Some, None}
use Rattle.std.specs.FinMap.{get}
use Rattle.hk_lines.specs.declared.output_line.OutputLine.{OutputLine}
use Rattle.hk_lines.specs.declared.output_line.OutputLine.TheVariants as printed
use Rattle.hk_emit.specs.declared.emission.Emission.{Emission}
use Rattle.hk_state.specs.declared.entry.Entry.{Entry}
use Rattle.hk_state.specs.declared.entry.Entry.TheVariants as entry
use Rattle.hk_state.specs.declared.key.StateKey.{StateKey}
use Rattle.hk_state.specs.Keys.{as_key}
use Rattle.hk_state.specs.Entries.{Entries}

-- the bytes of a State entry, none where it was removed
abbrev pub value_of : Option Entry → Option (List ℕ)
value_of (Some (entry.State bytes)) = Some bytes
value_of other = None

abbrev pub state_line : Entries → StateKey → OutputLine
state_line m q = printed.State q.owner q.namespace q.key (value_of (get m (as_key q)))

-- the written keys, each with its last value
abbrev pub state_lines : Entries → List StateKey → List OutputLine
state_lines m [] = []
state_lines m (q ∷ qs) = state_line m q ∷ state_lines m qs

-- emissions, numbered on
abbrev pub emit_lines : ℕ → List Emission → List OutputLine
emit_lines next [] = []
emit_lines next (e ∷ es) = printed.Emit next e.first e.last ∷ emit_lines (next + 1) es
