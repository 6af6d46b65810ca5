-- An entry's line, of whatever kind it is. This project's own.
use Rattle.std.specs.Prelude.{List, ◌++◌}
use Rattle.hk_lines.specs.declared.output_line.OutputLine.{OutputLine}
use Rattle.hk_state.specs.declared.entry.Entry.{Entry}
use Rattle.hk_state.specs.declared.key.Key.{Key}
use Rattle.hk_state.specs.Entries.{Entries}
use Rattle.hk_final.specs.Final.{account_line, install_line, state_line, queued_line}

-- at most one of these is there
abbrev pub entry_line : Entries → Key → Entry → List OutputLine
entry_line m k e = account_line m k e ++ install_line k e ++ state_line k e ++ queued_line k e
