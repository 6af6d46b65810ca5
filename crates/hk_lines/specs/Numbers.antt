-- The limits on lines (this project's own).
use Rattle.std.specs.Prelude.{ℕ}

-- the bytes of the longest line that is read, without its line feed and the carriage return before it
abbrev pub longest_line : ℕ
longest_line = 2097152

-- the same with the carriage return
abbrev pub longest_returned_line : ℕ
longest_returned_line = 2097153

-- the bytes without a line feed that are too long for a line, whatever follows them
abbrev pub endless_line : ℕ
endless_line = 2097154

-- the bytes of input that are taken
abbrev pub longest_input : ℕ
longest_input = 1073741824

-- all drops that there can be
abbrev pub most_drops : ℕ
most_drops = 100000000000000000
