-- Counts of what lies outside the program: its calls and its faults (this project's own).
use Rattle.std.specs.Prelude.{ℕ, ◌+◌, ◌-◌, ◌^◌, ◌≤◌, min}

-- the last value of a count, which is the last number of 64 bits
abbrev pub last_count : ℕ
last_count = 2 ^ 64 - 1

-- a count and one more; it stops at its last value
abbrev pub next_count : ℕ → ℕ
next_count count = min (count + 1) last_count

-- a count as it is told
abbrev pub told_count : ℕ → ℕ
told_count count = min count last_count

-- a count of faults rose, or stands at its last value
abbrev pub Rose : ℕ → ℕ → Type 0
Rose before now = next_count before ≤ now
