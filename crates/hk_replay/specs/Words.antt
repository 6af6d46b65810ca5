-- The first words of the lines that the commands take (this project's own).
use Rattle.std.specs.Prelude.{ℕ, Bool, ◌||◌, List, codes}
use Rattle.hk_lines.specs.Taken.{begins}

-- the first words of a replay's lines
abbrev pub is_replay_line : List ℕ → Bool
is_replay_line line =
    begins line (codes "account")
    || (begins line (codes "ledger") || (begins line (codes "tx") || begins line (codes "end")))

-- the first words of the lines with one hook
abbrev pub is_hook_line : List ℕ → Bool
is_hook_line line = begins line (codes "hook") || begins line (codes "end")
