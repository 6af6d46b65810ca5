-- Bytes that are cut into lines (this project's own). Byte 10 is the line feed, 13 the carriage return and 35 the
-- character `#`.
use Rattle.std.specs.Prelude.{◌≡◌, ℕ, ◌==◌, Bool, true, if◌then◌else◌, List, [], ◌∷◌, ◌++◌}

-- the lines that a line feed ends, each without it, and the bytes behind the last
pub data Cut : Type 0 where
  behind : List ℕ → Cut
  whole : List ℕ → Cut → Cut

-- a byte in front of what was cut
abbrev pub onto : ℕ → Cut → Cut
onto byte (behind bytes) = behind (byte ∷ bytes)
onto byte (whole line more) = whole (byte ∷ line) more

-- a line feed ends a line, every other byte belongs to one
abbrev pub cut : List ℕ → Cut
cut [] = behind []
cut (byte ∷ bytes) = if byte == 10 then whole [] (cut bytes) else onto byte (cut bytes)

-- what was cut, where the first line begins with these bytes
abbrev pub begun : List ℕ → Cut → Cut
begun bytes (behind more) = behind (bytes ++ more)
begun bytes (whole line more) = whole (bytes ++ line) more

-- the lines of two, where the bytes behind the first go on in the second
abbrev pub joined : Cut → Cut → Cut
joined (behind bytes) next = begun bytes next
joined (whole line more) next = whole line (joined more next)

-- the lines of joined bytes are the joined lines
abbrev pub CutsJoined : Type 0
CutsJoined = (front back : List ℕ) → cut (front ++ back) ≡ joined (cut front) (cut back)

-- a line without the carriage return at its end
abbrev pub trim : List ℕ → List ℕ
trim [] = []
trim (byte ∷ []) = if byte == 13 then [] else byte ∷ []
trim (byte ∷ next ∷ bytes) = byte ∷ trim (next ∷ bytes)

-- empty lines and lines that begin with `#` say nothing
abbrev pub is_skipped : List ℕ → Bool
is_skipped [] = true
is_skipped (byte ∷ bytes) = byte == 35
