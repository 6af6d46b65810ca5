-- What is held of a line that comes in pieces (this project's own).
use Rattle.std.specs.Prelude.{◌≡◌, ◌<◌, ◌≤◌, ◌⊎◌, ℕ, List, [], ◌∷◌, ◌++◌, length}
use Rattle.hk_lines.specs.Cut.{Cut, behind, whole, cut, joined, trim}
use Rattle.hk_lines.specs.Numbers.{longest_line, endless_line}
use Rattle.hk_lines.specs.declared.cutting.CutLine.{CutLine}
use Rattle.hk_lines.specs.declared.cutting.CutLine.TheVariants.{Whole, TooLong}

-- bytes without a line feed, and not too many for a line
abbrev pub IsUnfinished : List ℕ → Type 0
IsUnfinished held = (cut held ≡ behind held) × (length held < endless_line)

-- a line and its line feed
abbrev pub IsLine : List ℕ → List ℕ → Type 0
IsLine held line = (cut held ≡ whole line (behind [])) × (length line < endless_line)

-- so many bytes without a line feed that they are too long for a line
abbrev pub IsEndless : List ℕ → Type 0
IsEndless held = (cut held ≡ behind held) × (length held ≡ endless_line)

-- a line stands ready
abbrev pub IsReady : List ℕ → Type 0
IsReady held = IsEndless held ⊎ ((line : List ℕ) × IsLine held line)

-- what may be held: an unfinished line, or one that stands ready
abbrev pub IsHeld : List ℕ → Type 0
IsHeld held = IsUnfinished held ⊎ IsReady held

-- a line as it is shown, without its carriage return, or that it is too long
abbrev pub Shows : List ℕ → CutLine → Type 0
Shows line (Whole text) = (text.now ≡ trim line) × (length (trim line) ≤ longest_line)
Shows line TooLong = longest_line < length (trim line)

-- a line that stands ready, as it is shown
abbrev pub ShowsReady : List ℕ → CutLine → Type 0
ShowsReady held shown = ((line : List ℕ) × IsLine held line × Shows line shown) ⊎ (IsEndless held × (shown ≡ TooLong))

-- ---- whatever the pieces

-- lines in order, and the bytes behind them
abbrev pub listed : List (List ℕ) → List ℕ → Cut
listed [] held = behind held
listed (line ∷ lines) held = whole line (listed lines held)

-- bytes that were taken in pieces are cut into these lines, and the held bytes behind them
abbrev pub IsCut : List ℕ → List (List ℕ) → List ℕ → Type 0
IsCut taken lines held = cut taken ≡ listed lines held

-- the first line is too long
abbrev pub IsTooLong : Cut → Type 0
IsTooLong (behind bytes) = endless_line ≤ length bytes
IsTooLong (whole line more) = longest_line < length (trim line)

-- these lines, and behind them one that is too long
pub record EndsTooLong (lines : List (List ℕ)) (bytes : List ℕ) : Type 0 where
  pub rest : Cut
  pub cuts : cut bytes ≡ joined (listed lines []) rest
  pub long : IsTooLong rest

-- the lines and the rest of pieces are those of the joined bytes: a piece goes on the held bytes, and where a line is
-- whole
-- it is the next; where the held bytes are endless the next line is too long, whatever comes behind them
pub record CutsPieces : Type 0 where
  pub nothing : IsCut [] [] []
  pub goes_on :
      (taken : List ℕ) (lines : List (List ℕ)) (held piece : List ℕ) →
      cut held ≡ behind held → IsCut taken lines held →
      cut (held ++ piece) ≡ behind (held ++ piece) → IsCut (taken ++ piece) lines (held ++ piece)
  pub ends_line :
      (taken : List ℕ) (lines : List (List ℕ)) (held piece line : List ℕ) →
      cut held ≡ behind held → IsCut taken lines held →
      cut (held ++ piece) ≡ whole line (behind []) → IsCut (taken ++ piece) (lines ++ line ∷ []) []
  pub ends_endless :
      (taken : List ℕ) (lines : List (List ℕ)) (held piece more : List ℕ) →
      cut held ≡ behind held → IsCut taken lines held →
      IsEndless (held ++ piece) → EndsTooLong lines ((taken ++ piece) ++ more)
