-- Where the regions of flat code end (WebAssembly Core 1.0, "Control Instructions"; the table of ends is this project's
-- own).
use Rattle.std.specs.Prelude.{ℕ, ◌≡◌, ◌+◌, List, [], ◌∷◌}
use Rattle.wa_ops.specs.Sequences.{Sequence, done, plain, block, loop, if_then, if_else, Nesting, opens_block}
use Rattle.wa_ops.specs.Sequences.{opens_loop, opens_if, turns, closes, stands, size}

-- the place behind a sequence that begins at this place: each instruction takes one, `else` and `end` too
abbrev pub behind : Sequence → ℕ → ℕ
behind done at = at
behind (plain op rest) at = behind rest (at + 1)
behind (block result body rest) at = behind rest (behind body (at + 1) + 1)
behind (loop result body rest) at = behind rest (behind body (at + 1) + 1)
behind (if_then result body rest) at = behind rest (behind body (at + 1) + 1)
behind (if_else result first second rest) at = behind rest (behind second (behind first (at + 1) + 1) + 1)

-- a sequence takes as many places as it has instructions
abbrev pub BehindBySize : Type 0
BehindBySize = (code : Sequence) (at : ℕ) → behind code at ≡ at + size code

-- For each instruction of a sequence that begins at this place, with these entries behind it: of a region the place of
-- its `end`,
-- of an `if` with an `else` the place of that `else`, of an `else` that of its `end`, and 0 of every other.
abbrev pub ends_of : Sequence → ℕ → List ℕ → List ℕ
ends_of done at after = after
ends_of (plain op rest) at after = 0 ∷ ends_of rest (at + 1) after
ends_of (block result body rest) at after =
    behind body (at + 1) ∷ ends_of body (at + 1) (0 ∷ ends_of rest (behind body (at + 1) + 1) after)
ends_of (loop result body rest) at after =
    behind body (at + 1) ∷ ends_of body (at + 1) (0 ∷ ends_of rest (behind body (at + 1) + 1) after)
ends_of (if_then result body rest) at after =
    behind body (at + 1) ∷ ends_of body (at + 1) (0 ∷ ends_of rest (behind body (at + 1) + 1) after)
ends_of (if_else result first second rest) at after =
    behind first (at + 1) ∷ ends_of first (at + 1)
    (behind second (behind first (at + 1) + 1) ∷ ends_of second (behind first (at + 1) + 1)
    (0 ∷ ends_of rest (behind second (behind first (at + 1) + 1) + 1) after))

-- ---- one instruction, where the code is read from its last to its first

abbrev pub first_place : List ℕ → ℕ
first_place [] = 0
first_place (place ∷ places) = place

abbrev pub others : List ℕ → List ℕ
others [] = []
others (place ∷ places) = places

-- the entry of an instruction, by the places of the ends that are open behind it, the innermost first
abbrev pub entry : Nesting → List ℕ → ℕ
entry (opens_block result) open_ends = first_place open_ends
entry (opens_loop result) open_ends = first_place open_ends
entry (opens_if result) open_ends = first_place open_ends
entry turns open_ends = first_place open_ends
entry closes open_ends = 0
entry stands open_ends = 0

-- the ends that are open in front of an instruction at this place
abbrev pub open_before : Nesting → ℕ → List ℕ → List ℕ
open_before (opens_block result) place open_ends = others open_ends
open_before (opens_loop result) place open_ends = others open_ends
open_before (opens_if result) place open_ends = others open_ends
open_before turns place open_ends = place ∷ others open_ends
open_before closes place open_ends = place ∷ open_ends
open_before stands place open_ends = open_ends
