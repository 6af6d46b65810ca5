-- Code trees: flat code as nested sequences (WebAssembly Core 1.0, "Control Instructions" and "Expressions").
use Rattle.std.specs.Prelude.{ℕ, ◌≡◌, ◌+◌, List, [], ◌∷◌, Option, Some, None}
use Rattle.wa_ops.specs.declared.op.Op.{Op}
use Rattle.wa_ops.specs.declared.op.Op.TheVariants.{Block, Loop, If, Else, End}
use Rattle.wa_ops.specs.declared.op.ValueType.{ValueType}

-- A list of nodes: the first node, and the sequence behind it. A region has its result and its body; an `if` has one
-- arm or two.
pub data Sequence : Type 0 where
  done : Sequence
  plain : Op → Sequence → Sequence
  block : Option ValueType → Sequence → Sequence → Sequence
  loop : Option ValueType → Sequence → Sequence → Sequence
  if_then : Option ValueType → Sequence → Sequence → Sequence
  if_else : Option ValueType → Sequence → Sequence → Sequence → Sequence

-- what an instruction does to the nesting
pub data Nesting : Type 0 where
  opens_block : Option ValueType → Nesting
  opens_loop : Option ValueType → Nesting
  opens_if : Option ValueType → Nesting
  turns : Nesting
  closes : Nesting
  stands : Nesting

abbrev pub nesting : Op → Nesting
nesting (Block result) = opens_block result
nesting (Loop result) = opens_loop result
nesting (If result) = opens_if result
nesting Else = turns
nesting End = closes
nesting op = stands

-- each plain node is an instruction that opens and closes nothing
abbrev pub IsTree : Sequence → Type 0
IsTree done = Unit {0}
IsTree (plain op rest) = (nesting op ≡ stands) × IsTree rest
IsTree (block result body rest) = IsTree body × IsTree rest
IsTree (loop result body rest) = IsTree body × IsTree rest
IsTree (if_then result body rest) = IsTree body × IsTree rest
IsTree (if_else result first second rest) = IsTree first × IsTree second × IsTree rest

-- the instructions of a sequence, with these behind it
abbrev pub flat : Sequence → List Op → List Op
flat done after = after
flat (plain op rest) after = op ∷ flat rest after
flat (block result body rest) after = Block result ∷ flat body (End ∷ flat rest after)
flat (loop result body rest) after = Loop result ∷ flat body (End ∷ flat rest after)
flat (if_then result body rest) after = If result ∷ flat body (End ∷ flat rest after)
flat (if_else result first second rest) after = If result ∷ flat first (Else ∷ flat second (End ∷ flat rest after))

-- flat code, with the `end` behind its last instruction, is this sequence
pub record Reads (ops : List Op) (code : Sequence) : Type 0 where
  pub instructions : ops ≡ flat code (End ∷ [])
  pub tree : IsTree code

-- flat code that is some sequence
abbrev pub IsNested : List Op → Type 0
IsNested ops = (code : Sequence) × Reads ops code

-- how many instructions a sequence has
abbrev pub size : Sequence → ℕ
size done = 0
size (plain op rest) = 1 + size rest
size (block result body rest) = 2 + size body + size rest
size (loop result body rest) = 2 + size body + size rest
size (if_then result body rest) = 2 + size body + size rest
size (if_else result first second rest) = 3 + size first + size second + size rest

-- Flat code read from its last instruction to its first: the sequences up to the `end` or `else` that was met, the
-- innermost first.
pub data Open : Type 0 where
  nothing : Open
  to_end : Sequence → Open → Open
  to_else : Sequence → Open → Open
  broken : Open

abbrev pub put_node : (Sequence → Sequence) → Open → Open
put_node node (to_end rest open_around) = to_end (node rest) open_around
put_node node (to_else rest open_around) = to_else (node rest) open_around
put_node node _ = broken

abbrev pub put_region : (Sequence → Sequence → Sequence) → Open → Open
put_region region (to_end body around) = put_node (region body) around
put_region region _ = broken

abbrev pub put_if : Option ValueType → Open → Open
put_if result (to_end body around) = put_node (if_then result body) around
put_if result (to_else first (to_end second around)) = put_node (if_else result first second) around
put_if result _ = broken

abbrev pub put_else : Open → Open
put_else (to_end second around) = to_else done (to_end second around)
put_else _ = broken

abbrev pub put_end : Open → Open
put_end broken = broken
put_end found = to_end done found

abbrev pub put_by : Nesting → Op → Open → Open
put_by (opens_block result) op found = put_region (block result) found
put_by (opens_loop result) op found = put_region (loop result) found
put_by (opens_if result) op found = put_if result found
put_by turns op found = put_else found
put_by closes op found = put_end found
put_by stands op found = put_node (plain op) found

abbrev pub parse : List Op → Open
parse [] = nothing
parse (op ∷ ops) = put_by (nesting op) op (parse ops)

abbrev pub whole : Open → Option Sequence
whole (to_end code nothing) = Some code
whole _ = None

-- the tree of flat code, where it is nested
abbrev pub tree_of : List Op → Option Sequence
tree_of ops = whole (parse ops)

-- flat code is one tree at most
abbrev pub OneTree : Type 0
OneTree = (ops : List Op) (a b : Sequence) → Reads ops a → Reads ops b → a ≡ b

-- the tree is found exactly where there is one
abbrev pub TreeReads : Type 0
TreeReads =
    (ops : List Op) (code : Sequence) →
    (Reads ops code → tree_of ops ≡ Some code) × (tree_of ops ≡ Some code → Reads ops code)
