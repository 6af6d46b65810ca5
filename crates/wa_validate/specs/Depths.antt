-- How deep code goes, by the same recursion as its typing (this project's own).
use Rattle.std.specs.Prelude.{ℕ, ◌+◌, max, List, [], ◌∷◌, Option, Some, None, length}
use Rattle.wa_ops.specs.declared.op.ValueType.{ValueType}
use Rattle.wa_ops.specs.declared.op.ValueType.TheVariants.{I32}
use Rattle.wa_ops.specs.Sequences.{Sequence, done, plain, block, loop, if_then, if_else}
use Rattle.wa_ops.specs.Typing.{Context, Stack, fresh, pop, push_result, effect}
use Rattle.wa_validate.specs.declared.depth.Depth.{Depth}

abbrev pub surface : Depth
surface = record { operands = 0; labels = 0 }

abbrev pub deeper : Depth → Depth → Depth
deeper a b = record { operands = max a.operands b.operands; labels = max a.labels b.labels }

-- at a place: the operands of all open regions together, and how many regions are open
abbrev pub depth_at : List (Option ValueType) → ℕ → Stack → Depth
depth_at labels below stack = record { operands = below + length stack.slots; labels = length labels }

abbrev pub depth_on : Option Stack → (Stack → Depth) → Depth
depth_on None next = surface
depth_on (Some stack) next = next stack

-- the greatest depth at the places of code and at its end, with this stack before it and this many operands in the
-- regions around
abbrev pub peak : Context → List (Option ValueType) → Sequence → ℕ → Stack → Depth
peak context labels done below stack = depth_at labels below stack
peak context labels (plain instruction rest) below stack =
    deeper (depth_at labels below stack)
    (depth_on (effect context labels instruction stack) (peak context labels rest below))
peak context labels (block result body rest) below stack =
    deeper (depth_at labels below stack)
    (deeper (peak context (result ∷ labels) body (below + length stack.slots) fresh)
    (peak context labels rest below (push_result result stack)))
peak context labels (loop result body rest) below stack =
    deeper (depth_at labels below stack)
    (deeper (peak context (None ∷ labels) body (below + length stack.slots) fresh)
    (peak context labels rest below (push_result result stack)))
peak context labels (if_then result body rest) below stack =
    deeper (depth_at labels below stack) (depth_on (pop I32 stack) (λ left.
    deeper (peak context (result ∷ labels) body (below + length left.slots) fresh)
    (peak context labels rest below left)))
peak context labels (if_else result first second rest) below stack =
    deeper (depth_at labels below stack) (depth_on (pop I32 stack) (λ left.
    deeper (peak context (result ∷ labels) first (below + length left.slots) fresh)
    (deeper (peak context (result ∷ labels) second (below + length left.slots) fresh)
    (peak context labels rest below (push_result result left)))))

-- of a function's body
abbrev pub body_depth : Context → Sequence → Depth
body_depth context body = peak context (context.result ∷ []) body 0 fresh
