-- The loops of a function's body, and the innermost loop around each instruction (this project's own).
use Rattle.std.specs.Prelude.{ℕ, ◌+◌, List, [], ◌∷◌, ◌++◌, Option, Some, None, length, map}
use Rattle.std.specs.Option.{option_map}
use Rattle.wa_ops.specs.declared.modules.Code.{Code}
use Rattle.wa_ops.specs.Bound.{guard_numbers, loops}
use Rattle.wa_ops.specs.Ends.{behind}
use Rattle.wa_ops.specs.Sequences.{Sequence, done, plain, block, loop, if_then, if_else, tree_of}
use Rattle.hk_rules.specs.declared.guards.LoopGuard.{LoopGuard}
use Rattle.hk_rules.specs.declared.guards.FunctionGuards.{FunctionGuards}
use Rattle.hk_rules.specs.Sparing.{spared}

-- a loop that stands at this place, with the two numbers of its guard
abbrev pub loop_guard : Sequence → ℕ → LoopGuard
loop_guard body at = record { op = at; id = (guard_numbers body).id; limit = (guard_numbers body).limit }

-- the loops at any depth of a sequence that begins at this place, in order of place
abbrev pub loop_guards : Sequence → ℕ → List LoopGuard
loop_guards done at = []
loop_guards (plain op rest) at = loop_guards rest (at + 1)
loop_guards (block result body rest) at = loop_guards body (at + 1) ++ loop_guards rest (behind body (at + 1) + 1)
loop_guards (loop result body rest) at =
    loop_guard body at ∷ loop_guards body (at + 1) ++ loop_guards rest (behind body (at + 1) + 1)
loop_guards (if_then result body rest) at = loop_guards body (at + 1) ++ loop_guards rest (behind body (at + 1) + 1)
loop_guards (if_else result first second rest) at =
    loop_guards first (at + 1) ++ loop_guards second (behind first (at + 1) + 1) ++
    loop_guards rest (behind second (behind first (at + 1) + 1) + 1)

-- For each instruction of a sequence, with these entries behind it: the number of the innermost loop to whose body it
-- belongs.
-- The sequence stands in the body of the loop `around`, and so many loops begin before it.
-- The instruction `loop` belongs to the region around it, and the loop's `end` to its body.
abbrev pub innermost : Option ℕ → ℕ → Sequence → List (Option ℕ) → List (Option ℕ)
innermost around count done after = after
innermost around count (plain op rest) after = around ∷ innermost around count rest after
innermost around count (block result body rest) after =
    around ∷ innermost around count body (around ∷ innermost around (count + length (loops 0 body)) rest after)
innermost around count (loop result body rest) after =
    around ∷
    innermost (Some count) (count + 1) body
    (Some count ∷ innermost around (count + 1 + length (loops 0 body)) rest after)
innermost around count (if_then result body rest) after =
    around ∷ innermost around count body (around ∷ innermost around (count + length (loops 0 body)) rest after)
innermost around count (if_else result first second rest) after =
    around ∷ innermost around count first
    (around ∷ innermost around (count + length (loops 0 first)) second
    (around ∷ innermost around (count + length (loops 0 first) + length (loops 0 second)) rest after))

-- of a function's body, whose own `end` belongs to no loop
abbrev pub body_guards : Sequence → FunctionGuards
body_guards body = record {
  loops = loop_guards body 0;
  innermost = innermost None 0 body (None ∷ []);
  spared = spared body (0 ∷ []);
}

-- of each function, where its code is a tree
abbrev pub code_guards : List Code → List (Option FunctionGuards)
code_guards codes = map (λ code. option_map body_guards (tree_of code.ops)) codes
