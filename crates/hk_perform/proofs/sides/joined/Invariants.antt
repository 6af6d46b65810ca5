use Rattle.std.proofs.Common.{◌≡◌, ◌++◌}
use Rattle.hk_perform.proofs.sides.joined.Given as goal

-- what is left goes behind those so far
abbrev pub invariant-loop-line : goal.invariant-loop-line
invariant-loop-line l = l.all ++ l.line-iterator.rest.items ≡ l.fn.earlier ++ l.fn.more
