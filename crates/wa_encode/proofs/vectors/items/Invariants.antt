use Rattle.std.proofs.Common.{◌≡◌, ◌++◌, drop, flat_map}
use Rattle.wa_encode.proofs.vectors.items.Given as goal

abbrev pub invariant-loop-value : goal.invariant-loop-value
invariant-loop-value g l =
    l.out.items ++ flat_map g.W.Written.spell (drop l.value-index l.values)
    ≡ l.initial.out.items ++ flat_map g.W.Written.spell l.values
