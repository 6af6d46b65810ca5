use Rattle.std.proofs.Common.{◌≡◌, map, length}
use Rattle.wa_text.specs.Instructions.{labels_of}
use Rattle.wa_text.proofs.Labels.{behind}
use Rattle.wa_text.proofs.instructions.read_labels.Given as goal

-- the labels so far, and what is read of the words that are left, are what is read of all
abbrev pub invariant-loop-rest : goal.invariant-loop-rest
invariant-loop-rest l =
    behind l.labels (labels_of (map (λ word. word.now) l.rest)) ≡ labels_of (map (λ word. word.now) l.parts)

abbrev pub decreases-loop-rest : goal.decreases-loop-rest
decreases-loop-rest l = length l.rest
