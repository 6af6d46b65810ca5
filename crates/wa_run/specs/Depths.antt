-- How deep a run goes: the operands of all its open regions together, and its open regions.
use Rattle.std.specs.Prelude.{ℕ, zero, suc, ◌≡◌, ◌≤◌, List, length}
use Rattle.wa_validate.specs.declared.depth.Depth.{Depth}
use Rattle.wa_machine.specs.Machine.{Region, Configuration, World, Step, next, step}
use Rattle.wa_run.specs.Flat.{all_words}

abbrev pub depth_of : List Region → Depth
depth_of regions = record { operands = length (all_words regions); labels = length regions }

-- no more operands, and no more open regions
pub record IsWithin (most depth : Depth) : Type 0 where
  pub operands : depth.operands ≤ most.operands
  pub labels : depth.labels ≤ most.labels

-- so many steps lead from one configuration to another
abbrev pub Leads : {S : Type 0} → World S → ℕ → Configuration S → Configuration S → Type 0
Leads world zero c later = c ≡ later
Leads {S} world (suc more) c later = (d : Configuration S) × (step world c ≡ next d) × Leads world more d later

-- each configuration of a run from here on is within
abbrev pub StaysWithin : {S : Type 0} → World S → Depth → Configuration S → Type 0
StaysWithin {S} world most c =
    (count : ℕ) (later : Configuration S) → Leads world count c later → IsWithin most (depth_of later.regions)
