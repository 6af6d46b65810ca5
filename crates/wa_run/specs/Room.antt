-- Stacks in memory that is taken once, as contracts see them.
use Rattle.std.specs.Prelude.{ℕ, List}
use Rattle.wa_run.specs.declared.label.Label.{Label}

-- words, the last pushed first, and how many there is room for
pub record Words : Type 0 where
  pub items : List ℕ
  pub room : ℕ

-- labels, the innermost first, and how many there is room for
pub record Labels : Type 0 where
  pub items : List Label
  pub room : ℕ
