-- What a check of some rules answers (this project's own).
use Rattle.std.specs.Prelude.{ℕ, ◌≡◌, ◌<◌, Bool, true, false, List, Option, Some, None, Result, Ok, Err}
use Rattle.wa_ops.specs.declared.rule_fault.RuleFault.{RuleFault}
use Rattle.wa_ops.specs.HookRules.{Rule, IsFirst, AreKept}

-- all these rules are kept, or the fault is that of the first that is broken
abbrev pub Judges : {A : Type 0} → List Rule → Result A RuleFault → Type 0
Judges rules (Ok x) = AreKept rules
Judges rules (Err found) = IsFirst rules found

-- the least number that passes a test, where there is one
abbrev pub FindsIndex : (ℕ → Bool) → Option ℕ → Type 0
FindsIndex broken None = (i : ℕ) → broken i ≡ false
FindsIndex broken (Some i) = (broken i ≡ true) × ((j : ℕ) → j < i → broken j ≡ false)
