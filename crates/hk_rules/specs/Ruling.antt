-- Whether a module meets the rules, as a test (this project's own).
use Rattle.std.specs.Prelude.{ℕ, zero, suc, ◌≡◌, ◌+◌, ◌&&◌, ◌||◌, not, List, [], ◌∷◌, Bool, true, false, length, sum_by}
use Rattle.wa_ops.specs.declared.modules.Module.{Module}
use Rattle.wa_ops.specs.HookRules.{IsRuled, Rule, hook_rules}

-- the test holds of a number below this one
unfoldable pub any_below : ℕ → (ℕ → Bool) → Bool
any_below zero test = false
any_below (suc n) test = test n || any_below n test

-- a rule is broken at an index and a place below this number
abbrev pub breaks : ℕ → (ℕ → ℕ → Bool) → Bool
breaks size broken = any_below size (λ i. any_below size (broken i))

unfoldable pub keeps_all : ℕ → List Rule → Bool
keeps_all size [] = true
keeps_all size (rule ∷ rules) = not (breaks size rule.broken) && keeps_all size rules

-- more than a section has items, and a body instructions
abbrev pub size_of : Module → ℕ
size_of m =
    1 + (length m.types + (length m.imports + (length m.functions + (length m.globals + (length m.segments
    + (length m.codes + sum_by (λ code. length code.ops) m.codes))))))

-- no rule is broken
unfoldable pub is_ruled : Module → Bool
is_ruled m = keeps_all (size_of m) (hook_rules m)

-- the test holds exactly of the modules that meet the rules
abbrev pub RulesDecided : Type 0
RulesDecided = (m : Module) → (is_ruled m ≡ true → IsRuled m) × (IsRuled m → is_ruled m ≡ true)
