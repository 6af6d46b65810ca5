-- That each code has its verdict (this project's own).
use Rattle.std.specs.Prelude.{ℕ, ◌≢◌, ◌≤◌, ◌⊎◌, List}
use Rattle.wa_ops.specs.declared.modules.Module.{Module}
use Rattle.hk_bound.specs.Checks.{Held, Holds, IsHook, IsRefused}
use Rattle.hk_bound.specs.declared.fault.CheckFault.{CheckFault}
use Rattle.hk_bound.specs.declared.fault.CheckFault.TheVariants as fault

-- what is kept of the code where it is accepted in a version, or why it is refused
abbrev pub HasVerdict : ℕ → List ℕ → Type 0
HasVerdict version code =
    ((held : Held) × Holds version code held)
    ⊎ ((found : CheckFault) × IsRefused version code found × (found ≢ fault.NoMemory))

-- in each version of the machine, 0 and 1, each code has it
abbrev pub HeldVerdict : Type 0
HeldVerdict = (version : ℕ) (code : List ℕ) → version ≤ 1 → HasVerdict version code

-- no code is neither accepted nor refused
abbrev pub EachVerdict : Type 0
EachVerdict = (version : ℕ) (code : List ℕ) → ((m : Module) → IsHook version code m → ⊥) →
    ((found : CheckFault) → found ≢ fault.NoMemory → IsRefused version code found → ⊥) → ⊥
