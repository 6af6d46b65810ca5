-- Forms whose words aren't as many as they should be.
use Rattle.std.proofs.Common.{◌≡◌, ℕ, List, [], ◌∷◌, length, None, refl}
use Rattle.hk_lines.specs.InputForms.{account_of, ledger_of}

pub account_none : (parts : List (List ℕ)) → (length parts ≡ 3 → ⊥) → None ≡ account_of parts
account_none [] other = refl
account_none (first ∷ []) other = refl
account_none (first ∷ second ∷ []) other = refl
account_none (first ∷ second ∷ third ∷ []) other = absurd (other refl)
account_none (first ∷ second ∷ third ∷ fourth ∷ parts) other = refl

pub ledger_none : (parts : List (List ℕ)) → (length parts ≡ 3 → ⊥) → None ≡ ledger_of parts
ledger_none [] other = refl
ledger_none (first ∷ []) other = refl
ledger_none (first ∷ second ∷ []) other = refl
ledger_none (first ∷ second ∷ third ∷ []) other = absurd (other refl)
ledger_none (first ∷ second ∷ third ∷ fourth ∷ parts) other = refl
