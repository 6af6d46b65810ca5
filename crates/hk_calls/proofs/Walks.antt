-- Going through a row's conditions forwards: what holds of all that it may give.
use Rattle.std.proofs.Common.{◌≡◌, Bool, true, false, refl, Result, Ok, Err}
use Rattle.hk_calls.specs.declared.code.Code.{Code}
use Rattle.hk_calls.specs.Rules.{OrCode, ◌>>=◌, ◌>>◌, refuse}

-- what a row gives, where it gives something
abbrev pub Gives : {A : Type 0} → (A → Type 0) → OrCode A → Type 0
Gives P (Ok x) = P x
Gives P (Err refused) = Unit {0}

-- behind something that is given
pub gives_then : {A B : Type 0} (P : B → Type 0) (row : OrCode A) (rest : A → OrCode B) →
    ((x : A) → row ≡ Ok x → Gives P (rest x)) → Gives P (row >>= rest)
gives_then P (Ok x) rest each = each x refl
gives_then P (Err refused) rest each = tt

-- behind a condition
pub gives_after : {A B : Type 0} (P : B → Type 0) (row : OrCode A) (rest : OrCode B) → Gives P rest →
    Gives P (row >> rest)
gives_after P (Ok x) rest given = given
gives_after P (Err refused) rest given = tt

-- behind a condition that didn't hold
pub gives_refuse : {B : Type 0} (P : B → Type 0) (condition : Bool) (refusal : Code) (rest : OrCode B) →
    (condition ≡ false → Gives P rest) → Gives P (refuse condition refusal >> rest)
gives_refuse P true refusal rest given = tt
gives_refuse P false refusal rest given = given refl
