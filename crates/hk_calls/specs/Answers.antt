-- What a call's code answers, beside what its row gives. `A` is whatever the call may change.
use Rattle.std.specs.Prelude.{◌≡◌, ℕ, ℤ, List, Result, Ok, Err}
use Rattle.std.specs.Borrow.{Bor}
use Rattle.hk_calls.specs.declared.code.Code.{Code}
use Rattle.hk_calls.specs.declared.refusal.Refusal.{Refusal}
use Rattle.hk_calls.specs.declared.refusal.Refusal.TheVariants as refusal
use Rattle.hk_calls.specs.Rules.{OrCode, ◌>>=◌}

-- the bytes behind a reference are the row's
abbrev pub ReadsAs : Result (Bor (List ℕ)) Code → OrCode (List ℕ) → Type 0
ReadsAs (Ok bytes) row = row ≡ Ok bytes.now
ReadsAs (Err refused) row = row ≡ Err refused

-- the answer and the new value are the row's; a refusal changes nothing
abbrev pub Gave : {A : Type 0} → A → A → Result ℤ Code → OrCode (ℤ × A) → Type 0
Gave old new (Ok n) row = row ≡ Ok (n, new)
Gave old new (Err refused) row = (row ≡ Err refused) × (new ≡ old)

-- the same, but for want of memory, which changes nothing either
abbrev pub GaveUnless : {A : Type 0} → A → A → Result ℤ Refusal → OrCode (ℤ × A) → Type 0
GaveUnless old new (Ok n) row = row ≡ Ok (n, new)
GaveUnless old new (Err (refusal.Code refused)) row = (row ≡ Err refused) × (new ≡ old)
GaveUnless old new (Err refusal.NoMemory) row = new ≡ old

-- what a value shows is the row's, but for want of memory
abbrev pub ShowsUnless : {A B : Type 0} → (A → B) → Result A Refusal → OrCode B → Type 0
ShowsUnless shown (Ok value) row = row ≡ Ok (shown value)
ShowsUnless shown (Err (refusal.Code refused)) row = row ≡ Err refused
ShowsUnless shown (Err refusal.NoMemory) row = Unit {0}

-- a row that changes a part, as one that changes the whole
abbrev pub changing : {A B : Type 0} → (A → B) → OrCode (ℤ × A) → OrCode (ℤ × B)
changing whole row = row >>= λ after. Ok (after.0, whole after.1)
