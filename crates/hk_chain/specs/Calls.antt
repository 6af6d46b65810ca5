-- All calls of a hook: rows 3 to 26, which need no ledger, and rows 27 to 64 (this project's own, after the XRPL
-- Hooks).
use Rattle.std.specs.Prelude.{ℕ, ◌≡◌, nat_lt, Bool, true, false, ℤ, List, length, if◌then◌else◌}
use Rattle.wa_machine.specs.Machine.{HostMeaning}
use Rattle.wa_machine.specs.Starts.{meaning_of}
use Rattle.hk_api_pure.specs.Table.{pure_call}
use Rattle.hk_api_pure.proofs.Lengths.{pure_keeps_length}
use Rattle.hk_api.specs.Ends.{answers_length}
use Rattle.hk_api.specs.HostState.{HostState}
use Rattle.hk_api.specs.Table.{Given, answers}

-- an answer and a memory, and nothing else changed
abbrev pub unchanged : HostState → ℤ × List ℕ → Given
unchanged h after = record { answer = after.0; memory = after.1; after = h }

unfoldable pub hook_answers : HostState → ℕ → List ℕ → List ℕ → Given
hook_answers h row arguments memory =
    if nat_lt row 27 then unchanged h (pure_call row arguments memory) else answers h row arguments memory

abbrev pub hook_meaning : HostMeaning HostState
hook_meaning =
    meaning_of (λ h row arguments memory. (hook_answers h row arguments memory).answer)
    (λ h row arguments memory. (hook_answers h row arguments memory).memory)
    (λ h row arguments memory. (hook_answers h row arguments memory).after)

length_by : (b : Bool) (h : HostState) (row : ℕ) (arguments memory : List ℕ) →
    length (if b then unchanged h (pure_call row arguments memory) else answers h row arguments memory).memory
    ≡ length memory
length_by true h row arguments memory = pure_keeps_length row arguments memory
length_by false h row arguments memory = answers_length h row arguments memory

-- a call keeps the memory's length
pub hook_answers_length : (h : HostState) (row : ℕ) (arguments memory : List ℕ) →
    length (hook_answers h row arguments memory).memory ≡ length memory
unfolding hook_answers
hook_answers_length h row arguments memory = length_by (nat_lt row 27) h row arguments memory
