-- The rows from 27 to 64 of the table of calls, by the places of their arguments (this project's own, after the XRPL
-- Hooks). They stand in groups, by what they may change.
use Rattle.std.specs.Prelude.{ℕ, ◌==◌, ◌||◌, ◌&&◌, nat_lt, nat_le, Bool, ℤ, pos, List, Ok, Err, if◌then◌else◌}
use Rattle.hk_calls.specs.Answers.{changing}
use Rattle.hk_calls.specs.Arguments.{narrow_at, pair_of}
use Rattle.hk_calls.specs.Codes.{number_of}
use Rattle.hk_calls.specs.declared.arguments.Pair.{Pair}
use Rattle.hk_calls.specs.Outputs.{Output, answering, outcome, put}
use Rattle.hk_calls.specs.Rules.{OrCode, ◌>>=◌}
use Rattle.hk_emit.specs.declared.emission.Emission.{Emission}
use Rattle.hk_slots.specs.Slots.{SlotMap}
use Rattle.hk_api_parts.specs.declared.chain_state.ChainState.{ChainState}
use Rattle.hk_api_parts.specs.declared.emitting.Emitting.{Emitting}
use Rattle.hk_api_parts.specs.Settings.{fee_base, ledger_seq, ledger_last_time, ledger_last_hash, otxn_type, otxn_id}
use Rattle.hk_api_parts.specs.Settings.{otxn_field, otxn_param, otxn_burden, otxn_generation}
use Rattle.hk_api_parts.specs.Places.{hook_account, hook_pos}
use Rattle.hk_api_parts.specs.Overrides.{hook_param_set}
use Rattle.hk_api_parts.specs.SlotRows.{otxn_slot, slot, slot_clear, slot_count, slot_size, slot_subfield}
use Rattle.hk_api_parts.specs.SlotRows.{slot_subarray, slot_type, slot_float}
use Rattle.hk_api_parts.specs.Emitting.{ledger_nonce, etxn_reserve, etxn_burden, etxn_generation, etxn_nonce}
use Rattle.hk_api_parts.specs.Emitting.{etxn_details, drawing}
use Rattle.hk_api.specs.HostState.{HostState, StateWrite, with_write, with_chain, with_slots, with_emitting}
use Rattle.hk_api.specs.HostState.{with_emission}
use Rattle.hk_api.specs.States.{state, state_set, state_foreign, state_foreign_set}
use Rattle.hk_api.specs.Emissions.{emit}
use Rattle.hk_api.specs.Fee.{etxn_fee_base}
use Rattle.hk_api.specs.SlotSet.{slot_set}
use Rattle.hk_api.specs.Hooks.{hook_hash, hook_param, hook_skip}

-- the memory and the state
abbrev pub Left : Type 0
Left = List ℕ × HostState

abbrev pub left : List ℕ → HostState → Left
left m s = (m, s)

-- rows that ask for the setting
unfoldable pub setting_row : HostState → ℕ → List ℕ → List ℕ → OrCode Output
setting_row s row a m =
    if row == 27 then answering fee_base else
    if row == 28 then answering (ledger_seq s.setting) else
    if row == 29 then answering (ledger_last_time s.setting) else
    if row == 30 then ledger_last_hash s.setting m (pair_of a 0) else
    if row == 38 then answering (otxn_type s.setting) else
    if row == 39 then otxn_id s.setting m (pair_of a 0) else
    if row == 40 then otxn_field s.setting m (pair_of a 0) (narrow_at a 2) else
    if row == 42 then otxn_param s.setting m (pair_of a 0) (pair_of a 2) else
    if row == 43 then answering (otxn_burden s.setting) else
    answering (otxn_generation s.setting)

unfoldable pub is_setting_row : ℕ → Bool
is_setting_row row = nat_le row 30 || (nat_le 38 row && nat_le row 40) || (nat_le 42 row && nat_le row 44)

-- rows that ask for slots
unfoldable pub slot_asking_row : HostState → ℕ → List ℕ → List ℕ → OrCode Output
slot_asking_row s row a m =
    if row == 45 then slot s.slots m (pair_of a 0) (narrow_at a 2) else
    if row == 48 then answering (slot_count s.slots (narrow_at a 0)) else
    if row == 49 then answering (slot_size s.slots (narrow_at a 0)) else
    if row == 52 then answering (slot_type s.slots (narrow_at a 0) (narrow_at a 1)) else
    answering (slot_float s.slots (narrow_at a 0))

unfoldable pub is_slot_asking_row : ℕ → Bool
is_slot_asking_row row = row == 45 || row == 48 || row == 49 || row == 52 || row == 53

-- other rows that change nothing; a number that is no row's answers 0
unfoldable pub hook_row : HostState → ℕ → List ℕ → List ℕ → OrCode Output
hook_row s row a m =
    if row == 32 then hook_account s.place m (pair_of a 0) else
    if row == 33 then hook_hash s m (pair_of a 0) (narrow_at a 2) else
    if row == 34 then answering (hook_pos s.place) else
    if row == 35 then hook_param s m (pair_of a 0) (pair_of a 2) else
    if row == 54 then state s m (pair_of a 0) (pair_of a 2) else
    if row == 56 then state_foreign s m (pair_of a 0) (pair_of a 2) (pair_of a 4) (pair_of a 6) else
    if row == 59 then answering (etxn_burden s.setting s.emitting) else
    if row == 60 then answering (etxn_generation s.setting) else
    answering (Ok (pos 0))

-- rows that change nothing
unfoldable pub asking_row : HostState → ℕ → List ℕ → List ℕ → OrCode Output
asking_row s row a m =
    if is_setting_row row then setting_row s row a m else
    if is_slot_asking_row row then slot_asking_row s row a m else
    hook_row s row a m

-- rows that change what is passed on
unfoldable pub is_chain_row : ℕ → Bool
is_chain_row row = row == 36 || row == 37

unfoldable pub chain_row : HostState → ℕ → List ℕ → List ℕ → OrCode (ℤ × ChainState)
chain_row s row a m =
    if row == 36 then hook_param_set s.chain m (pair_of a 0) (pair_of a 2) (pair_of a 4) else
    hook_skip s m (pair_of a 0) (narrow_at a 2)

-- rows that change the slots
unfoldable pub is_slot_row : ℕ → Bool
is_slot_row row = row == 41 || row == 46 || row == 47 || row == 50 || row == 51

unfoldable pub slot_row : HostState → ℕ → List ℕ → List ℕ → OrCode (ℤ × SlotMap)
slot_row s row a m =
    if row == 41 then otxn_slot s.slots s.setting (narrow_at a 0) else
    if row == 46 then slot_set s m (pair_of a 0) (narrow_at a 2) else
    if row == 47 then slot_clear s.slots (narrow_at a 0) else
    if row == 50 then slot_subfield s.slots (narrow_at a 0) (narrow_at a 1) (narrow_at a 2) else
    slot_subarray s.slots (narrow_at a 0) (narrow_at a 1) (narrow_at a 2)

-- rows that write state
unfoldable pub is_state_row : ℕ → Bool
is_state_row row = row == 55 || row == 57

unfoldable pub state_row : HostState → ℕ → List ℕ → List ℕ → OrCode (ℤ × StateWrite)
state_row s row a m =
    if row == 55 then state_set s m (pair_of a 0) (pair_of a 2) else
    state_foreign_set s m (pair_of a 0) (pair_of a 2) (pair_of a 4) (pair_of a 6)

-- rows that draw nonces
unfoldable pub is_drawing_row : ℕ → Bool
is_drawing_row row = row == 31 || row == 61 || row == 62

unfoldable pub drawing_row : HostState → ℕ → List ℕ → List ℕ → OrCode (Output × Emitting)
drawing_row s row a m =
    if row == 31 then ledger_nonce s.setting s.place s.emitting m (pair_of a 0) else
    if row == 61 then etxn_nonce s.setting s.place s.emitting m (pair_of a 0) else
    etxn_details s.setting s.place s.emitting m (pair_of a 0)

-- what is left after a nonce was drawn
abbrev pub left_drawn : HostState → List ℕ × Emitting → Left
left_drawn s after = left after.0 (with_emitting s after.1)

-- the answer, and what is left, after an emission
abbrev pub issuing : HostState → List ℕ → Pair → OrCode (Output × Emission) → OrCode (ℤ × Left)
issuing s m write row = row >>= λ r. put m write r.0 >>= λ after. Ok (after.0, left after.1 (with_emission s r.1))

-- the answer, and what is left, after a call of these rows, or the code that refuses it
unfoldable pub api_row : HostState → ℕ → List ℕ → List ℕ → OrCode (ℤ × Left)
api_row s row a m =
    if is_chain_row row then changing (λ chain. left m (with_chain s chain)) (chain_row s row a m) else
    if is_slot_row row then changing (λ slots. left m (with_slots s slots)) (slot_row s row a m) else
    if is_state_row row then changing (λ w. left m (with_write s w)) (state_row s row a m) else
    if row == 58 then changing (λ e. left m (with_emitting s e)) (etxn_reserve s.emitting (narrow_at a 0)) else
    if is_drawing_row row then changing (left_drawn s) (drawing m (pair_of a 0) (drawing_row s row a m)) else
    if row == 63 then changing (λ memory. left memory s) (outcome a m (answering (etxn_fee_base s m (pair_of a 0))))
    else
    if row == 64 then issuing s m (pair_of a 0) (emit s m (pair_of a 0) (pair_of a 2)) else
    changing (λ memory. left memory s) (outcome a m (asking_row s row a m))

-- what a call gives
pub record Given : Type 0 where
  pub answer : ℤ
  pub memory : List ℕ
  pub after : HostState

abbrev pub given : HostState → List ℕ → OrCode (ℤ × Left) → Given
given s m (Ok after) = record { answer = after.0; memory = after.1.0; after = after.1.1 }
given s m (Err refused) = record { answer = number_of refused; memory = m; after = s }

-- the rows that need no ledger answer 0 here
unfoldable pub answers : HostState → ℕ → List ℕ → List ℕ → Given
answers s row a m = given s m (if nat_lt row 27 then Ok (pos 0, left m s) else api_row s row a m)
