-- How calls end: what holds of each group's end holds of every call's.
use Rattle.std.specs.Prelude.{◌≡◌, ℕ, ◌==◌, nat_lt, ℤ, pos, Bool, true, false, List, length, Ok, Err, refl}
use Rattle.std.specs.Prelude.{if◌then◌else◌}
use Rattle.std.proofs.Common.{◌∙◌, ap, sym}
use Rattle.hk_calls.specs.Answers.{changing}
use Rattle.hk_calls.specs.Arguments.{narrow_at, pair_of}
use Rattle.hk_calls.specs.Outputs.{Output, answering, outcome, put}
use Rattle.hk_calls.specs.Outputs as outputs
use Rattle.hk_calls.specs.Rules.{OrCode, ◌>>=◌}
use Rattle.hk_calls.proofs.Lengths.{length_stays}
use Rattle.hk_emit.specs.declared.emission.Emission.{Emission}
use Rattle.hk_slots.specs.Slots.{SlotMap}
use Rattle.hk_api_parts.specs.declared.chain_state.ChainState.{ChainState}
use Rattle.hk_api_parts.specs.declared.emitting.Emitting.{Emitting}
use Rattle.hk_api_parts.specs.Emitting.{etxn_reserve, drawing}
use Rattle.hk_api.specs.HostState.{HostState, StateWrite, with_write, with_chain, with_slots, with_emitting}
use Rattle.hk_api.specs.HostState.{with_emission}
use Rattle.hk_api.specs.Emissions.{emit}
use Rattle.hk_api.specs.Fee.{etxn_fee_base}
use Rattle.hk_api.specs.Table.{left, left_drawn, issuing, is_chain_row, chain_row, is_slot_row, slot_row, is_state_row}
use Rattle.hk_api.specs.Table.{state_row, is_drawing_row, drawing_row, asking_row, api_row, Given, given, answers}

abbrev pub ends : ℤ → List ℕ → HostState → Given
ends n memory after = record { answer = n; memory = memory; after = after }

-- P of each way to end: a refusal, a call that asks, and one that changes a part
pub record Holds (s : HostState) (row : ℕ) (a m : List ℕ) (P : Given → Type 0) : Type 0 where
  pub asked : (n : ℤ) (memory : List ℕ) → length memory ≡ length m → P (ends n memory s)
  pub chain : (n : ℤ) (chain : ChainState) → P (ends n m (with_chain s chain))
  pub slots : (n : ℤ) (slots : SlotMap) → P (ends n m (with_slots s slots))
  pub state : (n : ℤ) (w : StateWrite) → state_row s row a m ≡ Ok (n, w) → P (ends n m (with_write s w))
  pub counted : (n : ℤ) (memory : List ℕ) (e : Emitting) → length memory ≡ length m →
      P (ends n memory (with_emitting s e))
  pub emission : (n : ℤ) (memory : List ℕ) (output : Output) (e : Emission) →
      emit s m (pair_of a 0) (pair_of a 2) ≡ Ok (output, e) →
      length memory ≡ length m → P (ends n memory (with_emission s e))

-- an output leaves the memory as long as it was
put_stays : (a m : List ℕ) (output : Output) (n : ℤ) (memory : List ℕ) → put m (pair_of a 0) output ≡ Ok (n, memory) →
    length memory ≡ length m
put_stays a m output n memory e = sym (ap (λ after. length (outputs.given m after).1) e) ∙ length_stays a m (Ok output)

module _ (s : HostState) (row : ℕ) (a m : List ℕ) (P : Given → Type 0) (h : Holds s row a m P) where
  refused : (n : ℤ) → P (ends n m s)
  refused n = h.asked n m refl

  -- a part that is changed beside the memory
  changed : {A : Type 0} (put_part : A → HostState) (part : OrCode (ℤ × A)) →
      ((n : ℤ) (x : A) → part ≡ Ok (n, x) → P (ends n m (put_part x))) →
      P (given s m (changing (λ x. left m (put_part x)) part))
  changed put_part (Ok after) all = all after.0 after.1 refl
  changed put_part (Err code) all = refused _

  asking : (row_gives : OrCode Output) (after : OrCode (ℤ × List ℕ)) → outcome a m row_gives ≡ after →
      P (given s m (changing (λ memory. left memory s) after))
  asking row_gives (Ok after) e =
      h.asked after.0 after.1 (sym (ap (λ o. length (outputs.given m o).1) e) ∙ length_stays a m row_gives)
  asking row_gives (Err code) e = refused _

  answered : (row_gives : OrCode Output) → P (given s m (changing (λ memory. left memory s) (outcome a m row_gives)))
  answered row_gives = asking row_gives (outcome a m row_gives) refl

  put_drawn : (r : Output × Emitting) (after : OrCode (ℤ × List ℕ)) → put m (pair_of a 0) r.0 ≡ after →
      P (given s m (changing (left_drawn s) (after >>= λ x. Ok (x.0, (x.1, r.1)))))
  put_drawn r (Ok after) e = h.counted after.0 after.1 r.1 (put_stays a m r.0 after.0 after.1 e)
  put_drawn r (Err code) e = refused _

  drawn : (row_gives : OrCode (Output × Emitting)) →
      P (given s m (changing (left_drawn s) (drawing m (pair_of a 0) row_gives)))
  drawn (Ok r) = put_drawn r (put m (pair_of a 0) r.0) refl
  drawn (Err code) = refused _

  put_issued : (r : Output × Emission) (after : OrCode (ℤ × List ℕ)) →
      emit s m (pair_of a 0) (pair_of a 2) ≡ Ok r → put m (pair_of a 0) r.0 ≡ after →
      P (given s m (after >>= λ x. Ok (x.0, left x.1 (with_emission s r.1))))
  put_issued r (Ok after) is e = h.emission after.0 after.1 r.0 r.1 is (put_stays a m r.0 after.0 after.1 e)
  put_issued r (Err code) is e = refused _

  issued : (row_gives : OrCode (Output × Emission)) → emit s m (pair_of a 0) (pair_of a 2) ≡ row_gives →
      P (given s m (issuing s m (pair_of a 0) row_gives))
  issued (Ok r) is = put_issued r (put m (pair_of a 0) r.0) is refl
  issued (Err code) is = refused _

  chain_rows : P (given s m (changing (λ chain. left m (with_chain s chain)) (chain_row s row a m)))
  chain_rows = changed (with_chain s) (chain_row s row a m) (λ n x _. h.chain n x)

  slot_rows : P (given s m (changing (λ slots. left m (with_slots s slots)) (slot_row s row a m)))
  slot_rows = changed (with_slots s) (slot_row s row a m) (λ n x _. h.slots n x)

  state_rows : P (given s m (changing (λ w. left m (with_write s w)) (state_row s row a m)))
  state_rows = changed (with_write s) (state_row s row a m) h.state

  reserve_row : P (given s m (changing (λ e. left m (with_emitting s e)) (etxn_reserve s.emitting (narrow_at a 0))))
  reserve_row = changed (with_emitting s) (etxn_reserve s.emitting (narrow_at a 0)) (λ n x _. h.counted n m x refl)

  by_group : (chain slot state reserve drawing_one fee emission_one : Bool) → P (given s m (
      if chain then changing (λ chain. left m (with_chain s chain)) (chain_row s row a m) else
      if slot then changing (λ slots. left m (with_slots s slots)) (slot_row s row a m) else
      if state then changing (λ w. left m (with_write s w)) (state_row s row a m) else
      if reserve then changing (λ e. left m (with_emitting s e)) (etxn_reserve s.emitting (narrow_at a 0)) else
      if drawing_one then changing (left_drawn s) (drawing m (pair_of a 0) (drawing_row s row a m)) else
      if fee then changing (λ memory. left memory s) (outcome a m (answering (etxn_fee_base s m (pair_of a 0)))) else
      if emission_one then issuing s m (pair_of a 0) (emit s m (pair_of a 0) (pair_of a 2)) else
      changing (λ memory. left memory s) (outcome a m (asking_row s row a m))))
  by_group true slot state reserve drawing_one fee emission_one = chain_rows
  by_group false true state reserve drawing_one fee emission_one = slot_rows
  by_group false false true reserve drawing_one fee emission_one = state_rows
  by_group false false false true drawing_one fee emission_one = reserve_row
  by_group false false false false true fee emission_one = drawn (drawing_row s row a m)
  by_group false false false false false true emission_one = answered (answering (etxn_fee_base s m (pair_of a 0)))
  by_group false false false false false false true = issued (emit s m (pair_of a 0) (pair_of a 2)) refl
  by_group false false false false false false false = answered (asking_row s row a m)

  rows : P (given s m (api_row s row a m))
  unfolding api_row
  rows =
      by_group (is_chain_row row) (is_slot_row row) (is_state_row row) (row == 58) (is_drawing_row row) (row == 63)
      (row == 64)

  by_number : (b : Bool) → P (given s m (if b then Ok (pos 0, left m s) else api_row s row a m))
  by_number true = refused (pos 0)
  by_number false = rows

  pub holds : P (answers s row a m)
  unfolding answers
  holds = by_number (nat_lt row 27)

-- a call keeps the memory's length
pub answers_length : (s : HostState) (row : ℕ) (a m : List ℕ) → length (answers s row a m).memory ≡ length m
answers_length s row a m = holds s row a m (λ g. length g.memory ≡ length m) (record {
  asked = λ n memory same. same;
  chain = λ n chain. refl;
  slots = λ n slots. refl;
  state = λ n w e. refl;
  counted = λ n memory e same. same;
  emission = λ n memory output e is same. same;
})
