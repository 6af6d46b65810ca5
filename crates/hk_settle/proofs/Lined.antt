-- The `state` lines, key by key.
use Rattle.std.proofs.Common.{◌≡◌, ◌∙◌, ℕ, zero, suc, ◌+◌, List, [], ◌∷◌, ◌++◌, drop}
use Rattle.std.proofs.Common.{append_assoc, append-nil, sym, ap, refl, Option, Some, None}
use Rattle.std.specs.List.{slice_get}
use Rattle.std.specs.Option.{option_map}
use Rattle.std.proofs.Math.Seq.{drop-nil}
use Rattle.wa_ops.proofs.Places.{got_drop}
use Rattle.hk_lines.specs.declared.output_line.OutputLine.{OutputLine}
use Rattle.hk_state.specs.declared.entry.Entry.{Entry}
use Rattle.hk_state.specs.declared.key.Key.{Key}
use Rattle.hk_state.specs.declared.key.Key.TheVariants as key
use Rattle.hk_state.specs.Entries.{Entries}
use Rattle.hk_state.specs.Rules.{state_keys}
use Rattle.hk_state.specs.Writes.{Writes, write_at}
use Rattle.hk_events.specs.Printed.{state_lines}

past_place : {X : Type 0} (xs : List X) (place : ℕ) → slice_get xs place ≡ None → drop place xs ≡ []
past_place [] place at = drop-nil place
past_place (x ∷ xs) zero at = cc
past_place (x ∷ xs) (suc place) at = past_place xs place at

-- the key of a listed write
abbrev key_of : Key × Option Entry → Key
key_of found = found.0

keys_at : (change : Key → Option Entry) (found : Option Key) →
    option_map key_of (option_map (λ k. (k, change k)) found) ≡ found
keys_at change None = refl
keys_at change (Some k) = refl

pub listed_key : (w : Writes) (place : ℕ) (k : Key) (change : Option Entry) → Some (k, change) ≡ write_at w place →
    slice_get w.listed place ≡ Some k
listed_key w place k change at =
    sym (keys_at _ (slice_get w.listed place)) ∙ ap (option_map key_of) (sym at)

pub none_listed : (w : Writes) (place : ℕ) → None ≡ write_at w place → slice_get w.listed place ≡ None
none_listed w place at = sym (keys_at _ (slice_get w.listed place)) ∙ ap (option_map key_of) (sym at)

-- the line of a key comes before those of the keys behind it
first_state : (m : Entries) (k : Key) (keys : List Key) →
    state_lines m (state_keys (k ∷ keys)) ≡ state_lines m (state_keys (k ∷ [])) ++ state_lines m (state_keys keys)
first_state m (key.Account id) keys = refl
first_state m (key.Install owner position) keys = refl
first_state m (key.Definition hash) keys = refl
first_state m (key.State owner namespace k) keys = refl
first_state m (key.Emitted n) keys = refl
first_state m (key.Other bytes) keys = refl

module _ (m : Entries) (keys : List Key) (place : ℕ) (lines whole : List OutputLine)
    (is : lines ++ state_lines m (state_keys (drop place keys)) ≡ whole) where
  pub next_state : (k : Key) → slice_get keys place ≡ Some k →
      (lines ++ state_lines m (state_keys (k ∷ []))) ++ state_lines m (state_keys (drop (place + 1) keys)) ≡ whole
  next_state k at =
      append_assoc lines (state_lines m (state_keys (k ∷ []))) (state_lines m (state_keys (drop (place + 1) keys)))
      ∙ ap (λ more. lines ++ more) (sym (first_state m k (drop (place + 1) keys)))
      ∙ ap (λ more. lines ++ state_lines m (state_keys more)) (sym (got_drop keys place k at))
      ∙ is

  pub last_state : slice_get keys place ≡ None → lines ≡ whole
  last_state at =
      sym (append-nil lines)
      ∙ ap (λ more. lines ++ state_lines m (state_keys more)) (sym (past_place keys place at))
      ∙ is
