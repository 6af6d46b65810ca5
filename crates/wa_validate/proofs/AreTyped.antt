-- The test of typing says what typing is.
use Rattle.std.proofs.Common.{ℕ, zero, suc, ◌≡◌, ◌+◌, ◌<◌, ◌≤◌, inl, inr, ◌∙◌, [], ◌∷◌, Bool, true, false, Option, Some}
use Rattle.std.proofs.Common.{None, length, refl, sym, ap, subst, arith}
use Rattle.std.specs.Prelude.{◌&&◌, if◌then◌else◌, slice_get}
use Rattle.std.specs.Option.{option_map_or}
use Rattle.std.proofs.lemmas.Bool.{and_from, and_parts}
use Rattle.std.proofs.lemmas.Bool.Decides.{leb_tells}
use Rattle.std.proofs.lemmas.Option.{slice_get_past}
use Rattle.wa_ops.specs.declared.modules.Module.{Module}
use Rattle.wa_ops.specs.declared.op.ValueType.{ValueType}
use Rattle.wa_ops.specs.Contexts.{context_of}
use Rattle.wa_ops.specs.Functions.{body_of}
use Rattle.wa_ops.specs.Sequences.{Sequence, size, tree_of}
use Rattle.wa_ops.specs.Typing.{Context, Typing, leaves, fails, fresh, types, after_region, Leaves, and_then}
use Rattle.wa_validate.specs.AreTyped.{TypingDecided, are_typed, is_typed, is_typed_at, leaves_result, typed_below}
use Rattle.wa_validate.specs.Untyped.{IsTypedAt, IsUntyped}

left_back : (result : Option ValueType) (typing : Typing) → leaves_result result typing ≡ true → Leaves result typing
left_back result (leaves stack) h = h
left_back result (fails place) h = absurd (cc h)

left_forth : (result : Option ValueType) (typing : Typing) → Leaves result typing → leaves_result result typing ≡ true
left_forth result (leaves stack) h = h
left_forth result (fails place) h = absurd h

typed_back : (m : Module) (function : ℕ) → is_typed_at m function ≡ true → IsTypedAt m function
typed_back m function h body found =
    left_back (context_of m function).result
    (types (context_of m function) ((context_of m function).result ∷ []) body 0 fresh)
    (ap (λ o. option_map_or (is_typed (context_of m function)) o true) (sym found) ∙ h)

typed_forth : (m : Module) (function : ℕ) → IsTypedAt m function → is_typed_at m function ≡ true
typed_forth m function typed = at (body_of m function) refl
  where
    at : (o : Option Sequence) → body_of m function ≡ o → option_map_or (is_typed (context_of m function)) o true ≡ true
    at None e = refl
    at (Some body) e =
        left_forth (context_of m function).result
        (types (context_of m function) ((context_of m function).result ∷ []) body 0 fresh) (typed body e)

all_below : (m : Module) (count function : ℕ) → typed_below m count ≡ true → function < count →
    is_typed_at m function ≡ true
unfolding typed_below
all_below m zero function h less = absurd (omega (arith, less))
all_below m (suc count) function h less =
    elim (leb_tells (function + 1) count) [
      | inl earlier ↦
          let within = earlier.1 in
          all_below m count function (and_parts (typed_below m count) (is_typed_at m count) h).0 (omega (arith, within))
      | inr last ↦ let past = last.1 in
          let same : count ≡ function = omega (arith, less, past) in
          subst (λ n. is_typed_at m n ≡ true) same (and_parts (typed_below m count) (is_typed_at m count) h).1
    ]

count_below : (m : Module) (count : ℕ) → ((function : ℕ) → IsTypedAt m function) → typed_below m count ≡ true
unfolding typed_below
count_below m zero typed = refl
count_below m (suc count) typed =
    and_from (typed_below m count) (is_typed_at m count) (count_below m count typed) (typed_forth m count (typed count))

-- a number past the functions has no body
past_codes : (m : Module) (function : ℕ) → length m.codes ≤ function → is_typed_at m function ≡ true
past_codes m function past =
    ap (λ o. option_map_or (is_typed (context_of m function)) (and_then o (λ code. tree_of code.ops)) true)
    (slice_get_past m.codes function past)

pub typing_decided : TypingDecided
unfolding are_typed
typing_decided m = (λ h function. typed_back m function (at h function), λ typed. count_below m (length m.codes) typed)
  where
    at : typed_below m (length m.codes) ≡ true → (function : ℕ) → is_typed_at m function ≡ true
    at h function =
        elim (leb_tells (function + 1) (length m.codes)) [
          | inl less ↦ let within = less.1 in all_below m (length m.codes) function h (omega (arith, within))
          | inr more ↦ let past = more.1 in past_codes m function (omega (arith, past))
        ]

-- ---- the first function that isn't well typed

fails_at : (result : Option ValueType) (place : ℕ) (typing : Typing) → leaves_result result typing ≡ false →
    (failure : ℕ) × (after_region result place typing (leaves fresh) ≡ fails failure)
fails_at result place (fails failure) h = (failure, refl)
fails_at result place (leaves stack) h = (place, ap (λ b. if b then leaves fresh else fails place) h)

untyped_at : (m : Module) (function : ℕ) → is_typed_at m function ≡ false →
    ((earlier : ℕ) → earlier < function → IsTypedAt m earlier) → (place : ℕ) × IsUntyped m function place
untyped_at m function h first = at (body_of m function) refl h
  where
    at : (o : Option Sequence) → body_of m function ≡ o →
        option_map_or (is_typed (context_of m function)) o true ≡ false → (place : ℕ) × IsUntyped m function place
    at None e k = absurd (cc k)
    at (Some body) e k =
        let f =
        fails_at (context_of m function).result (size body)
        (types (context_of m function) ((context_of m function).result ∷ []) body 0 fresh) k in
        (f.0, record { body = body; found = e; failed = f.1; first = first })

untyped_below : (m : Module) (count : ℕ) → typed_below m count ≡ false →
    (function : ℕ) × (place : ℕ) × IsUntyped m function place
unfolding typed_below
untyped_below m zero h = absurd (cc h)
untyped_below m (suc count) h = at (typed_below m count) refl (λ e. untyped_below m count e) h
  where
    at : (b : Bool) → typed_below m count ≡ b →
        (typed_below m count ≡ false → (function : ℕ) × (place : ℕ) × IsUntyped m function place)
        → (b && is_typed_at m count) ≡ false → (function : ℕ) × (place : ℕ) × IsUntyped m function place
    at false e earlier k = earlier e
    at true e earlier k =
        let f = untyped_at m count k (λ earlier less. typed_back m earlier (all_below m count earlier e less)) in
        (count, f.0, f.1)

-- where not all functions are well typed, there is a first that isn't
pub some_untyped : (m : Module) → are_typed m ≡ false → (function : ℕ) × (place : ℕ) × IsUntyped m function place
unfolding are_typed
some_untyped m h = untyped_below m (length m.codes) h
