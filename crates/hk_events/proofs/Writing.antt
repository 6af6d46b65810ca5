-- An overlay's writes as an event's draft, and commits.
use Rattle.std.proofs.Common.{◌≡◌, ℕ, ◌+◌, true, false, if◌then◌else◌, List, [], ◌∷◌, ◌++◌, append-nil, length, refl}
use Rattle.std.proofs.Common.{ap, ◌∙◌, Some}
use Rattle.std.proofs.lemmas.List.Elements.{filter_map-append}
use Rattle.hk_emit.specs.declared.emission.Emission.{Emission}
use Rattle.hk_state.specs.declared.key.Key.{Key}
use Rattle.hk_state.specs.declared.key.Key.TheVariants as key
use Rattle.hk_state.specs.Entries.{Entries}
use Rattle.hk_state.specs.Rules.{as_state_key, state_keys}
use Rattle.hk_state.specs.Writes.{Writes, written, note, is_listed, with_writes, with_written, with_new}
use Rattle.hk_draft.specs.Extends.{is_state}
use Rattle.hk_events.specs.Events.{queued, with_queued}
use Rattle.hk_events.specs.Overlays.{all_queued, OverlaysMean, CommitsSo}

no_state : (k : Key) → is_state k ≡ false → state_keys (k ∷ []) ≡ []
no_state (key.State owner namespace q) h = cc
no_state (key.Account id) h = refl
no_state (key.Install owner position) h = refl
no_state (key.Definition hash) h = refl
no_state (key.Emitted n) h = refl
no_state (key.Other bytes) h = refl

noted_same : (k : Key) (keys : List Key) → is_state k ≡ false → state_keys (note k keys) ≡ state_keys keys
noted_same k keys other =
    elim (is_listed k keys) as (λ b. state_keys (if b then keys else keys ++ k ∷ []) ≡ state_keys keys) [
      | true ↦ refl
      | false ↦
          filter_map-append as_state_key keys (k ∷ [])
          ∙ ap (λ more. state_keys keys ++ more) (no_state k other)
          ∙ append-nil (state_keys keys)
    ]

pub overlays_mean : (m : Entries) (w : Writes) (es : List Emission) → OverlaysMean m w es
overlays_mean m w es = record {
  new = λ i. record { entries = with_new m i; written = []; emissions = [] };
  entry =
      λ k change other.
      λ i. record { entries = with_written m w k change i; written = noted_same k w.listed other i; emissions = es };
  relists = refl;
}

queued_writes : (m : Entries) (w : Writes) (next : ℕ) (es : List Emission) →
    with_writes m (all_queued w next es) ≡ with_queued next es (with_writes m w)
queued_writes m w next [] = refl
queued_writes m w next (e ∷ es) =
    queued_writes m (written w (key.Emitted next) (Some (queued e))) (next + 1) es
    ∙ ap (with_queued (next + 1) es) (with_written m w (key.Emitted next) (Some (queued e)))

pub commits_so : CommitsSo
commits_so ledger w es fee =
    λ i.
    record ledger {
      entries = queued_writes ledger.entries w ledger.next es i;
      next = ledger.next + length es;
      burnt = ledger.burnt + fee;
    }
