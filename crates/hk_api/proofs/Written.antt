-- The host's state after a write of its overlay.
use Rattle.std.proofs.Common.{◌≡◌, ℕ, List, [], ◌∷◌, refl, sym, ap, subst, ◌∙◌, Option, Some, Result, Ok, Err, OnOk}
use Rattle.std.proofs.Common.{OnErr}
use Rattle.hk_emit.specs.declared.emission.Emission.{Emission}
use Rattle.hk_state.specs.declared.entry.Entry.{Entry}
use Rattle.hk_state.specs.declared.entry.Entry.TheVariants as entry
use Rattle.hk_state.specs.declared.key.Key.{Key}
use Rattle.hk_state.specs.declared.key.StateKey.{StateKey}
use Rattle.hk_state.specs.Keys.{as_key}
use Rattle.hk_state.specs.Entries.{Entries}
use Rattle.hk_state.specs.Writes.{Writes, written, with_writes}
use Rattle.hk_draft.specs.Draft.{change_to, write_state}
use Rattle.hk_draft.specs.Drafted.{draft_of}
use Rattle.hk_draft.proofs.Drafting.{write_draft}
use Rattle.hk_api_parts.specs.declared.setting.Setting.{Setting}
use Rattle.hk_api.specs.Fits.{ReservesFit, IsFit}
use Rattle.hk_api.specs.HostState.{HostState, with_draft, with_state}

-- bytes that there are stand in an entry
pub change_kept : (bytes : List ℕ) → (bytes ≡ [] → ⊥) → Some (entry.State bytes) ≡ change_to bytes
change_kept [] some = absurd (some refl)
change_kept (b ∷ bs) some = refl

module _ (m : Entries) (w v : Writes) (es : List Emission) (q : StateKey) (bytes : List ℕ) (k : Key)
    (change : Option Entry)
    (at : k ≡ as_key q) (to : change ≡ change_to bytes) where
  pub draft_written : v ≡ written w k change → draft_of m v es ≡ write_state q bytes (draft_of m w es)
  draft_written is = ap (λ x. draft_of m x es) (is ∙ (λ i. written w (at i) (to i))) ∙ write_draft m w es q bytes

  pub state_written : (s h : HostState) → s ≡ h → s.draft ≡ draft_of m w es → v ≡ written w k change →
      with_draft s (draft_of m v es) ≡ with_state h q bytes
  state_written s h view so is =
      ap (with_draft s) (draft_written is ∙ ap (write_state q bytes) (sym so)) ∙ ap (λ x. with_state x q bytes) view

  pub still_fit : {A E : Type 0} (r : Result A E) (setting : Setting) (h : HostState) → draft_of m w es ≡ h.draft →
      OnOk r (v ≡ written w k change) → OnErr r (v ≡ w) → IsFit setting m (with_writes m w) →
      ReservesFit (write_state q bytes h.draft).entries → IsFit setting m (with_writes m v)
  still_fit (Ok x) setting h so is same fit fits = record {
    reserves = subst ReservesFit (sym (ap (λ d. d.entries) (draft_written is ∙ ap (write_state q bytes) so))) fits;
    fees = fit.fees;
    object = fit.object;
    short = fit.short;
    burden = fit.burden;
  }
  still_fit (Err e) setting h so is same fit fits = subst (λ x. IsFit setting m (with_writes m x)) (sym same) fit
