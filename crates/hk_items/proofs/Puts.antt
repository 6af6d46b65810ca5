-- Entries besides State that an overlay puts or removes, as a draft's.
use Rattle.std.proofs.Common.{◌≡◌, refl, false, List, Option, Some, None, is_some}
use Rattle.std.specs.Option.{option_map}
use Rattle.hk_emit.specs.declared.emission.Emission.{Emission}
use Rattle.hk_state.specs.declared.entry.Entry.{Entry}
use Rattle.hk_state.specs.declared.key.Key.{Key}
use Rattle.hk_state.specs.Entries.{Entries}
use Rattle.hk_state.specs.Writes.{Writes, written}
use Rattle.hk_draft.specs.Drafted.{draft_of}
use Rattle.hk_draft.specs.Extends.{is_state}
use Rattle.hk_events.specs.Items.{put_entry, cut_entry}
use Rattle.hk_events.proofs.Writing.{overlays_mean}

pub put_so : (m : Entries) (w : Writes) (es : List Emission) (k : Key) (e : Entry) → is_state k ≡ false →
    draft_of m (written w k (Some e)) es ≡ put_entry k e (draft_of m w es)
put_so m w es k e other = (overlays_mean m w es).entry k (Some e) other

pub cut_so : (m : Entries) (w : Writes) (es : List Emission) (k : Key) → is_state k ≡ false →
    draft_of m (written w k None) es ≡ cut_entry k (draft_of m w es)
cut_so m w es k other = (overlays_mean m w es).entry k None other

pub mapped_some : {X Y : Type 0} (f : X → Y) (o : Option X) → is_some o ≡ is_some (option_map f o)
mapped_some f None = refl
mapped_some f (Some x) = refl
