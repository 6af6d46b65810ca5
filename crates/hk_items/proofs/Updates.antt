-- An update, by the hook that is there.
use Rattle.std.proofs.Common.{◌≡◌, refl, ℕ, List, Option, Some, None}
use Rattle.hk_base.specs.declared.ids.AccountId.{AccountId}
use Rattle.hk_base.specs.declared.ids.Hash256.{Hash256}
use Rattle.xo_object.specs.declared.transaction.Grant.{Grant}
use Rattle.xo_object.specs.declared.transaction.Parameter.{Parameter}
use Rattle.hk_lines.specs.declared.result_name.ResultName.TheVariants.{NoInstall}
use Rattle.hk_state.specs.declared.entry.Entry.{Entry}
use Rattle.hk_state.specs.declared.entry.Entry.TheVariants as entry
use Rattle.hk_state.specs.declared.key.Key.TheVariants as key
use Rattle.hk_draft.specs.Draft.{Draft}
use Rattle.hk_events.specs.Items.{ItemEnd, leaves, stops, put_entry, updated}
use Rattle.hk_items.specs.Endings.{changed}

-- puts a hook, or stops where there is none
abbrev pub put_or_stop : AccountId → ℕ → Draft → Option Entry → ItemEnd
put_or_stop owner position d None = stops NoInstall
put_or_stop owner position d (Some e) = leaves (put_entry (key.Install owner position) e d)

pub by_change : (owner : AccountId) (position : ℕ) (on namespace : Option Hash256)
    (parameters : Option (List Parameter)) (grants : Option (List Grant)) (d : Draft) (found : Option Entry) →
    updated owner position on namespace parameters grants d found ≡ put_or_stop owner position d
    (changed on namespace parameters grants found)
by_change owner position on namespace parameters grants d None = refl
by_change owner position on namespace parameters grants d (Some (entry.Account balance sequence)) = refl
by_change owner position on namespace parameters grants d (Some (entry.Install hash o n p g)) = refl
by_change owner position on namespace parameters grants d
    (Some (entry.Definition code version bound_hook bound_cbak)) = refl
by_change owner position on namespace parameters grants d (Some (entry.State bytes)) = refl
by_change owner position on namespace parameters grants d (Some (entry.Emitted blob hash first last callback)) = refl
by_change owner position on namespace parameters grants d (Some (entry.Other bytes)) = refl
