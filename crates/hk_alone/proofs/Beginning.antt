-- How a run begins.
use Rattle.std.proofs.Common.{◌≡◌, ◌∙◌, ap, List, [], Some}
use Rattle.hk_base.specs.declared.ids.Hash256.{Hash256}
use Rattle.xo_object.specs.declared.transaction.Parameter.{Parameter}
use Rattle.hk_emit.specs.declared.emission.Emission.{Emission}
use Rattle.hk_state.specs.Entries.{Entries}
use Rattle.hk_state.specs.Ledger.{LedgerValue}
use Rattle.hk_state.specs.Writes.{Writes, new_writes, with_writes, with_new, with_written, written}
use Rattle.hk_draft.specs.Draft.{Draft, draft_on}
use Rattle.hk_draft.specs.Drafted.{draft_of}
use Rattle.hk_api_parts.specs.declared.setting.Setting.{Setting}
use Rattle.hk_api_parts.specs.declared.place.Place.{Place}
use Rattle.hk_api.specs.HostState.{HostState, begun}
use Rattle.std.specs.FinMap.{insert, empty}
use Rattle.hk_base.specs.declared.ids.AccountId.{AccountId}
use Rattle.hk_state.specs.declared.entry.Entry.{Entry}
use Rattle.hk_state.specs.declared.entry.Entry.TheVariants as entry
use Rattle.hk_state.specs.declared.key.Key.{Key}
use Rattle.hk_state.specs.declared.key.Key.TheVariants as key
use Rattle.hk_alone.specs.Context.{first_host, with_hook, zeros}

pub unwritten : (m : Entries) (w : Writes) → w ≡ new_writes → with_writes m w ≡ m
unwritten m w none = ap (with_writes m) none ∙ with_new m

drafted : (m : Entries) (w : Writes) (es : List Emission) → w ≡ new_writes → es ≡ [] → draft_of m w es ≡ draft_on m
drafted m w es none empty =
    ap (λ v. draft_of m v es) none
    ∙ ap (λ fs. draft_of m new_writes fs) empty
    ∙ ap draft_on (with_new m)

pub begins : (setting : Setting) (place : Place) (l : LedgerValue) (w : Writes) (es : List Emission)
    (skipped : List Hash256) (overrides : List (Hash256 × Parameter)) →
    w ≡ new_writes → es ≡ [] → skipped ≡ [] → overrides ≡ [] →
    begun setting place l (draft_of l.entries w es) (record { skipped = skipped; overrides = overrides })
    ≡ first_host setting place l
unfolding first_host
begins setting place l w es skipped overrides none empty first second =
    ap (λ d. begun setting place l d (record { skipped = skipped; overrides = overrides }))
    (drafted l.entries w es none empty)
    ∙ ap (λ xs. begun setting place l (draft_on l.entries) (record { skipped = xs; overrides = overrides })) first
    ∙ ap (λ xs. begun setting place l (draft_on l.entries) (record { skipped = []; overrides = xs })) second

-- a write more
put : (w v : Writes) (k : Key) (e : Entry) → v ≡ written w k (Some e) →
    with_writes empty v ≡ insert (with_writes empty w) k e
put w v k e is = ap (with_writes empty) is ∙ with_written empty w k (Some e)

-- three entries put on none
pub three_put : (w x y z : Writes) (a b c : Key) (d e f : Entry) → w ≡ new_writes → x ≡ written w a (Some d) →
    y ≡ written x b (Some e) → z ≡ written y c (Some f) →
    with_writes empty z ≡ insert (insert (insert empty a d) b e) c f
three_put w x y z a b c d e f none first second third =
    put y z c f third
    ∙ ap (λ m. insert m c f) (put x y b e second)
    ∙ ap (λ m. insert (insert m b e) c f) (put w x a d first)
    ∙ ap (λ m. insert (insert (insert m a d) b e) c f) (unwritten empty w none)

pub hooked : (owner : AccountId) (hash h : Hash256) (definition d install : Entry) →
    install ≡ entry.Install hash zeros zeros [] [] → h ≡ hash → d ≡ definition →
    insert (insert (insert empty (key.Account owner) (entry.Account 100000000000 2)) (key.Install owner 0) install)
    (key.Definition h) d ≡ with_hook owner hash definition
hooked owner hash h definition d install first second third =
    ap (λ i. insert (insert one (key.Install owner 0) i) (key.Definition h) d) first
    ∙ ap (λ g. insert two (key.Definition g) d) second
    ∙ ap (λ x. insert two (key.Definition hash) x) third where
      one : Entries
      one = insert empty (key.Account owner) (entry.Account 100000000000 2)

      two : Entries
      two = insert one (key.Install owner 0) (entry.Install hash zeros zeros [] [])
