use Rattle.std.proofs.Common.{sym, ap, subst, ◌∙◌, arith}
use Rattle.hk_slots.specs.Part.{blob_at, shown, ArePartsOf}
use Rattle.hk_slots.proofs.Keeping.{shown_kept, parts_kept, keeps_set, keeps_push, last_blob}
use Rattle.hk_slots.proofs.places.keep.Goals as goal

pub returns-then-place-len-clause-shown : goal.returns-then-place-len-clause-shown
returns-then-place-len-clause-shown c =
    shown_kept c.args.blobs.now.items _ c.args.parts.now
    (keeps_set c.args.blobs.now.items c.args.parts.now c.free_place-place.result c.from_vec-blob.result
    (c.free_place-place.ensures.free (omega (arith, c.if-place-len.true))) c.requires)

pub returns-then-place-len-clause-parts : goal.returns-then-place-len-clause-parts
returns-then-place-len-clause-parts c =
    parts_kept c.args.blobs.now.items _ c.args.parts.now
    (keeps_set c.args.blobs.now.items c.args.parts.now c.free_place-place.result c.from_vec-blob.result
    (c.free_place-place.ensures.free (omega (arith, c.if-place-len.true))) c.requires) c.requires

pub returns-in_ok-push-clause-kept : goal.returns-in_ok-push-clause-kept
returns-in_ok-push-clause-kept c =
    ap (λ bs. blob_at bs c.free_place-place.result) c.in_ok-push.ensures.items
    ∙ last_blob c.args.blobs.now.items c.from_vec-blob.result c.free_place-place.result
    (omega (arith, c.free_place-place.ensures.within, c.if-place-len.false))
    ∙ c.from_vec-blob.ensures.items ∙ c.in_ok-from_slice.ensures.items

pub returns-in_ok-push-clause-shown : goal.returns-in_ok-push-clause-shown
returns-in_ok-push-clause-shown c =
    ap (λ bs. shown bs c.args.parts.now) c.in_ok-push.ensures.items
    ∙ shown_kept c.args.blobs.now.items _ c.args.parts.now
    (keeps_push c.args.blobs.now.items c.args.parts.now c.from_vec-blob.result c.requires)

pub returns-in_ok-push-clause-parts : goal.returns-in_ok-push-clause-parts
returns-in_ok-push-clause-parts c =
    subst (λ bs. ArePartsOf bs c.args.parts.now) (sym c.in_ok-push.ensures.items)
    (parts_kept c.args.blobs.now.items _ c.args.parts.now
    (keeps_push c.args.blobs.now.items c.args.parts.now c.from_vec-blob.result c.requires) c.requires)
