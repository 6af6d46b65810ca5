use Rattle.std.proofs.Common.{◌∙◌, ap, refl}
use Rattle.hk_demo.proofs.Spelled.{set_hook_made, put}
use Rattle.hk_demo.proofs.blobs.set_hook.Goals as goal

pub returns : goal.returns
returns c = record {
  blob =
      set_hook_made c.args.k c.args.code.now c.from_vec.result c.requires.short
      (c.from_vec.ensures.items
      ∙ put _ _ _ _ _
      (put _ _ _ _ _
      (put _ _ _ _ _
      (put _ _ _ _ _
      (put _ _ _ _ _ c.in_ok-bytes.ensures.items c.in_ok-extend_from_slice.ensures.items
      (ap (λ id. id.0) c.account.ensures.id))
      c.in_ok-extend_from_slice-2.ensures.items refl)
      c.in_ok-push.ensures.items refl)
      c.in_ok-extend_from_slice-3.ensures.items refl)
      c.in_ok-extend_from_slice-4.ensures.items refl);
}
