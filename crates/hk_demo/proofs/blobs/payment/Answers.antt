use Rattle.std.proofs.Common.{◌∙◌, ap, refl}
use Rattle.hk_demo.proofs.Spelled.{payment_made, put}
use Rattle.hk_demo.proofs.blobs.payment.Goals as goal

pub returns : goal.returns
returns c = record {
  blob =
      payment_made c.args.sequence c.args.drops c.args.from c.args.to c.from_vec.result
      (c.from_vec.ensures.items
      ∙ put _ _ _ _ _
      (put _ _ _ _ _
      (put _ _ _ _ _
      (put _ _ _ _ _
      (put _ _ _ _ _
      (put _ _ _ _ _
      (put _ _ _ _ _ c.in_ok-bytes.ensures.items c.in_ok-extend_from_slice.ensures.items c.to_be_bytes.ensures)
      c.in_ok-push.ensures.items refl)
      c.in_ok-extend_from_slice-2.ensures.items c.to_be_bytes-2.ensures)
      c.in_ok-extend_from_slice-3.ensures.items refl)
      c.in_ok-extend_from_slice-4.ensures.items (ap (λ id. id.0) c.account.ensures.id))
      c.in_ok-extend_from_slice-5.ensures.items refl)
      c.in_ok-extend_from_slice-6.ensures.items (ap (λ id. id.0) c.account-2.ensures.id));
}
