use Rattle.std.proofs.Common.{◌∙◌, ap, refl, Some}
use Rattle.hk_state.specs.declared.key.Key.TheVariants as key
use Rattle.hk_state.specs.Writes.{written}
use Rattle.hk_draft.specs.Drafted.{draft_of}
use Rattle.hk_items.proofs.Puts.{put_so}
use Rattle.hk_items.proofs.place.put_hook.Goals as goal

pub returns : goal.returns
returns c = record {
  put = λ m es.
      ap (λ w. draft_of m w es) c.in_ok-put.ensures.ok
      ∙ ap (λ k. draft_of m (written c.args.overlay k (Some c.args.entry)) es) c.key.ensures.key
      ∙ put_so m c.args.overlay es (key.Install c.args.place.owner c.args.place.position) c.args.entry refl;
}
