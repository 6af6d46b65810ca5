use Rattle.std.proofs.Common.{◌∙◌, ap, refl, None}
use Rattle.hk_state.specs.declared.key.Key.TheVariants as key
use Rattle.hk_state.specs.Writes.{written}
use Rattle.hk_draft.specs.Drafted.{draft_of}
use Rattle.hk_items.proofs.Puts.{cut_so}
use Rattle.hk_items.proofs.place.cut_hook.Goals as goal

pub returns : goal.returns
returns c = record {
  cut = λ m es.
      ap (λ w. draft_of m w es) c.in_ok-remove.ensures.ok
      ∙ ap (λ k. draft_of m (written c.args.overlay k None) es) c.key.ensures.key
      ∙ cut_so m c.args.overlay es (key.Install c.args.place.owner c.args.place.position) refl;
}
