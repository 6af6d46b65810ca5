use Rattle.xo_list.proofs.Walk.{counted}
use Rattle.xo_list.proofs.find.count_elements.Goals as goal

pub returns : goal.returns
returns c = record {
  count =
      λ elements h.
      counted c.args.bytes.now elements c.skip_elements.result h c.requires.short
      (c.skip_elements.ensures.passed elements h);
}
