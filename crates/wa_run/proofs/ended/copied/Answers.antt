use Rattle.std.proofs.Common.{◌++◌, ap, rules, ◌∙◌}
use Rattle.wa_run.proofs.Told.{text_cut}
use Rattle.wa_run.proofs.ended.copied.Goals as goal

pub returns : goal.returns
returns c = record {
  text =
      c.from_vec.ensures.items
      ∙ c.in-Ok.ensures.items
      ∙ ap (λ xs. xs ++ c.in-Some.bytes.now) c.requires.empty
      ∙ c.in-Some.ensures.bytes.1
      ∙ text_cut c.args.memory.now c.args.message.from c.args.message.size c.min.result (search rules);
}
