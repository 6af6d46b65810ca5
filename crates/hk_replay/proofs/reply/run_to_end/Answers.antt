use Rattle.std.proofs.Common.{◌≡◌, ◌∙◌, ap, IfOk}
use Rattle.std.proofs.lemmas.Result.{IfOk-weaker}
use Rattle.hk_lines.specs.OutputForms.{line_text}
use Rattle.hk_lines.specs.declared.output_line.OutputLine.TheVariants as printed
use Rattle.hk_replay.proofs.reply.run_to_end.Goals as goal

pub returns : goal.returns
returns c = record {
  line =
      IfOk-weaker c.run_line.result _ _ (λ text is. λ version holds. record {
        held = c.args.checked.now;
        holds = holds;
        outcome = c.in_ok-ended.ended.outcome;
        count = c.in_ok-ended.ended.count;
        after = c.in_ok-ended.ensures.run.0;
        run = c.in_ok-ended.ensures.run.1;
        line =
            is
            ∙ ap (λ bound. line_text (printed.Run c.in_ok-ended.ended.outcome c.in_ok-ended.ended.count bound))
            c.bound_hook-bound.ensures.bound;
      }) c.run_line.ensures.line;
}
