use Rattle.std.proofs.Common.{◌∙◌, ap}
use Rattle.hk_lines.specs.declared.input_line.InputLine.TheVariants.{Tx}
use Rattle.hk_lines.specs.declared.verdict.Verdict.TheVariants.{Good}
use Rattle.hk_demo.specs.Blobs.{set_hook_blob}
use Rattle.hk_demo.specs.Summary.{play}
use Rattle.hk_demo.proofs.Playing.{begins}
use Rattle.hk_demo.proofs.demo_lines.begin.Goals as goal

pub returns : goal.returns
returns c = record {
  ok =
      begins c.args.play.now c.open_accounts.new.play c.line.new.self c.line-2.new.self c.line-3.new.self
      c.in_ok-open_accounts.ensures.ok
      (c.in_ok-line.ensures.ok ∙ ap (play c.open_accounts.new.play) c.ledger.ensures.line)
      (c.in_ok-line-2.ensures.ok
      ∙ ap (λ blob. play c.line.new.self (Tx Good blob))
      (c.in_ok-set_hook.ensures.blob ∙ ap (set_hook_blob 0) c.accept_code.ensures.code))
      (c.in_ok-line-3.ensures.ok
      ∙ ap (λ blob. play c.line-2.new.self (Tx Good blob))
      (c.in_ok-set_hook-2.ensures.blob ∙ ap (set_hook_blob 5) c.rollback_code.ensures.code));
}
