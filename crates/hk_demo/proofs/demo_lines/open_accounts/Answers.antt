use Rattle.std.proofs.Common.{rules, ◌∙◌, ap, arith}
use Rattle.hk_lines.specs.declared.input_line.InputLine.TheVariants.{Account}
use Rattle.hk_demo.specs.Summary.{play}
use Rattle.hk_demo.proofs.Playing.{next_account, no_accounts}
use Rattle.hk_demo.proofs.demo_lines.open_accounts.Goals as goal

pub loop-k-init : goal.loop-k-init
loop-k-init c = (no_accounts c.args.play.now, omega arith)

pub loop-k-preserved : goal.loop-k-preserved
loop-k-preserved c = (
  next_account c.args.play.now c.loop-k.play c.line.new.self c.loop-k.k c.loop-k.invariant.0
      (c.in_ok-line.ensures.ok ∙ ap (λ id. play c.loop-k.play (Account id 1000000000000 1)) c.account.ensures.id),
  search rules,
)
