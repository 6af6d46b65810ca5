use Rattle.std.proofs.Common.{◌≡◌, arith}
use Rattle.wa_ops.specs.HookRules.{is_hook}
use Rattle.hk_bound.specs.declared.fault.Export.TheVariants as «export»
use Rattle.hk_chain.specs.Calls.{hook_meaning}
use Rattle.hk_alone.specs.Context as alone
use Rattle.hk_replay.proofs.Answering.{held_so}
use Rattle.hk_replay.proofs.laws.printed_counts.Goals as goal

pub returns : goal.returns
returns c = record {
  law = λ version code text answer.
      let held = answer.held in
      let most =
      c.runs_within.ensures.law held
      (held_so version code held answer.holds) «export».Hook version hook_meaning 0 (alone.host code held)
      held.bound_hook
      (omega arith) answer.holds.bound_hook in
      let same =
      c.one_ending.ensures.law hook_meaning held.wasm is_hook 0 (alone.host code held) answer.outcome most.outcome
      answer.count most.count
      answer.after most.after answer.run most.run in
      let counts : answer.count ≡ most.count = same.1 in
      let within = most.within in omega (arith, counts, within);
}
