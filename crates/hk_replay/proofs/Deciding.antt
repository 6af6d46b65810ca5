-- Each code has its verdict.
use Rattle.std.proofs.Common.{inl, inr}
use Rattle.hk_bound.proofs.Acceptance.{some_verdict}
use Rattle.hk_replay.specs.Verdicts.{EachVerdict, HeldVerdict}
use Rattle.hk_replay.proofs.Holding.{held_of}

pub held_verdict : HeldVerdict
held_verdict version code known =
    elim (some_verdict version code) [
      | inl accepted ↦ inl (held_of version code accepted.0 known accepted.1)
      | inr faulty ↦ inr (faulty.found, faulty.refused, faulty.apart)
    ]

pub each_verdict : EachVerdict
each_verdict version code no_hook never =
    elim (some_verdict version code) [
      | inl accepted ↦ no_hook accepted.0 accepted.1
      | inr faulty ↦ never faulty.found faulty.apart faulty.refused
    ]
