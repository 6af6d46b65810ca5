-- What the check of a body answers.
use Rattle.std.specs.Prelude.{ℕ}
use Rattle.wa_ops.specs.Typing.{Typing, leaves, fails}
use Rattle.wa_validate.specs.declared.body.Verdict.{Verdict}
use Rattle.wa_validate.specs.declared.body.Verdict.TheVariants.{Typed, Untyped}
use Rattle.wa_validate.specs.declared.depth.Depth.{Depth}

abbrev pub verdict_of : Typing → Depth → Verdict
verdict_of (leaves stack) depth = Typed depth
verdict_of (fails place) depth = Untyped place
