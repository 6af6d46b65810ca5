use Rattle.std.proofs.Common.{◌≡◌, drop}
use Rattle.wa_decode.specs.Modules.{body_of}
use Rattle.wa_decode.specs.Views.{views}
use Rattle.wa_decode.proofs.sections.find.Given as goal

abbrev pub invariant-loop-section : goal.invariant-loop-section
invariant-loop-section l = body_of l.id (views (drop l.section-index l.sections)) ≡ body_of l.id (views l.sections)
