use Rattle.std.proofs.Common.{◌≡◌, drop}
use Rattle.wa_decode.specs.ModuleReading.{highest_at}
use Rattle.wa_decode.specs.Views.{views}
use Rattle.wa_decode.proofs.sections.highest.Given as goal

abbrev pub invariant-loop-section : goal.invariant-loop-section
invariant-loop-section l = highest_at l.last (views (drop l.section-index l.sections)) ≡ highest_at 0 (views l.sections)
