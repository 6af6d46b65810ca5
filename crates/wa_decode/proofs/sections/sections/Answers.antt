use Rattle.std.proofs.Common.{◌≡◌, ◌++◌, ◌∷◌, []}
use Rattle.std.proofs.lemmas.List.{map_push}
use Rattle.wa_decode.specs.Views.{view, views}
use Rattle.wa_decode.proofs.Loops.{section_read, section_shorter}
use Rattle.wa_decode.proofs.sections.sections.Goals as goal

pub loop-rest-smaller : goal.loop-rest-smaller
loop-rest-smaller c =
    section_shorter c.loop-rest.rest.now (view c.in_ok-section.section) c.in_ok-section.after.now
    c.in_ok-section.ensures

pub loop-rest-preserved : goal.loop-rest-preserved
loop-rest-preserved c =
    let s = c.in_ok-section.section in
    let e : views c.push.new.self.items ≡ views c.loop-rest.sections.items ++ view s ∷ [] =
    rw c.in_ok-push.ensures.items (map_push _ c.loop-rest.sections.items s) in
    rw e (section_read c.args.bytes.now (views c.loop-rest.sections.items) c.loop-rest.rest.now (view s)
    c.in_ok-section.after.now c.loop-rest.invariant c.in_ok-section.ensures)
