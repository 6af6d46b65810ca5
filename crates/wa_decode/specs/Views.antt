-- Sections as contracts see them.
use Rattle.std.specs.Prelude.{List, map}
use Rattle.wa_decode.specs.Modules.{Section}
use Rattle.wa_decode.specs.declared.sections.RawSection.{RawSection}

abbrev pub view : RawSection → Section
view s = record { id = s.id; body = s.body.now }

abbrev pub views : List RawSection → List Section
views ss = map view ss
