use Rattle.xo_list.proofs.Walk.{found_value, found_place, absent_value, absent_place}
use Rattle.xo_list.proofs.find.find_field.Goals as goal

pub returns-in-Found : goal.returns-in-Found
returns-in-Found c = record {
  found =
      λ items h.
      found_value c.args.bytes.now c.args.field items c.in-Found.from c.in-Found.value c.in-Found.to
      (c.in-Found.ensures.located items h);
  place =
      λ items h.
      found_place c.args.bytes.now c.args.field items c.in-Found.from c.in-Found.value c.in-Found.to
      (c.in-Found.ensures.located items h);
}

pub returns-in-Absent : goal.returns-in-Absent
returns-in-Absent c = record {
  found =
      λ items h. absent_value c.args.bytes.now c.args.field items c.in-Absent.at (c.in-Absent.ensures.located items h);
  place =
      λ items h. absent_place c.args.bytes.now c.args.field items c.in-Absent.at (c.in-Absent.ensures.located items h);
}
