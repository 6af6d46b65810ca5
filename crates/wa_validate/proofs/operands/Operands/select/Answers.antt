use Rattle.wa_validate.specs.Slots.{slot_of}
use Rattle.wa_validate.proofs.Carrying.{select_second}
use Rattle.wa_validate.proofs.operands.Operands.select.Goals as goal

pub returns-in_default-take_any : goal.returns-in_default-take_any
returns-in_default-take_any c = record {
  selected =
      select_second c.args.self.now.slots c.args.self.now.loose (slot_of c.in-Some.second) c.take_any.new.self
      (c.take_any.ensures.some c.in-Some.second c.in-Some.is) (c.take_any-2.ensures.none c.in_default-take_any.is);
}
