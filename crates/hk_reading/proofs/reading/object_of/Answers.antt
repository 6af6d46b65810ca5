use Rattle.std.proofs.Common.{subst, sym}
use Rattle.xo_list.specs.Span.{items}
use Rattle.xo_list.specs.Value.{IsObject, HasFields}
use Rattle.xo_list.proofs.OneList.{fields_or_fault}
use Rattle.hk_reading.specs.Parsing.{fields_of}
use Rattle.hk_reading.proofs.FieldsFound.{fields_found}
use Rattle.hk_reading.proofs.Finding.{unfound}
use Rattle.hk_reading.proofs.reading.object_of.Goals as goal

pub returns-in-Ok-clause-found : goal.returns-in-Ok-clause-found
returns-in-Ok-clause-found c =
    sym ((fields_found c.args.bytes.now).complete (items c.in-Ok.object)
    (subst (IsObject (items c.in-Ok.object)) c.in-Ok.ensures.ok c.in-Ok.ensures.read.object))

pub returns-in_default : goal.returns-in_default
returns-in_default c =
    let none : HasFields c.args.bytes.now → ⊥ =
    fields_or_fault c.one_reading.ensures.law 10 c.args.bytes.now c.in-Err.fault
    (c.in-Err.ensures.fault c.in_default.not-NoMemory) in
    record {
      found = sym (unfound (λ fields. IsObject fields c.args.bytes.now) (fields_of c.args.bytes.now)
          (fields_found c.args.bytes.now) (λ fields is. none (fields, is)));
      some = tt;
      same = tt;
      none = none;
    }
