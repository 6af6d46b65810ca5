use Rattle.std.proofs.Common.{◌≡◌, false, subst}
use Rattle.xo_list.specs.Value.{IsValue}
use Rattle.xo_list.specs.declared.fault.ObjectFault.TheVariants.{NoMemory}
use Rattle.xo_list.specs.declared.skip.Place.TheVariants.{Fields}
use Rattle.xo_list.specs.Fault.{IsFault}
use Rattle.xo_list.proofs.Parts.{asks_less}
use Rattle.xo_list.proofs.NoWant.{never}
use Rattle.xo_list.proofs.check.check_object.Goals as goal

pub returns-in-Ok-clause-ok : goal.returns-in-Ok-clause-ok
returns-in-Ok-clause-ok c = (
  c.in-Ok.ensures.reads.0,
  asks_less (IsValue 10) false _ _ (λ last rest h. h.0) 0 c.in-Ok.ensures.reads.0 c.args.bytes.now
      c.in-Ok.ensures.reads.1,
)

pub returns-in-Err-clause-memory : goal.returns-in-Err-clause-memory
returns-in-Err-clause-memory c e =
    let same : c.in-Err.fault ≡ NoMemory = cc in
    let h : IsFault c.args.bytes.now NoMemory = subst (λ f. IsFault c.args.bytes.now f) same c.in-Err.ensures.reads in
    never 10 Fields 0 h.0 c.args.bytes.now h.1
