use Rattle.std.proofs.Common.{◌∙◌, Some}
use Rattle.hk_items.specs.Checks.{checked}
use Rattle.hk_items.proofs.Judged.{held, refused}
use Rattle.hk_items.proofs.creating.found_in.Goals as goal

pub returns-in-Ok : goal.returns-in-Ok
returns-in-Ok c = record {
  found = (λ i. Some (checked (c.hash.ensures.hash i) (c.bound_hook.ensures.bound i) (c.bound_cbak.ensures.bound i)))
      ∙ held c.args.version c.args.code.now c.in-Ok.checked c.in-Ok.ensures.accepted;
}

pub returns-in_default : goal.returns-in_default
returns-in_default c = record {
  found = refused c.args.version c.args.code.now c.in-Err.found c.in_default.not-NoMemory c.in-Err.ensures.refused;
}
