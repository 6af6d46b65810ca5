use Rattle.serde_json.specs.View.{view}
use Rattle.xo_told.specs.declared.fault.JsonFault.TheVariants.{BadText}
use Rattle.xo_told.proofs.Telling.{tells_faults}
use Rattle.xo_json.proofs.Compared.{never_true}
use Rattle.xo_json.proofs.Refusing.{root_refuses}
use Rattle.xo_json.proofs.OneAnswer.{root_tells, refusal_tells, none_shown}
use Rattle.xo_json.proofs.reading.read_json.Goals as goal

pub returns-in-Ok-clause-refuses : goal.returns-in-Ok-clause-refuses
returns-in-Ok-clause-refuses c =
    root_refuses _ c.args.text.now (view c.in-Ok.value) c.read_root.result c.in-Ok.ensures.ok c.read_root.ensures.root

pub returns-in-Ok-clause-told : goal.returns-in-Ok-clause-told
returns-in-Ok-clause-told c =
    root_tells _ c.args.text.now (view c.in-Ok.value) c.read_root.result c.in-Ok.ensures.ok c.read_root.ensures.root

pub returns-in-Ok-clause-told_fault : goal.returns-in-Ok-clause-told_fault
returns-in-Ok-clause-told_fault c =
    refusal_tells c.args.text.now c.read_root.result
    (root_refuses _ c.args.text.now (view c.in-Ok.value) c.read_root.result c.in-Ok.ensures.ok c.read_root.ensures.root)

pub returns-in-Ok-clause-complete : goal.returns-in-Ok-clause-complete
returns-in-Ok-clause-complete c =
    none_shown c.args.text.now c.read_root.result
    (root_refuses _ c.args.text.now (view c.in-Ok.value) c.read_root.result c.in-Ok.ensures.ok c.read_root.ensures.root)

-- a text that isn't JSON
pub returns-else-is_memory-clause-told_fault : goal.returns-else-is_memory-clause-told_fault
returns-else-is_memory-clause-told_fault c = λ other.
    (tells_faults c.args.text.now BadText other).1
    (c.in-Err.ensures.err (λ memory. never_true c.is_memory.result (c.is_memory.ensures.1 memory) c.if-is_memory.false))
