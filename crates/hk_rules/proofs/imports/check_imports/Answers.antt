use Rattle.std.proofs.Common.{arith}
use Rattle.hk_rules.proofs.Importing.{none_imported, import_next, import_found, imported_all}
use Rattle.hk_rules.proofs.imports.check_imports.Goals as goal

pub loop-index-init : goal.loop-index-init
loop-index-init c = rw c.new-rows.ensures.items (none_imported _ _)

pub loop-index-preserved : goal.loop-index-preserved
loop-index-preserved c = rw c.in_ok-push.ensures.pushed
    (import_next c.args.types.now c.args.imports.now c.loop-index.index c.loop-index.rows c.index-imports-index.result
    c.in-Some.number
    (omega arith) c.index-imports-index.is c.in-Some.ensures.row c.loop-index.invariant)

pub returns-in_default-clause-first : goal.returns-in_default-clause-first
returns-in_default-clause-first c =
    λ known. import_found c.args.types.now c.args.imports.now c.loop-index.index c.index-imports-index.result
    (omega arith) c.index-imports-index.is c.in_default.ensures.row c.loop-index.invariant.kept

pub returns-clause-rows : goal.returns-clause-rows
returns-clause-rows c =
    imported_all c.args.types.now c.args.imports.now c.loop-index.index c.loop-index.rows (omega arith)
    c.loop-index.invariant
