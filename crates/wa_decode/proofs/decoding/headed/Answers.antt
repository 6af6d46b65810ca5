use Rattle.std.proofs.Common.{◌∙◌, ap, sym, Some}
use Rattle.wa_decode.specs.Modules.{header}
use Rattle.wa_decode.proofs.ModuleReaders.{behind_stripped, behind_missing}
use Rattle.wa_decode.proofs.decoding.headed.Goals as goal

pub returns-in-Some : goal.returns-in-Some
returns-in-Some c =
    behind_stripped header c.args.bytes.now c.in-Some.ensures.cases.0 ∙ ap Some (sym c.in-Some.ensures.cases.1)

pub returns-in-None : goal.returns-in-None
returns-in-None c = behind_missing header c.args.bytes.now c.in-None.ensures.cases
