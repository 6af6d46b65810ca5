use Rattle.std.proofs.Common.{sym, subst}
use Rattle.wa_decode.specs.Modules.{Spells}
use Rattle.wa_text.proofs.Fitting.{assembled_spells}
use Rattle.wa_text.proofs.assembling.assemble.Goals as goal

pub returns-clause-spells : goal.returns-clause-spells
returns-clause-spells c =
    let m = c.in_ok-module.module in
    let means_it = c.in_ok-module.ensures.ok in (
      m,
      means_it,
      subst (Spells m) (sym c.in_ok-encode.ensures.bytes) (assembled_spells c.args.text.now m c.requires.size means_it),
    )
