use Rattle.std.proofs.Common.{◌∙◌, ap, is_some}
use Rattle.hk_items.proofs.Puts.{mapped_some}
use Rattle.hk_items.proofs.place.has.Goals as goal

pub returns : goal.returns
returns c = record { has = c.is_some.ensures ∙ mapped_some _ c.get.result ∙ ap is_some c.get.ensures.entry }
