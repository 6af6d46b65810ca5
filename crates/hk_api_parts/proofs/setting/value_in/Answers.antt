use Rattle.std.proofs.Common.{sym, ◌∙◌}
use Rattle.hk_api_parts.proofs.Values.{value_is}
use Rattle.hk_api_parts.proofs.setting.value_in.Goals as goal

pub returns-in-Some : goal.returns-in-Some
returns-in-Some c =
    let (items, object) = c.requires.object in
    sym (value_is c.args.blob.now c.args.field items object ∙ (c.in-Some.ensures.found items object).2)

pub returns-in-None : goal.returns-in-None
returns-in-None c =
    let (items, object) = c.requires.object in
    sym (value_is c.args.blob.now c.args.field items object ∙ c.in-None.ensures.found items object)
