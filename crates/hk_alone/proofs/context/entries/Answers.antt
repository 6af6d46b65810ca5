use Rattle.std.proofs.Common.{◌≡◌, ◌∙◌}
use Rattle.hk_state.specs.declared.entry.Entry.TheVariants as entry
use Rattle.hk_state.specs.declared.key.Key.TheVariants as key
use Rattle.hk_alone.proofs.Beginning.{three_put, hooked}
use Rattle.hk_alone.proofs.context.entries.Goals as goal

pub returns : goal.returns
returns c = record {
  entries =
      three_put c.new-overlay.result c.put.new.self c.put-2.new.self c.put-3.new.self
      (key.Account c.args.owner) (key.Install c.args.owner 0) (key.Definition c.hash.result)
      (entry.Account 100000000000 2) c.install.result c.in_ok-definition.field-0
      c.new-overlay.ensures.empty c.in_ok-put.ensures.ok c.in_ok-put-2.ensures.ok c.in_ok-put-3.ensures.ok
      ∙ hooked c.args.owner c.args.checked.now.hash c.hash.result _ c.in_ok-definition.field-0 c.install.result
      c.install.ensures.install c.hash.ensures.hash c.in_ok-definition.ensures.definition;
}
