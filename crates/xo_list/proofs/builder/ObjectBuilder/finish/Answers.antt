use Rattle.std.proofs.Common.{◌≡◌, ◌∙◌, ap, subst}
use Rattle.xo_list.specs.Builder.{puts}
use Rattle.xo_list.specs.Item.{spell}
use Rattle.xo_list.specs.List.{IsList}
use Rattle.xo_list.proofs.Building.{finished}
use Rattle.xo_list.proofs.builder.ObjectBuilder.finish.Goals as goal

bytes_are : (c : goal.After-drop-self-inside-2) → c.in-Ok.object.bytes ≡ spell c.args.self
bytes_are c =
    c.in-Ok.ensures.ok
    ∙ c.as_slice-2.ensures.value
    ∙ c.in_ok-bytes.ensures.bytes
    ∙ ap (λ xs. spell (puts xs)) c.as_slice.ensures.value
    ∙ ap spell c.self.view_is

pub returns : goal.returns
returns c = record {
  object = (
    finished c.one_reading.ensures.law c.one_spelling.ensures.law c.args.self c.in-Ok.object
        (subst IsList c.self.view_is c.self.invariant) (bytes_are c) c.in-Ok.ensures.read,
    bytes_are c,
  );
}
