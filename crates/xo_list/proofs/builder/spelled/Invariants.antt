use Rattle.std.proofs.Common.{◌≡◌, take}
use Rattle.xo_list.specs.Builder.{puts}
use Rattle.xo_list.specs.Item.{spell}
use Rattle.xo_list.proofs.builder.spelled.Given as goal

abbrev pub invariant-loop-put : goal.invariant-loop-put
invariant-loop-put l = l.bytes.items ≡ spell (puts (take l.put-index l.fields))
