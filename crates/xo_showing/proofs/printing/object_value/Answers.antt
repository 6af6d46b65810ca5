use Rattle.std.proofs.Common.{All, false, sym, subst}
use Rattle.xo_list.specs.Span.{items}
use Rattle.xo_list.specs.Value.{IsValue}
use Rattle.xo_list.proofs.ListLemmas.{listed}
use Rattle.xo_showing.specs.Placed.{IsPlaced}
use Rattle.xo_showing.proofs.Placing.{whole_placed}
use Rattle.xo_showing.proofs.printing.object_value.Goals as goal

pub members_of-requires : goal.members_of-requires
members_of-requires c = record {
  placed = subst (λ bytes. All (IsPlaced 10 bytes) c.items.result.now) (sym c.bytes.ensures.bytes)
      (subst (λ spans. All (IsPlaced 10 c.args.object.now.bytes) spans) (sym c.items.ensures.spans)
      (whole_placed 10 false c.args.object.now.bytes c.args.object.now.spans c.items.ensures.read.object
      c.items.ensures.read.ranges));
}

pub returns-clause-fields : goal.returns-clause-fields
returns-clause-fields c =
    (listed (IsValue 10) false 0 (items c.args.object.now) c.args.object.now.bytes c.items.ensures.read.object).0
