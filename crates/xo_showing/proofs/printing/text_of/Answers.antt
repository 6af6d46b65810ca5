use Rattle.serde_json.specs.View.{view}
use Rattle.xo_list.specs.Span.{items}
use Rattle.xo_showing.proofs.Printed.{text_is, text_shows}
use Rattle.xo_showing.proofs.printing.text_of.Goals as goal

pub returns-clause-text : goal.returns-clause-text
returns-clause-text c =
    text_is (view c.in_ok-value.value) (items c.args.object.now) c.in_ok-to_vec.field-0.items
    c.in_ok-value.ensures.fields c.in_ok-value.ensures.value c.in_ok-to_vec.ensures.text

pub returns-clause-reads_back : goal.returns-clause-reads_back
returns-clause-reads_back c =
    text_shows (view c.in_ok-value.value) (items c.args.object.now) c.in_ok-to_vec.field-0.items
    c.in_ok-value.ensures.fields c.in_ok-value.ensures.value c.in_ok-to_vec.ensures.reads_back
