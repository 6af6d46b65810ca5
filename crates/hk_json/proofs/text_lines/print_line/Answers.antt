use Rattle.std.proofs.Common.{◌≡◌, ◌∙◌, ◌++◌, OnOk, false, subst}
use Rattle.xo_list.specs.Span.{items}
use Rattle.xo_list.specs.Value.{IsValue}
use Rattle.xo_list.proofs.ListLemmas.{listed}
use Rattle.hk_json.specs.Turns.{bytes_line}
use Rattle.hk_json.proofs.text_lines.print_line.Goals as goal

pub returns : goal.returns
returns c =
    let object = c.args.object.now in
    let spelled = (listed (IsValue 10) false 0 (items object) object.bytes c.bytes.ensures.read.object).1 in
    record {
      line =
          subst
          (λ bytes. OnOk c.push_line.result (c.push_line.new.out.items ≡ c.args.out.now.items ++ bytes_line bytes))
          (c.bytes.ensures.bytes ∙ spelled) c.push_line.ensures.line;
    }
