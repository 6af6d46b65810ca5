use Rattle.std.proofs.Common.{◌≡◌, ℕ, ◌<◌, List, length, arith}
use Rattle.xo_list.specs.declared.find.Passed.{Passed}
use Rattle.xo_list.specs.Item.{Item}
use Rattle.xo_list.specs.Located.{Passes}
use Rattle.xo_list.proofs.Walk.{before_of, element_none, element_end, element_found, no_element_head_fault}
use Rattle.xo_list.proofs.Walk.{no_element_body_fault}
use Rattle.xo_list.proofs.find.element.Goals as goal

more_there : (bytes : List ℕ) (elements : List Item) (index : ℕ) (passed : Passed) →
    Passes bytes elements index passed → (passed.at ≡ length bytes → ⊥) → passed.at < length bytes
more_there bytes elements index passed p other = grind (arith, p.6)

pub returns-then-passed-index : goal.returns-then-passed-index
returns-then-passed-index c = record {
  found =
      λ elements h.
      element_none c.args.bytes.now elements c.args.index c.skip_elements-passed.result
      (c.skip_elements-passed.ensures.passed elements h) c.if-passed-index.true;
}

pub returns-then-passed-bytes : goal.returns-then-passed-bytes
returns-then-passed-bytes c = record {
  found =
      λ elements h.
      element_end c.args.bytes.now elements c.args.index c.skip_elements-passed.result
      (c.skip_elements-passed.ensures.passed elements h) c.if-passed-bytes.true;
}

pub returns-in-Err : goal.returns-in-Err
returns-in-Err c = record {
  found =
      λ elements h.
      let p : Passes c.args.bytes.now elements c.args.index c.skip_elements-passed.result =
      c.skip_elements-passed.ensures.passed elements h in
      absurd (no_element_head_fault c.one_field.ensures.law c.args.bytes.now elements
      c.skip_elements-passed.result.count c.skip_elements-passed.result.at c.in-Err.field-0
      (before_of c.args.bytes.now elements c.args.index c.skip_elements-passed.result p)
      (more_there c.args.bytes.now elements c.args.index c.skip_elements-passed.result p c.if-passed-bytes.false)
      c.in-Err.ensures.start);
}

pub returns-in-Err-skip_value : goal.returns-in-Err-skip_value
returns-in-Err-skip_value c = record {
  found =
      λ elements h.
      let p : Passes c.args.bytes.now elements c.args.index c.skip_elements-passed.result =
      c.skip_elements-passed.ensures.passed elements h in
      absurd (no_element_body_fault c.one_field.ensures.law c.args.bytes.now elements
      c.skip_elements-passed.result.count c.skip_elements-passed.result.at c.in-Ok.start.field c.in-Ok.start.form _
      c.in-Err-skip_value.field-0 (before_of c.args.bytes.now elements c.args.index c.skip_elements-passed.result p)
      (more_there c.args.bytes.now elements c.args.index c.skip_elements-passed.result p c.if-passed-bytes.false)
      c.in-Ok.ensures.start c.in-Err-skip_value.ensures.value);
}

pub returns-in-Ok-skip_value : goal.returns-in-Ok-skip_value
returns-in-Ok-skip_value c = record {
  found =
      λ elements h.
      let p : Passes c.args.bytes.now elements c.args.index c.skip_elements-passed.result =
      c.skip_elements-passed.ensures.passed elements h in
      element_found c.one_field.ensures.law c.args.bytes.now elements c.args.index c.skip_elements-passed.result
      c.in-Ok.start.field c.in-Ok.start.form _ _ c.in-Ok-skip_value.value.next p c.if-passed-index.false
      (more_there c.args.bytes.now elements c.args.index c.skip_elements-passed.result p c.if-passed-bytes.false)
      c.in-Ok.ensures.start c.in-Ok-skip_value.ensures.value (omega (arith, c.in-Ok-skip_value.ensures.within));
}
