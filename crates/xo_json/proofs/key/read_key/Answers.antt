use Rattle.std.proofs.Common.{◌≡◌, sym, ap, ◌∙◌, Some, None}
use Rattle.xo_fields.specs.Name.{field_named}
use Rattle.xo_showing.proofs.Names.{named_known}
use Rattle.xo_json.proofs.KeyTexts.{named_key, nameless_key, key_numbers, formed_is, no_key}
use Rattle.xo_json.proofs.key.read_key.Goals as goal

-- the name of a field
pub returns-in-Some : goal.returns-in-Some
returns-in-Some c = record {
  key =
      let named : field_named c.args.key.now ≡ Some c.in-Some.field =
      ap field_named (sym c.as_bytes.ensures.value) ∙ sym c.in-Some.ensures.field in
      formed_is c.formed.result c.in-Some.field c.args.key.now (named_known c.args.key.now c.in-Some.field named).0
      (named_key c.in-Some.field c.args.key.now named) c.formed.ensures.form;
}

-- neither a name nor numbers
pub returns-in_default-2 : goal.returns-in_default-2
returns-in_default-2 c = record {
  key = λ field form k.
      let none : field_named c.args.key.now ≡ None =
      ap field_named (sym c.as_bytes.ensures.value) ∙ sym c.in_default.ensures.field in
      (rw c.in_default-2.is at c.in_ok-field.ensures.numbers) field k.is.kind_byte k.is.code_byte
      (key_numbers field c.args.key.now none k.spelled).1;
}

-- the numbers of a field without a name
pub returns-then-is_nameless : goal.returns-then-is_nameless
returns-then-is_nameless c = record {
  key =
      let nameless = c.is_nameless.ensures.nameless.0 c.if-is_nameless.true in
      formed_is c.formed-then-is_nameless.result c.in-Some-2.field c.args.key.now nameless.0
      (nameless_key c.in-Some-2.field c.args.key.now nameless.1 (rw c.in-Some-2.is at c.in_ok-field.ensures.numbers).2)
      c.formed-then-is_nameless.ensures.form;
}

-- the numbers of a field that has a name, or of none
pub returns-else-is_nameless : goal.returns-else-is_nameless
returns-else-is_nameless c = record {
  key = λ field form k.
      let none : field_named c.args.key.now ≡ None =
      ap field_named (sym c.as_bytes.ensures.value) ∙ sym c.in_default.ensures.field in
      let numbered = rw c.in-Some-2.is at c.in_ok-field.ensures.numbers in
      no_key field c.in-Some-2.field c.args.key.now c.is_nameless.result none k.spelled k.is numbered.0 numbered.1
      numbered.2 c.is_nameless.ensures.nameless.1 c.if-is_nameless.false;
}
