use Rattle.std.proofs.Common.{arith}
use Rattle.xo_json.proofs.KeyTexts.{cut_there}
use Rattle.xo_json.proofs.key.read_numbers.Goals as goal

-- a key without a slash
pub returns-in_default : goal.returns-in_default
returns-in_default c = record {
  numbers =
      λ field kind code e.
      rw c.in_default.is at (cut_there c.args.key.now field c.split_once.result c.split_once.ensures.cases kind e);
}

-- no kind before the slash
pub returns-in_default-2 : goal.returns-in_default-2
returns-in_default-2 c = record {
  numbers = λ field kind code e.
      let cut =
      rw c.in-Some.is at (cut_there c.args.key.now field c.split_once.result c.split_once.ensures.cases kind e) in
      (rw c.in_default-2.is at c.in_ok-kind.ensures.number) field.kind (omega arith) cut.0;
}

-- no code behind it
pub returns-in_default-3 : goal.returns-in_default-3
returns-in_default-3 c = record {
  numbers = λ field kind code e.
      let cut =
      rw c.in-Some.is at (cut_there c.args.key.now field c.split_once.result c.split_once.ensures.cases kind e) in
      (rw c.in_default-3.is at c.in_ok-code.ensures.number) field.code (omega arith) cut.1;
}
