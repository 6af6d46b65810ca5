use Rattle.std.proofs.Common.{sym, ap, Err}
use Rattle.xo_list.specs.Span.{items}
use Rattle.xo_object.specs.Transaction.{IsTransaction}
use Rattle.hk_reading.specs.Transactions.{transaction_of}
use Rattle.hk_reading.proofs.Finding.{unfound}
use Rattle.hk_reading.proofs.TransactionsFound.{transaction_found}
use Rattle.hk_api.proofs.Coding.{code_fits}
use Rattle.hk_api.proofs.fee.transaction_of.Goals as goal

pub returns-in-Ok : goal.returns-in-Ok
returns-in-Ok c = record {
  found =
      sym ((c.transactions_found.ensures.law c.args.emitted (items c.args.object.now) c.args.object.now.bytes
      c.in-Ok.transaction).1 c.in-Ok.ensures.ok);
  code =
      code_fits (items c.args.object.now) c.args.object.now.bytes c.args.emitted c.in-Ok.transaction c.in-Ok.ensures.ok;
}

pub returns-in-Err-Malformed : goal.returns-in-Err-Malformed
returns-in-Err-Malformed c = record {
  found = sym (unfound (IsTransaction (items c.args.object.now) c.args.object.now.bytes c.args.emitted)
      (transaction_of c.args.emitted (items c.args.object.now) c.args.object.now.bytes)
      (transaction_found c.args.emitted (items c.args.object.now) c.args.object.now.bytes)
      (c.in-Err-Malformed.ensures.malformed (ap Err c.in-Err-Malformed.field-0-is)));
  code = tt;
}
