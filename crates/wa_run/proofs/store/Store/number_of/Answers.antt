use Rattle.std.proofs.Common.{sym, ◌∙◌, refl, arith}
use Rattle.wa_run.specs.Numbers.{is_narrow}
use Rattle.wa_run.proofs.Numeric.{number_form, number_needs, number_acts, number_traps}
use Rattle.wa_run.proofs.store.Store.number_of.Goals as goal

pub take-operands-requires : goal.take-operands-requires
take-operands-requires g c =
    let n =
    number_needs _ c.args.opcode (is_narrow c.args.opcode) c.is_paired.result c.args.self.now c.is_paired.ensures.takes
    c.requires.meets in
    record { some = n.some; two = n.two }

pub calculated-requires : goal.calculated-requires
calculated-requires g c = record {
  sound = number_form c.args.opcode c.requires.sound;
  narrow =
      (number_needs _ c.args.opcode (is_narrow c.args.opcode) c.is_paired.result c.args.self.now
      c.is_paired.ensures.takes c.requires.meets).fit
      c.take-operands.result.before c.take-operands.result.last c.take-operands.new.words.items
      c.take-operands.ensures.items c.take-operands.ensures.one;
}

pub returns-in-Ok-clause-acts : goal.returns-in-Ok-clause-acts
returns-in-Ok-clause-acts g c =
    number_acts c.args.opcode (is_narrow c.args.opcode) c.is_paired.result c.take-operands.result.before
    c.take-operands.result.last c.in-Ok.number c.take-operands.new.words.items
    c.args.self.now (record c.args.self.now { words = c.push.new.self }) c.is_paired.ensures.takes
    c.take-operands.ensures.items c.take-operands.ensures.one
    (sym c.calculated.ensures.number ∙ c.in-Ok.is) (omega arith) c.in-Ok.ensures.fits c.push.ensures.items
    (record { locals = refl; globals = refl; memory = refl })

pub returns-in-Err-clause-acts : goal.returns-in-Err-clause-acts
returns-in-Err-clause-acts g c =
    number_traps c.args.opcode (is_narrow c.args.opcode) c.is_paired.result c.take-operands.result.before
    c.take-operands.result.last c.in-Err.cause c.take-operands.new.words.items
    c.args.self.now c.is_paired.ensures.takes c.take-operands.ensures.items c.take-operands.ensures.one
    (sym c.calculated.ensures.number ∙ c.in-Err.is)
