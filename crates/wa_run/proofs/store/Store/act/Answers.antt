use Rattle.std.proofs.Common.{rules, to_z, of_z}
use Rattle.std.proofs.lemmas.Int.{to_z-of_z}
use Rattle.std.specs.Int.{w32, w64}
use Rattle.wa_ops.specs.declared.op.Op.TheVariants as op
use Rattle.wa_run.proofs.Turning.{acts_as, constant32_as, constant64_as, nop_acts}
use Rattle.wa_run.proofs.store.Store.act.Goals as goal

pub returns-in-Nop-clause-acts : goal.returns-in-Nop-clause-acts
returns-in-Nop-clause-acts g c =
    acts_as _ c.args.op.now op.Nop c.args.self.now c.args.self.now c.in-Nop.is (nop_acts _ c.args.self.now)

pub returns-in-Drop-clause-acts : goal.returns-in-Drop-clause-acts
returns-in-Drop-clause-acts g c =
    acts_as _ c.args.op.now op.Drop c.args.self.now c.discard.new.self c.in-Drop.is c.discard.ensures.acts

pub returns-in-Select-clause-acts : goal.returns-in-Select-clause-acts
returns-in-Select-clause-acts g c =
    acts_as _ c.args.op.now op.Select c.args.self.now c.select.new.self c.in-Select.is c.select.ensures.acts

pub returns-in-LocalGet-clause-acts : goal.returns-in-LocalGet-clause-acts
returns-in-LocalGet-clause-acts g c =
    acts_as _ c.args.op.now (op.LocalGet c.in-LocalGet.local) c.args.self.now c.local_get.new.self c.in-LocalGet.is
    c.local_get.ensures.acts

pub returns-in-LocalSet-clause-acts : goal.returns-in-LocalSet-clause-acts
returns-in-LocalSet-clause-acts g c =
    acts_as _ c.args.op.now (op.LocalSet c.in-LocalSet.local) c.args.self.now c.local_set.new.self c.in-LocalSet.is
    c.local_set.ensures.acts

pub returns-in-LocalTee-clause-acts : goal.returns-in-LocalTee-clause-acts
returns-in-LocalTee-clause-acts g c =
    acts_as _ c.args.op.now (op.LocalTee c.in-LocalTee.local) c.args.self.now c.local_tee.new.self c.in-LocalTee.is
    c.local_tee.ensures.acts

pub returns-in-GlobalGet-clause-acts : goal.returns-in-GlobalGet-clause-acts
returns-in-GlobalGet-clause-acts g c =
    acts_as _ c.args.op.now (op.GlobalGet c.in-GlobalGet.global) c.args.self.now c.global_get.new.self c.in-GlobalGet.is
    c.global_get.ensures.acts

pub returns-in-GlobalSet-clause-acts : goal.returns-in-GlobalSet-clause-acts
returns-in-GlobalSet-clause-acts g c =
    acts_as _ c.args.op.now (op.GlobalSet c.in-GlobalSet.global) c.args.self.now c.global_set.new.self c.in-GlobalSet.is
    c.global_set.ensures.acts

pub returns-in-MemorySize-clause-acts : goal.returns-in-MemorySize-clause-acts
returns-in-MemorySize-clause-acts g c =
    acts_as _ c.args.op.now op.MemorySize c.args.self.now c.memory_size.new.self c.in-MemorySize.is
    c.memory_size.ensures.acts

pub returns-in-I32Const-clause-acts : goal.returns-in-I32Const-clause-acts
returns-in-I32Const-clause-acts g c =
    constant32_as _ c.args.op.now (to_z w32 (of_z w32 c.in-I32Const.number)) c.in-I32Const.number c.args.self.now
    c.constant32.new.self c.in-I32Const.is (to_z-of_z w32 c.in-I32Const.number (search rules)) c.constant32.ensures.acts

pub returns-in-I64Const-clause-acts : goal.returns-in-I64Const-clause-acts
returns-in-I64Const-clause-acts g c =
    constant64_as _ c.args.op.now (to_z w64 (of_z w64 c.in-I64Const.number)) c.in-I64Const.number c.args.self.now
    c.constant64.new.self c.in-I64Const.is (to_z-of_z w64 c.in-I64Const.number (search rules)) c.constant64.ensures.acts
