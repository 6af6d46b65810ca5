use Rattle.std.proofs.Common.{Some, None, ap, arith, refl, inl, inr, sym, ◌∙◌, slice_index_or}
use Rattle.std.proofs.lemmas.Option.{slice_get-get_or}
use Rattle.std.proofs.lemmas.Result.{IfOk-weaker}
use Rattle.wa_ops.specs.Soundness.{IsSoundOp}
use Rattle.wa_ops.specs.declared.op.Op.TheVariants as op
use Rattle.wa_machine.specs.Starts.{meaning_of}
use Rattle.wa_run.proofs.Branching.{br_follows, br_can}
use Rattle.wa_run.proofs.Turning.{go_within, each_at, can_turn, goes_entry, goes_turn, goes_choice, plain_otherwise}
use Rattle.wa_run.proofs.Turning.{found_here}
use Rattle.wa_run.proofs.running.Running.turn.Goals as goal

pub choose-requires-clause-meets : goal.choose-requires-clause-meets
choose-requires-clause-meets g c =
    can_turn _ c.args.ops.now c.args.ends.now c.args.calls.now (op.If c.in-If.carried) c.args.self.now
    (found_here c.args.ops.now c.args.self.now.at c.index-ops-self.result _
    (go_within _ c.args.ops.now c.args.ends.now c.args.calls.now c.args.self.now c.requires.meets) c.index-ops-self.is
    c.in-If.is) c.requires.meets

pub end-requires : goal.end-requires
end-requires g c = record {
  turns = (
    op.Else,
    inr refl,
    can_turn _ c.args.ops.now c.args.ends.now c.args.calls.now op.Else c.args.self.now
        (found_here c.args.ops.now c.args.self.now.at c.index-ops-self.result _
        (go_within _ c.args.ops.now c.args.ends.now c.args.calls.now c.args.self.now c.requires.meets)
        c.index-ops-self.is
        c.in-Else.is) c.requires.meets,
  );
}

pub end-requires-in-End : goal.end-requires-in-End
end-requires-in-End g c = record {
  turns = (
    op.End,
    inl refl,
    can_turn _ c.args.ops.now c.args.ends.now c.args.calls.now op.End c.args.self.now
        (found_here c.args.ops.now c.args.self.now.at c.index-ops-self.result _
        (go_within _ c.args.ops.now c.args.ends.now c.args.calls.now c.args.self.now c.requires.meets)
        c.index-ops-self.is
        c.in-End.is) c.requires.meets,
  );
}

pub branch-self-requires-clause-branches : goal.branch-self-requires-clause-branches
branch-self-requires-clause-branches g c =
    br_can _ c.in-Br.label c.args.self.now (can_turn _ c.args.ops.now c.args.ends.now c.args.calls.now
    (op.Br c.in-Br.label) c.args.self.now (found_here c.args.ops.now c.args.self.now.at c.index-ops-self.result _
    (go_within _ c.args.ops.now c.args.ends.now c.args.calls.now c.args.self.now c.requires.meets) c.index-ops-self.is
    c.in-Br.is) c.requires.meets)

pub branch_if-requires-clause-meets : goal.branch_if-requires-clause-meets
branch_if-requires-clause-meets g c =
    can_turn _ c.args.ops.now c.args.ends.now c.args.calls.now (op.BrIf c.in-BrIf.label) c.args.self.now
    (found_here c.args.ops.now c.args.self.now.at c.index-ops-self.result _
    (go_within _ c.args.ops.now c.args.ends.now c.args.calls.now c.args.self.now c.requires.meets) c.index-ops-self.is
    c.in-BrIf.is) c.requires.meets

pub branch_table-requires-clause-meets : goal.branch_table-requires-clause-meets
branch_table-requires-clause-meets g c =
    can_turn _ c.args.ops.now c.args.ends.now c.args.calls.now (op.BrTable c.as_slice.result.now c.in-BrTable.last)
    c.args.self.now (found_here c.args.ops.now c.args.self.now.at c.index-ops-self.result _
    (go_within _ c.args.ops.now c.args.ends.now c.args.calls.now c.args.self.now c.requires.meets) c.index-ops-self.is
    (c.in-BrTable.is ∙ ap (λ labels. op.BrTable labels c.in-BrTable.last) (sym c.as_slice.ensures.items)))
    c.requires.meets

pub leave-requires : goal.leave-requires
leave-requires g c = record {
  meets =
      can_turn _ c.args.ops.now c.args.ends.now c.args.calls.now op.Return c.args.self.now
      (found_here c.args.ops.now c.args.self.now.at c.index-ops-self.result _
      (go_within _ c.args.ops.now c.args.ends.now c.args.calls.now c.args.self.now c.requires.meets) c.index-ops-self.is
      c.in-Return.is) c.requires.meets;
}

pub call-requires-clause-meets : goal.call-requires-clause-meets
call-requires-clause-meets g c = (
  c.args.ops.now,
  c.args.ends.now,
  (found_here c.args.ops.now c.args.self.now.at c.index-ops-self.result _
      (go_within _ c.args.ops.now c.args.ends.now c.args.calls.now c.args.self.now c.requires.meets) c.index-ops-self.is
      c.in-Call.is),
  c.requires.meets,
)

pub plain-requires : goal.plain-requires
plain-requires g c = record {
  plain =
      plain_otherwise _ c.index-ops-self.result c.args.self.now c.in_default.not-Block c.in_default.not-Loop
      c.in_default.not-If c.in_default.not-Else c.in_default.not-End c.in_default.not-Br c.in_default.not-BrIf
      c.in_default.not-BrTable c.in_default.not-Return c.in_default.not-Call (can_turn _ c.args.ops.now c.args.ends.now
      c.args.calls.now c.index-ops-self.result c.args.self.now (found_here c.args.ops.now c.args.self.now.at
      c.index-ops-self.result _
      (go_within _ c.args.ops.now c.args.ends.now c.args.calls.now c.args.self.now c.requires.meets) c.index-ops-self.is
      refl) c.requires.meets);
  sound =
      each_at IsSoundOp c.args.ops.now c.args.self.now.at c.index-ops-self.result c.requires.sound
      (found_here c.args.ops.now c.args.self.now.at c.index-ops-self.result _
      (go_within _ c.args.ops.now c.args.ends.now c.args.calls.now c.args.self.now c.requires.meets) c.index-ops-self.is
      refl);
  meets =
      can_turn _ c.args.ops.now c.args.ends.now c.args.calls.now c.index-ops-self.result c.args.self.now
      (found_here c.args.ops.now c.args.self.now.at c.index-ops-self.result _
      (go_within _ c.args.ops.now c.args.ends.now c.args.calls.now c.args.self.now c.requires.meets) c.index-ops-self.is
      refl) c.requires.meets;
  place =
      omega (
        arith,
        go_within _ c.args.ops.now c.args.ends.now c.args.calls.now c.args.self.now c.requires.meets,
        c.requires.counted,
      );
  room = c.requires.words_room;
}

pub returns-in-Block-clause-goes : goal.returns-in-Block-clause-goes
returns-in-Block-clause-goes g c =
    goes_entry (meaning_of g.H.Host.answer g.H.Host.memory_after g.H.Host.state_after) c.args.ops.now c.args.ends.now
    c.args.calls.now (op.Block c.in-Block.carried) (slice_index_or c.args.ends.now c.args.self.now.at 0) c.args.self.now
    c.args.host.now None c.block.new.self
    (found_here c.args.ops.now c.args.self.now.at c.index-ops-self.result _
    (go_within _ c.args.ops.now c.args.ends.now c.args.calls.now c.args.self.now c.requires.meets) c.index-ops-self.is
    c.in-Block.is) (slice_get-get_or c.args.ends.now c.args.self.now.at 0 (omega (
      arith,
      go_within _ c.args.ops.now c.args.ends.now c.args.calls.now c.args.self.now c.requires.meets,
      c.requires.paired,
    )))
    c.block.ensures.turns

pub returns-in-Loop-clause-goes : goal.returns-in-Loop-clause-goes
returns-in-Loop-clause-goes g c =
    goes_entry (meaning_of g.H.Host.answer g.H.Host.memory_after g.H.Host.state_after) c.args.ops.now c.args.ends.now
    c.args.calls.now (op.Loop c.in-Loop.carried) (slice_index_or c.args.ends.now c.args.self.now.at 0) c.args.self.now
    c.args.host.now None c.loop_.new.self
    (found_here c.args.ops.now c.args.self.now.at c.index-ops-self.result _
    (go_within _ c.args.ops.now c.args.ends.now c.args.calls.now c.args.self.now c.requires.meets) c.index-ops-self.is
    c.in-Loop.is) (slice_get-get_or c.args.ends.now c.args.self.now.at 0 (omega (
      arith,
      go_within _ c.args.ops.now c.args.ends.now c.args.calls.now c.args.self.now c.requires.meets,
      c.requires.paired,
    )))
    c.loop_.ensures.turns

pub returns-in-If-clause-goes : goal.returns-in-If-clause-goes
returns-in-If-clause-goes g c =
    goes_choice (meaning_of g.H.Host.answer g.H.Host.memory_after g.H.Host.state_after) c.args.ops.now c.args.ends.now
    c.args.calls.now c.in-If.carried (slice_index_or c.args.ends.now c.args.self.now.at 0) c.other_arm.result
    c.args.self.now c.args.host.now c.choose.new.self
    (found_here c.args.ops.now c.args.self.now.at c.index-ops-self.result _
    (go_within _ c.args.ops.now c.args.ends.now c.args.calls.now c.args.self.now c.requires.meets) c.index-ops-self.is
    c.in-If.is) (slice_get-get_or c.args.ends.now c.args.self.now.at 0 (omega (
      arith,
      go_within _ c.args.ops.now c.args.ends.now c.args.calls.now c.args.self.now c.requires.meets,
      c.requires.paired,
    )))
    c.other_arm.ensures.arm c.choose.ensures.chooses

pub returns-in-Else-clause-goes : goal.returns-in-Else-clause-goes
returns-in-Else-clause-goes g c =
    goes_turn (meaning_of g.H.Host.answer g.H.Host.memory_after g.H.Host.state_after) c.args.ops.now c.args.ends.now
    c.args.calls.now op.Else c.args.self.now c.args.host.now c.end.result c.end.new.self c.requires.paired
    (found_here c.args.ops.now c.args.self.now.at c.index-ops-self.result _
    (go_within _ c.args.ops.now c.args.ends.now c.args.calls.now c.args.self.now c.requires.meets) c.index-ops-self.is
    c.in-Else.is) (c.end.ensures.turns op.Else (inr refl))

pub returns-in-End-clause-goes : goal.returns-in-End-clause-goes
returns-in-End-clause-goes g c =
    goes_turn (meaning_of g.H.Host.answer g.H.Host.memory_after g.H.Host.state_after) c.args.ops.now c.args.ends.now
    c.args.calls.now op.End c.args.self.now c.args.host.now c.end-in-End.result c.end-in-End.new.self c.requires.paired
    (found_here c.args.ops.now c.args.self.now.at c.index-ops-self.result _
    (go_within _ c.args.ops.now c.args.ends.now c.args.calls.now c.args.self.now c.requires.meets) c.index-ops-self.is
    c.in-End.is) (c.end-in-End.ensures.turns op.End (inl refl))

pub returns-in-Br-clause-goes : goal.returns-in-Br-clause-goes
returns-in-Br-clause-goes g c =
    goes_turn (meaning_of g.H.Host.answer g.H.Host.memory_after g.H.Host.state_after) c.args.ops.now c.args.ends.now
    c.args.calls.now (op.Br c.in-Br.label) c.args.self.now c.args.host.now c.branch-self.result c.branch-self.new.self
    c.requires.paired
    (found_here c.args.ops.now c.args.self.now.at c.index-ops-self.result _
    (go_within _ c.args.ops.now c.args.ends.now c.args.calls.now c.args.self.now c.requires.meets) c.index-ops-self.is
    c.in-Br.is) (λ entry.
    br_follows c.in-Br.label entry c.args.self.now c.branch-self.result c.branch-self.new.self
    c.branch-self.ensures.branches)

pub returns-in-BrIf-clause-goes : goal.returns-in-BrIf-clause-goes
returns-in-BrIf-clause-goes g c =
    goes_turn (meaning_of g.H.Host.answer g.H.Host.memory_after g.H.Host.state_after) c.args.ops.now c.args.ends.now
    c.args.calls.now (op.BrIf c.in-BrIf.label) c.args.self.now c.args.host.now c.branch_if.result c.branch_if.new.self
    c.requires.paired
    (found_here c.args.ops.now c.args.self.now.at c.index-ops-self.result _
    (go_within _ c.args.ops.now c.args.ends.now c.args.calls.now c.args.self.now c.requires.meets) c.index-ops-self.is
    c.in-BrIf.is) c.branch_if.ensures.turns

pub returns-in-BrTable-clause-goes : goal.returns-in-BrTable-clause-goes
returns-in-BrTable-clause-goes g c =
    goes_turn (meaning_of g.H.Host.answer g.H.Host.memory_after g.H.Host.state_after) c.args.ops.now c.args.ends.now
    c.args.calls.now (op.BrTable c.as_slice.result.now c.in-BrTable.last) c.args.self.now c.args.host.now
    c.branch_table.result c.branch_table.new.self c.requires.paired
    (found_here c.args.ops.now c.args.self.now.at c.index-ops-self.result _
    (go_within _ c.args.ops.now c.args.ends.now c.args.calls.now c.args.self.now c.requires.meets) c.index-ops-self.is
    (c.in-BrTable.is ∙ ap (λ labels. op.BrTable labels c.in-BrTable.last) (sym c.as_slice.ensures.items)))
    c.branch_table.ensures.turns

pub returns-in-Return-clause-goes : goal.returns-in-Return-clause-goes
returns-in-Return-clause-goes g c =
    goes_turn (meaning_of g.H.Host.answer g.H.Host.memory_after g.H.Host.state_after) c.args.ops.now c.args.ends.now
    c.args.calls.now op.Return c.args.self.now c.args.host.now (Some c.leave.result) c.args.self.now c.requires.paired
    (found_here c.args.ops.now c.args.self.now.at c.index-ops-self.result _
    (go_within _ c.args.ops.now c.args.ends.now c.args.calls.now c.args.self.now c.requires.meets) c.index-ops-self.is
    c.in-Return.is) c.leave.ensures.turns

pub returns-in-Call-clause-goes : goal.returns-in-Call-clause-goes
returns-in-Call-clause-goes g c =
    IfOk-weaker c.call.result _ _ (λ found goes.
    goes c.args.ops.now c.args.ends.now (found_here c.args.ops.now c.args.self.now.at c.index-ops-self.result _
    (go_within _ c.args.ops.now c.args.ends.now c.args.calls.now c.args.self.now c.requires.meets) c.index-ops-self.is
    c.in-Call.is)) c.call.ensures.goes

pub returns-in_default-clause-goes : goal.returns-in_default-clause-goes
returns-in_default-clause-goes g c =
    goes_turn (meaning_of g.H.Host.answer g.H.Host.memory_after g.H.Host.state_after) c.args.ops.now c.args.ends.now
    c.args.calls.now c.index-ops-self.result c.args.self.now c.args.host.now c.plain.result c.plain.new.self
    c.requires.paired
    (found_here c.args.ops.now c.args.self.now.at c.index-ops-self.result _
    (go_within _ c.args.ops.now c.args.ends.now c.args.calls.now c.args.self.now c.requires.meets) c.index-ops-self.is
    refl) c.plain.ensures.turns
