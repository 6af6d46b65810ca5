use Rattle.std.proofs.Common.{◌≤◌, Some, ap, rules}
use Rattle.wa_ops.specs.Callees.{guard, accept, rollback, host_call}
use Rattle.wa_ops.specs.Contexts.{callee_of_row}
use Rattle.wa_ops.specs.Rows.{row_parameters}
use Rattle.wa_machine.specs.Starts.{meaning_of}
use Rattle.wa_run.proofs.Calling.{row_at, row_got, row_within, function_within, can_call_row, goes_by, asks_by}
use Rattle.wa_run.proofs.Calling.{host_row}
use Rattle.wa_run.proofs.running.Running.call.Goals as goal

pub bounds-calls-function : goal.bounds-calls-function
bounds-calls-function g c = function_within _ c.args.calls.now c.args.function c.args.self.now c.requires.meets

pub guard-requires-clause-meets : goal.guard-requires-clause-meets
guard-requires-clause-meets g c =
    can_call_row _ c.args.calls.now c.args.function guard c.args.self.now (ap (λ n. callee_of_row (Some n)) c.in-0.is)
    c.requires.meets

pub finish-requires-clause-meets : goal.finish-requires-clause-meets
finish-requires-clause-meets g c =
    can_call_row _ c.args.calls.now c.args.function accept c.args.self.now (ap (λ n. callee_of_row (Some n)) c.in-1.is)
    c.requires.meets

pub finish-requires-in-2-clause-meets : goal.finish-requires-in-2-clause-meets
finish-requires-in-2-clause-meets g c =
    can_call_row _ c.args.calls.now c.args.function rollback c.args.self.now
    (ap (λ n. callee_of_row (Some n)) c.in-2.is) c.requires.meets

pub ask-requires-clause-last : goal.ask-requires-clause-last
ask-requires-clause-last g c =
    row_within c.args.calls.now c.args.function (row_at c.args.calls.now c.args.function) c.requires.rows
    (row_got c.args.calls.now c.args.function
    (function_within _ c.args.calls.now c.args.function c.args.self.now c.requires.meets))

pub ask-requires-clause-meets : goal.ask-requires-clause-meets
ask-requires-clause-meets g c =
    let first : 3 ≤ (row_at c.args.calls.now c.args.function).0 = search rules in
    can_call_row _ c.args.calls.now c.args.function
    (host_call (row_at c.args.calls.now c.args.function).0 (row_parameters (row_at c.args.calls.now c.args.function).0))
    c.args.self.now (host_row (row_at c.args.calls.now c.args.function).0 first) c.requires.meets

pub returns-in-0-clause-goes : goal.returns-in-0-clause-goes
returns-in-0-clause-goes g c = λ ops ends h.
    goes_by (meaning_of g.H.Host.answer g.H.Host.memory_after g.H.Host.state_after) ops ends c.args.calls.now
    c.args.function (row_at c.args.calls.now c.args.function) guard c.args.self.now c.args.host.now c.guard.result
    c.guard.new.self h
    (row_got c.args.calls.now c.args.function
    (function_within _ c.args.calls.now c.args.function c.args.self.now c.requires.meets))
    (ap (λ n. callee_of_row (Some n)) c.in-0.is) c.guard.ensures.turns

pub returns-in-1-clause-goes : goal.returns-in-1-clause-goes
returns-in-1-clause-goes g c = λ ops ends h.
    goes_by (meaning_of g.H.Host.answer g.H.Host.memory_after g.H.Host.state_after) ops ends c.args.calls.now
    c.args.function (row_at c.args.calls.now c.args.function) accept c.args.self.now c.args.host.now c.finish.result
    c.finish.new.self h
    (row_got c.args.calls.now c.args.function
    (function_within _ c.args.calls.now c.args.function c.args.self.now c.requires.meets))
    (ap (λ n. callee_of_row (Some n)) c.in-1.is) c.finish.ensures.turns

pub returns-in-2-clause-goes : goal.returns-in-2-clause-goes
returns-in-2-clause-goes g c = λ ops ends h.
    goes_by (meaning_of g.H.Host.answer g.H.Host.memory_after g.H.Host.state_after) ops ends c.args.calls.now
    c.args.function (row_at c.args.calls.now c.args.function) rollback c.args.self.now c.args.host.now
    c.finish-in-2.result c.finish-in-2.new.self h
    (row_got c.args.calls.now c.args.function
    (function_within _ c.args.calls.now c.args.function c.args.self.now c.requires.meets))
    (ap (λ n. callee_of_row (Some n)) c.in-2.is) c.finish-in-2.ensures.turns

pub returns-in_ok-ask-in_default-clause-goes : goal.returns-in_ok-ask-in_default-clause-goes
returns-in_ok-ask-in_default-clause-goes g c = λ ops ends h.
    let first : 3 ≤ (row_at c.args.calls.now c.args.function).0 = search rules in
    asks_by (meaning_of g.H.Host.answer g.H.Host.memory_after g.H.Host.state_after) ops ends c.args.calls.now
    c.args.function (row_at c.args.calls.now c.args.function)
    (host_call (row_at c.args.calls.now c.args.function).0 (row_parameters (row_at c.args.calls.now c.args.function).0))
    c.args.self.now c.args.host.now c.ask.new.self c.ask.new.host h
    (row_got c.args.calls.now c.args.function
    (function_within _ c.args.calls.now c.args.function c.args.self.now c.requires.meets))
    (host_row (row_at c.args.calls.now c.args.function).0 first) c.in_ok-ask-in_default.ensures.asks
