-- What an instance is made of, and its run.
use Rattle.std.proofs.Common.{ℕ, ◌≡◌, ◌<◌, ◌≤◌, List, [], ◌∷◌, ◌∙◌, false, Some, refl, sym, ap, subst, length, get_or}
use Rattle.std.proofs.Common.{arith}
use Rattle.std.proofs.lemmas.Option.{same_Some as some_is}
use Rattle.std.specs.Prelude.{slice_get, nat_lt}
use Rattle.std.specs.List.{list_any}
use Rattle.std.proofs.lemmas.Bool.{ltb-false, or_parts}
use Rattle.std.proofs.lemmas.Option.{slice_get_read, slice_get_within}
use Rattle.hk_base.specs.declared.outcome.Outcome.{Outcome}
use Rattle.hk_bound.specs.Bounds.{export_bound}
use Rattle.hk_bound.specs.Checks.{Held, IsHeld, entry_in}
use Rattle.wa_exec.specs.Runs.{named}
use Rattle.hk_bound.specs.declared.entries.Entry.{Entry}
use Rattle.hk_bound.specs.declared.fault.Export.{Export}
use Rattle.wa_exec.proofs.Bodies.{HasBody}
use Rattle.wa_exec.proofs.Ready.{running, made_body, can_run, is_run, count_within}
use Rattle.wa_exec.specs.Made.{Made, IsMade}
use Rattle.wa_machine.specs.Machine.{HostMeaning}
use Rattle.wa_machine.specs.Runs.{IsRun}
use Rattle.wa_machine.specs.Starts.{pages_of}
use Rattle.wa_ops.proofs.RulesByName.{rules_by_name}
use Rattle.wa_ops.specs.HookRules.{is_bad_memory}
use Rattle.wa_ops.specs.declared.call_no.CallNo.{CallNo}
use Rattle.wa_ops.specs.declared.modules.Code.{Code}
use Rattle.wa_ops.specs.declared.modules.Limits.{Limits}
use Rattle.wa_ops.specs.declared.modules.Module.{Module}
use Rattle.wa_ops.specs.declared.op.Op.{Op}
use Rattle.wa_run.specs.Starts.{Ready, Function, CanRun, EndsSo}

pages_small : (memories : List Limits) → list_any is_bad_memory memories ≡ false → pages_of memories ≤ 16
pages_small [] e = omega arith
pages_small (limits ∷ more) e =
    ltb-false 16 limits.min
    (or_parts (nat_lt 16 limits.min) _ (or_parts (is_bad_memory limits) (list_any is_bad_memory more) e).0).0

pub few_pages : (held : Held) → IsHeld held → pages_of held.wasm.memories ≤ 16
few_pages held h =
    pages_small held.wasm.memories (or_parts (nat_lt 1 (length held.wasm.memories))
    (list_any is_bad_memory held.wasm.memories) (rules_by_name held.wasm h.holds.hook.ruled).memories).1

-- ---- the run

-- the function that was read is there
pub entry_within : (held : Held) (which : Export) (argument : ℕ) (made : Made) (m : Module) (codes : List Code)
    (entry : Entry) → (h : IsHeld held) (i : IsMade held which argument made)
    → entry_in made.which held ≡ Some entry → m ≡ held.wasm → codes ≡ m.codes → entry.function < length codes
entry_within held which argument made m codes entry h i found same same_codes =
    let b : HasBody held.version held.wasm i.entry.function i.bound = made_body held which argument made h i in
    let e : i.entry ≡ entry = some_is i.entry entry (sym (ap (λ w. entry_in w held) i.which_is ∙ i.entry_is) ∙ found) in
    let all : codes ≡ held.wasm.codes = same_codes ∙ ap (λ (w : Module). w.codes) same in
    omega (
      arith,
      slice_get_within held.wasm.codes i.entry.function b.code b.at,
      ap length all,
      ap (λ (x : Entry). x.function) e,
    )

-- what was read of the module and of what was worked out for the export
pub record IsRead (held : Held) (which : Export) (argument : ℕ) (made : Made) (h : IsHeld held)
    (i : IsMade held which argument made) (ops : List Op) (ends : List ℕ) (calls : List CallNo)
    (ready : Ready) : Type 0 where
  pub ops_are : (made_body held which argument made h i).code.ops ≡ ops
  pub ends_are : i.entry.ends ≡ ends
  pub calls_are : held.guards.imports ≡ calls
  pub ready_is : made.ready ≡ ready

pub read : (held : Held) (which : Export) (argument : ℕ) (made : Made) (m : Module) (codes : List Code) (code : Code)
    (entry : Entry) (ops : List Op) (ends : List ℕ) (calls : List CallNo) (ready : Ready)
    → (h : IsHeld held) (i : IsMade held which argument made) → entry_in made.which held ≡ Some entry → m ≡ held.wasm →
    codes ≡ m.codes → code ≡ get_or codes entry.function code
    → ops ≡ code.ops → ends ≡ entry.ends → calls ≡ held.guards.imports → made.ready ≡ ready →
    IsRead held which argument made h i ops ends calls ready
read held which argument made m codes code entry ops ends calls ready h i found same same_codes is same_ops same_ends
    same_calls same_ready =
    let b : HasBody held.version held.wasm i.entry.function i.bound = made_body held which argument made h i in
    let e : i.entry ≡ entry = some_is i.entry entry (sym (ap (λ w. entry_in w held) i.which_is ∙ i.entry_is) ∙ found) in
    let all : codes ≡ held.wasm.codes = same_codes ∙ ap (λ (w : Module). w.codes) same in
    let less : i.entry.function < length held.wasm.codes =
    slice_get_within held.wasm.codes i.entry.function b.code b.at in
    let at : slice_get held.wasm.codes i.entry.function ≡ Some code =
    ap (λ xs. slice_get xs i.entry.function) (sym all)
    ∙ slice_get_read codes (length codes) i.entry.function code refl (omega (arith, less, ap length all))
    (is ∙ ap (λ (x : Entry). get_or codes x.function code) (sym e)) in
    let one : b.code ≡ code = some_is b.code code (sym b.at ∙ at) in
    record {
      ops_are = ap (λ (c : Code). c.ops) one ∙ sym same_ops;
      ends_are = ap (λ (x : Entry). x.ends) e ∙ sym same_ends;
      calls_are = sym same_calls;
      ready_is = same_ready;
    }

pub can_read : (held : Held) (which : Export) (argument : ℕ) (made : Made) (ops : List Op) (ends : List ℕ)
    (calls : List CallNo) (ready : Ready) (h : IsHeld held) (i : IsMade held which argument made)
    → IsRead held which argument made h i ops ends calls ready →
    CanRun (running held.wasm i.entry.function (made_body held which argument made h i).tree argument) ops ends calls
    ready
can_read held which argument made ops ends calls ready h i r =
    let b : HasBody held.version held.wasm i.entry.function i.bound = made_body held which argument made h i in
    let f : Function = running held.wasm i.entry.function b.tree argument in
    subst (λ x. CanRun f ops ends calls x) r.ready_is
    (subst (λ x. CanRun f ops ends x made.ready) r.calls_are
    (subst (λ x. CanRun f ops x held.guards.imports made.ready) r.ends_are
    (subst (λ x. CanRun f x i.entry.ends held.guards.imports made.ready) r.ops_are
    (can_run held which argument made h i))))

ends_read : {S : Type 0} (held : Held) (which : Export) (argument : ℕ) (made : Made) (ops : List Op) (ends : List ℕ)
    (calls : List CallNo) (ready : Ready)
    (meaning : HostMeaning S) (before : S) (count : ℕ) (outcome : Outcome) (after : S) (h : IsHeld held)
    (i : IsMade held which argument made) → IsRead held which argument made h i ops ends calls ready
    → ((f : Function) → CanRun f ops ends calls ready → EndsSo meaning f ready before count outcome after)
    → EndsSo meaning (running held.wasm i.entry.function (made_body held which argument made h i).tree argument)
    made.ready before count outcome after
ends_read held which argument made ops ends calls ready meaning before count outcome after h i r e =
    let f : Function = running held.wasm i.entry.function (made_body held which argument made h i).tree argument in
    subst (λ x. EndsSo meaning f x before count outcome after) (sym r.ready_is)
    (e f (can_read held which argument made ops ends calls ready h i r))

pub run_read : {S : Type 0} (held : Held) (which : Export) (argument : ℕ) (made : Made) (ops : List Op) (ends : List ℕ)
    (calls : List CallNo) (ready : Ready)
    (meaning : HostMeaning S) (before : S) (count : ℕ) (outcome : Outcome) (after : S) (h : IsHeld held)
    (i : IsMade held which argument made) → IsRead held which argument made h i ops ends calls ready
    → ((f : Function) → CanRun f ops ends calls ready → EndsSo meaning f ready before count outcome after)
    → IsRun meaning held.wasm (named which) argument before outcome count after
run_read held which argument made ops ends calls ready meaning before count outcome after h i r e =
    is_run held which argument made meaning before count outcome after h i
    (ends_read held which argument made ops ends calls ready meaning before count outcome after h i r e)

pub count_read : {S : Type 0} (held : Held) (which : Export) (argument : ℕ) (made : Made) (ops : List Op)
    (ends : List ℕ) (calls : List CallNo) (ready : Ready)
    (meaning : HostMeaning S) (before : S) (count n : ℕ) (outcome : Outcome) (after : S) (h : IsHeld held)
    (i : IsMade held which argument made) → IsRead held which argument made h i ops ends calls ready
    → ((f : Function) → CanRun f ops ends calls ready → EndsSo meaning f ready before count outcome after)
    → export_bound held.version (named which) held.wasm ≡ Some n → count ≤ n
count_read held which argument made ops ends calls ready meaning before count n outcome after h i r e =
    count_within held which argument made meaning before count n outcome after h i
    (ends_read held which argument made ops ends calls ready meaning before count outcome after h i r e)
