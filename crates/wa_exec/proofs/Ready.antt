-- An export of what was checked can run.
use Rattle.std.proofs.Common.{ℕ, ◌≡◌, ◌≤◌, List, ◌∷◌, ◌++◌, ◌∙◌, false, Some, refl, sym, ap, subst, length, arith}
use Rattle.std.specs.Prelude.{slice_get, map}
use Rattle.std.specs.Option.{option_map_or}
use Rattle.hk_base.specs.declared.outcome.Outcome.{Outcome}
use Rattle.hk_bound.specs.Bounds.{export_bound}
use Rattle.hk_bound.specs.Checks.{AllTyped, Held, IsHeld}
use Rattle.hk_bound.specs.Entries.{IsEntry}
use Rattle.hk_bound.specs.Laws.{IsEntryType}
use Rattle.hk_bound.specs.declared.fault.Export.{Export}
use Rattle.hk_bound.proofs.Guarding.{ruled_guarded}
use Rattle.wa_exec.proofs.Bodies.{HasBody, HasTree, IsExported, export_body, export_tree, exported, bound_small, finest}
use Rattle.wa_exec.proofs.Entries.{entry_typed, entry_held, calls_are, are_rows}
use Rattle.wa_exec.proofs.Typing.{locals_typed, zero_words, zeros_fit, globals_typed, global_words, globals_fit}
use Rattle.wa_exec.specs.Made.{Made, IsMade}
use Rattle.wa_exec.specs.Runs.{RunsWithin, named}
use Rattle.wa_machine.specs.Law.{types_of, kinds_of, EndsWithin, WithinBound}
use Rattle.wa_machine.specs.Machine.{HostMeaning, start, Ends}
use Rattle.wa_machine.specs.Runs.{IsRun}
use Rattle.wa_machine.specs.Starts.{zero_of, locals_at, globals_at, memory_at, world_at, start_at}
use Rattle.wa_ops.proofs.RulesByName.{rules_by_name}
use Rattle.wa_ops.specs.Bound.{bound_at}
use Rattle.wa_ops.specs.Contexts.{calls_of, context_of, locals_of}
use Rattle.wa_ops.specs.Functions.{entry_of}
use Rattle.wa_ops.specs.HookRules.{IsRuled, has_float_locals, passes}
use Rattle.wa_ops.specs.Sequences.{Sequence}
use Rattle.wa_ops.specs.declared.modules.Code.{Code}
use Rattle.wa_ops.specs.declared.modules.Module.{Module}
use Rattle.wa_ops.specs.declared.op.ValueType.TheVariants.{I32}
use Rattle.wa_run.specs.Starts.{Function, CanRun, EndsSo, first_locals}
use Rattle.wa_validate.specs.Depths.{body_depth}
use Rattle.wa_validate.specs.declared.depth.Depth.{Depth}

-- the function that runs, with its first values
abbrev pub running : Module → ℕ → Sequence → ℕ → Function
running m func tree argument = record {
  context = context_of m func;
  code = tree;
  locals = locals_at m func argument;
  globals = globals_at m.globals;
}

no_floats : (codes : List Code) (func : ℕ) (code : Code) → slice_get codes func ≡ Some code →
    passes has_float_locals codes func ≡ false → has_float_locals code ≡ false
no_floats codes func code at kept = sym (ap (λ o. option_map_or has_float_locals o false) at) ∙ kept

-- ---- types

zeros_typed : (m : Module) (func : ℕ) (code : Code) → IsRuled m → slice_get m.codes func ≡ Some code
    → types_of (map zero_of (locals_of (slice_get m.codes func))) ≡ locals_of (slice_get m.codes func)
zeros_typed m func code kept at =
    ap (λ o. types_of (map zero_of (locals_of o))) at
    ∙ locals_typed code.locals (no_floats m.codes func code at ((rules_by_name m kept).float_locals func))
    ∙ ap locals_of (sym at)

pub first_typed : (m : Module) (func argument : ℕ) (code : Code) → IsRuled m → slice_get m.codes func ≡ Some code →
    IsEntryType m func
    → types_of (locals_at m func argument) ≡ (context_of m func).locals
first_typed m func argument code kept at t =
    ap (λ ks. I32 ∷ ks) (zeros_typed m func code kept at)
    ∙ ap (λ ps. ps ++ locals_of (slice_get m.codes func)) (sym t.parameters)

pub globals_kept : (m : Module) → IsRuled m → types_of (globals_at m.globals) ≡ kinds_of (context_of m 0).globals
globals_kept m kept = globals_typed m.globals (rules_by_name m kept).float_globals

-- ---- the law of the bound

pub within : {S : Type 0} (m : Module) (which : Export) (meaning : HostMeaning S) (argument : ℕ) (before : S)
    (version func n : ℕ) → WithinBound S → IsRuled m → AllTyped m
    → entry_of (length (calls_of m.imports)) (named which) m.exports ≡ Some func → (b : HasTree version m func n)
    → EndsWithin (world_at meaning m func) (bound_at 1 b.tree) (start_at meaning m func b.tree argument before)
within m which meaning argument before version func n law kept typed entry b =
    let t : IsEntryType m func = entry_typed m which func kept entry in
    law (world_at meaning m func) b.tree (locals_at m func argument) (globals_at m.globals) (memory_at m) before
    (first_typed m func argument b.code kept b.at t) (globals_kept m kept) t.result (typed func b.tree b.body)
    (ruled_guarded m func b.tree kept b.body)

-- of a module that is ruled and typed
pub module_runs : (S : Type 0) → WithinBound S → (m : Module) → IsRuled m → AllTyped m → (which : Export) →
    RunsWithin S m (named which)
module_runs S law m kept typed which version meaning argument before n known e =
    let x : IsExported m (named which) = exported version m (named which) n e in
    let b : HasTree version m x.function n = export_tree version m (named which) x.function n x.entry e in
    let w = within m which meaning argument before version x.function n law kept typed x.entry b in
    record {
      outcome = w.outcome;
      count = w.steps;
      after = w.last.host;
      run = record {
        function = x.function;
        code = b.tree;
        last = w.last;
        entry = x.entry;
        body = b.body;
        ends = w.ends;
        host = refl;
      };
      within = omega (arith, w.within, finest version b.tree known, b.bounded);
    }

pub runs_within : (S : Type 0) → WithinBound S → (held : Held) → IsHeld held → (which : Export) →
    RunsWithin S held.wasm (named which)
runs_within S law held h which = module_runs S law held.wasm h.holds.hook.ruled h.holds.hook.typed which

-- ---- an instance

pub made_entry : (held : Held) (which : Export) (argument : ℕ) (made : Made) → IsHeld held →
    (i : IsMade held which argument made) → IsEntry held.wasm (named which) i.entry
made_entry held which argument made h i = entry_held held.version h.code held which i.entry h.holds i.entry_is

pub made_body : (held : Held) (which : Export) (argument : ℕ) (made : Made) → IsHeld held →
    (i : IsMade held which argument made) → HasBody held.version held.wasm i.entry.function i.bound
made_body held which argument made h i =
    export_body held.version held.wasm (named which) i.entry.function i.bound h.holds.sound
    (made_entry held which argument made h i).function i.bounded

pub can_run : (held : Held) (which : Export) (argument : ℕ) (made : Made) (h : IsHeld held)
    (i : IsMade held which argument made)
    → CanRun (running held.wasm i.entry.function (made_body held which argument made h i).tree argument)
    (made_body held which argument made h i).code.ops i.entry.ends held.guards.imports made.ready
can_run held which argument made h i =
    let m : Module = held.wasm in
    let func : ℕ = i.entry.function in
    let e : IsEntry m (named which) i.entry = made_entry held which argument made h i in
    let b : HasBody held.version m func i.bound = made_body held which argument made h i in
    let kept : IsRuled m = h.holds.hook.ruled in
    let t : IsEntryType m func = entry_typed m which func kept e.function in
    let small : i.bound ≤ 262143 = bound_small which held i.bound h i.bounded in
    let least : bound_at 1 b.tree ≤ bound_at held.version b.tree = finest held.version b.tree h.holds.known in
    let deep : i.entry.depth ≡ body_depth (context_of m func) b.tree = e.kept.depth b.tree b.body in
    record {
      reads = b.reads;
      counted = b.sound.ops.sound.counted;
      sound = b.sound.ops.sound.each;
      ends_are = e.kept.ends b.tree b.body;
      calls_are = calls_are m held.guards.imports kept h.holds.guards.imports;
      rows = are_rows held.guards.imports m.imports h.holds.guards.imports;
      result = t.result;
      locals_typed = first_typed m func argument b.code kept b.at t;
      locals_are =
          i.locals
          ∙ ap (first_locals argument) e.kept.locals
          ∙ ap (λ ns. argument ∷ ns) (sym (zero_words (locals_of (slice_get m.codes func))));
      locals_fit = (i.argument_fits, zeros_fit (locals_of (slice_get m.codes func)));
      globals_typed = globals_kept m kept;
      globals_are = i.globals ∙ global_words m.globals;
      globals_fit = globals_fit m.globals (rules_by_name m kept).globals i.globals_fit;
      typed = h.holds.hook.typed func b.tree b.body;
      guarded = ruled_guarded m func b.tree kept b.body;
      countable = omega (arith, small, least, b.bounded);
      words_room = omega (arith, i.words_room, ap (λ (d : Depth). d.operands) deep);
      labels_room = omega (arith, i.labels_room, ap (λ (d : Depth). d.labels) deep);
      guards_room = omega (arith, i.guards_room, least, b.bounded);
    }

-- the interpreter's ending is that of the run
pub is_run : {S : Type 0} (held : Held) (which : Export) (argument : ℕ) (made : Made) (meaning : HostMeaning S)
    (before : S) (count : ℕ) (outcome : Outcome) (after : S)
    → (h : IsHeld held) (i : IsMade held which argument made)
    → EndsSo meaning (running held.wasm i.entry.function (made_body held which argument made h i).tree argument)
    made.ready before count outcome after
    → IsRun meaning held.wasm (named which) argument before outcome count after
is_run held which argument made meaning before count outcome after h i e =
    let func : ℕ = i.entry.function in
    let b : HasBody held.version held.wasm func i.bound = made_body held which argument made h i in
    record {
      function = func;
      code = b.tree;
      last = e.last;
      entry = (made_entry held which argument made h i).function;
      body = b.body;
      ends =
          subst (λ memory.
          Ends (world_at meaning held.wasm func) count (start (world_at meaning held.wasm func) b.tree
          (locals_at held.wasm func argument) (globals_at held.wasm.globals) memory before) outcome e.last)
          i.memory e.ends_so;
      host = e.host;
    }

pub count_within : {S : Type 0} (held : Held) (which : Export) (argument : ℕ) (made : Made) (meaning : HostMeaning S)
    (before : S) (count n : ℕ) (outcome : Outcome) (after : S)
    → (h : IsHeld held) (i : IsMade held which argument made)
    → EndsSo meaning (running held.wasm i.entry.function (made_body held which argument made h i).tree argument)
    made.ready before count outcome after
    → export_bound held.version (named which) held.wasm ≡ Some n → count ≤ n
count_within held which argument made meaning before count n outcome after h i e f =
    let b : HasBody held.version held.wasm i.entry.function i.bound = made_body held which argument made h i in
    let same : i.bound ≡ n = some_is i.bound n (sym i.bounded ∙ f) in
    omega (arith, e.within, finest held.version b.tree h.holds.known, b.bounded, same)
  where
    some_is : (x y : ℕ) → Some x ≡ Some y → x ≡ y
    some_is x y h = cc h
