-- What an instance is made of.
use Rattle.std.specs.Prelude.{ℕ, ◌≡◌, ◌<◌, ◌^◌, Bool, true, Some, is_some}
use Rattle.hk_bound.specs.Bounds.{export_bound}
use Rattle.hk_bound.specs.Checks.{Held, entry_in}
use Rattle.wa_exec.specs.Runs.{named}
use Rattle.hk_bound.specs.declared.entries.Entry.{Entry}
use Rattle.hk_bound.specs.declared.fault.Export.{Export}
use Rattle.hk_bound.specs.declared.fault.Export.TheVariants as «export»
use Rattle.wa_machine.specs.Starts.{memory_at}
use Rattle.wa_ops.specs.Soundness.{Each}
use Rattle.wa_run.specs.Starts.{HasWidth, Ready, first_globals, first_locals}

-- an export is there: `hook` always, `cbak` where it has a bound
abbrev pub is_there : Export → Held → Bool
is_there «export».Hook held = true
is_there «export».Cbak held = is_some held.bound_cbak

-- an export, and a run of it that hasn't begun
pub record Made : Type 0 where
  pub which : Export
  pub ready : Ready

-- an instance of this export of what was checked, with this argument
pub record IsMade (held : Held) (which : Export) (argument : ℕ) (made : Made) : Type 0 where
  pub entry : Entry
  pub bound : ℕ
  pub which_is : made.which ≡ which
  pub entry_is : entry_in which held ≡ Some entry
  pub bounded : export_bound held.version (named which) held.wasm ≡ Some bound
  pub argument_fits : argument < 2 ^ 32
  pub locals : made.ready.locals ≡ first_locals argument entry.locals
  pub globals : made.ready.globals ≡ first_globals held.wasm.globals
  pub globals_fit : Each (λ global. HasWidth global.init) held.wasm.globals
  pub memory : made.ready.memory ≡ memory_at held.wasm
  pub words_room : entry.depth.operands < made.ready.words_room
  pub labels_room : entry.depth.labels < made.ready.labels_room
  pub guards_room : bound < made.ready.guards_room
