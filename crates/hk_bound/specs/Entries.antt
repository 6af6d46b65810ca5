-- What a run of an exported function needs of its code, worked out once (this project's own).
use Rattle.std.specs.Prelude.{ℕ, ◌≡◌, List, [], ◌∷◌, Bool, Option, Some, None, length, slice_get}
use Rattle.wa_ops.specs.declared.modules.Module.{Module}
use Rattle.wa_ops.specs.declared.modules.ModuleExport.{ModuleExport}
use Rattle.wa_ops.specs.Contexts.{calls_of, context_of, locals_of}
use Rattle.wa_ops.specs.Ends.{ends_of}
use Rattle.wa_ops.specs.Functions.{body_of, entry_of}
use Rattle.wa_ops.specs.Sequences.{Sequence}
use Rattle.wa_validate.specs.Depths.{body_depth}
use Rattle.hk_bound.specs.declared.entries.Entry.{Entry}

-- of its function the ends of the regions, how many locals it has, and how deep its code goes
pub record IsKept (m : Module) (entry : Entry) : Type 0 where
  pub ends : (body : Sequence) → body_of m entry.function ≡ Some body → entry.ends ≡ ends_of body 0 (0 ∷ [])
  pub locals : entry.locals ≡ length (locals_of (slice_get m.codes entry.function))
  pub depth : (body : Sequence) → body_of m entry.function ≡ Some body →
      entry.depth ≡ body_depth (context_of m entry.function) body

-- of the function that is exported so
pub record IsEntry (m : Module) (is_named : ModuleExport → Bool) (entry : Entry) : Type 0 where
  pub function : entry_of (length (calls_of m.imports)) is_named m.exports ≡ Some entry.function
  pub kept : IsKept m entry

-- where there is such an export
abbrev pub AreEntry : Module → (ModuleExport → Bool) → Option Entry → Type 0
AreEntry m is_named None = entry_of (length (calls_of m.imports)) is_named m.exports ≡ None
AreEntry m is_named (Some entry) = IsEntry m is_named entry
