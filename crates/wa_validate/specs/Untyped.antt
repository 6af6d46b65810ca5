-- The typing of a module's functions, and the place where it fails (WebAssembly Core 1.0, "Validation", "Functions" and
-- "Modules").
use Rattle.std.specs.Prelude.{ℕ, ◌≡◌, ◌<◌, List, [], ◌∷◌, Option, Some, length, slice_get}
use Rattle.wa_ops.specs.declared.modules.Module.{Module}
use Rattle.wa_ops.specs.Contexts.{context_of}
use Rattle.wa_ops.specs.Functions.{body_of}
use Rattle.wa_ops.specs.Sequences.{Sequence, size}
use Rattle.wa_ops.specs.Typing.{Context, Typing, leaves, fails, fresh, types, after_region, IsTyped}
use Rattle.wa_validate.specs.declared.depth.Depth.{Depth}
use Rattle.wa_validate.specs.Depths.{body_depth}

-- the typing of a body up to its own end, where it must leave the function's result
abbrev pub body_typing : Context → Sequence → Typing
body_typing context body =
    after_region context.result (size body) (types context (context.result ∷ []) body 0 fresh) (leaves fresh)

abbrev pub IsTypedAt : Module → ℕ → Type 0
IsTypedAt m function = (body : Sequence) → body_of m function ≡ Some body → IsTyped (context_of m function) body

-- the first function that isn't well typed, and the first place where it fails
pub record IsUntyped (m : Module) (function place : ℕ) : Type 0 where
  pub body : Sequence
  pub found : body_of m function ≡ Some body
  pub failed : body_typing (context_of m function) body ≡ fails place
  pub first : (earlier : ℕ) → earlier < function → IsTypedAt m earlier

-- each body's greatest depths, in the order of the functions
pub record HasDepths (m : Module) (depths : List Depth) : Type 0 where
  pub each : length depths ≡ length m.codes
  pub deepest : (function : ℕ) (body : Sequence) → body_of m function ≡ Some body →
      slice_get depths function ≡ Some (body_depth (context_of m function) body)
