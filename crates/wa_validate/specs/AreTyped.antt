-- Whether the functions of a module are well typed, as a test (WebAssembly Core 1.0, "Validation", "Functions").
use Rattle.std.specs.Prelude.{ℕ, zero, suc, ◌≡◌, ◌&&◌, [], ◌∷◌, Bool, true, false, Option, length}
use Rattle.std.specs.Option.{option_map_or}
use Rattle.wa_ops.specs.declared.modules.Module.{Module}
use Rattle.wa_ops.specs.declared.op.ValueType.{ValueType}
use Rattle.wa_ops.specs.Contexts.{context_of}
use Rattle.wa_ops.specs.Functions.{body_of}
use Rattle.wa_ops.specs.Sequences.{Sequence}
use Rattle.wa_ops.specs.Typing.{Context, Typing, leaves, fails, fresh, is_empty, pop_result, types}
use Rattle.wa_validate.specs.Untyped.{IsTypedAt}

-- exactly this result is left
abbrev pub leaves_result : Option ValueType → Typing → Bool
leaves_result result (leaves stack) = is_empty (pop_result result stack)
leaves_result result (fails place) = false

abbrev pub is_typed : Context → Sequence → Bool
is_typed context body = leaves_result context.result (types context (context.result ∷ []) body 0 fresh)

-- the function with this number, where it has a body
abbrev pub is_typed_at : Module → ℕ → Bool
is_typed_at m function = option_map_or (is_typed (context_of m function)) (body_of m function) true

-- so many functions, from the first on
unfoldable pub typed_below : Module → ℕ → Bool
typed_below m zero = true
typed_below m (suc function) = typed_below m function && is_typed_at m function

-- each function of the module
unfoldable pub are_typed : Module → Bool
are_typed m = typed_below m (length m.codes)

-- the test holds exactly of the modules whose functions are well typed
abbrev pub TypingDecided : Type 0
TypingDecided =
    (m : Module) →
    (are_typed m ≡ true → (function : ℕ) → IsTypedAt m function)
    × (((function : ℕ) → IsTypedAt m function) → are_typed m ≡ true)
