-- EmitDetails: what an emission says of the execution that emits it (this project's own, after the Hooks documentation,
-- "EmitDetails").
use Rattle.std.specs.Prelude.{ℕ, List, [], ◌∷◌, ◌++◌, if◌then◌else◌}
use Rattle.std.specs.Int.{w32, w64, to_be_bytes}
use Rattle.hk_base.specs.declared.ids.Hash256.{Hash256}
use Rattle.hk_emit.specs.declared.context.EmitContext.{EmitContext}

-- the field EmitCallback, with the hook's account
abbrev pub callback_field : EmitContext → List ℕ
callback_field context = if context.with_callback then 0x8A ∷ 0x14 ∷ context.account.0 else []

-- the fields EmitGeneration, EmitBurden, EmitParentTxnID, EmitNonce and EmitHookHash, and EmitCallback where the hook
-- has a callback
abbrev pub details_fields : EmitContext → Hash256 → List ℕ
details_fields context nonce =
    0x20 ∷ 0x2E ∷ to_be_bytes w32 context.generation ++ 0x3D ∷ to_be_bytes w64 context.burden ++ 0x5B ∷
    context.parent.0 ++ 0x5C ∷ nonce.0 ++ 0x5D ∷ context.hash.0 ++ callback_field context

-- the field EmitDetails, with header and end mark
abbrev pub details : EmitContext → Hash256 → List ℕ
details context nonce = 0xED ∷ details_fields context nonce ++ 0xE1 ∷ []

abbrev pub details_size : EmitContext → ℕ
details_size context = if context.with_callback then 138 else 116
