-- Rows 31 and 58 to 62 of the table of calls: what an execution reserves and draws (this project's own, after the XRPL
-- Hooks).
use Rattle.std.specs.Prelude.{ℕ, ◌+◌, ◌-◌, ◌^◌, min, ◌==◌, nat_lt, nat_le, not, ℤ, pos, List, [], ◌∷◌, ◌++◌, ok_or, Ok}
use Rattle.std.specs.Prelude.{if◌then◌else◌}
use Rattle.hk_base.specs.declared.ids.Hash256.{Hash256}
use Rattle.hk_base.specs.Hashes.{sha512half}
use Rattle.hk_calls.specs.declared.arguments.Pair.{Pair}
use Rattle.hk_calls.specs.declared.code.Code.TheVariants as code
use Rattle.hk_calls.specs.Outputs.{Output, writes, put}
use Rattle.hk_calls.specs.Rules.{OrCode, ◌>>=◌, ◌>>◌, refuse, inside}
use Rattle.hk_emit.specs.declared.context.EmitContext.{EmitContext}
use Rattle.hk_emit.specs.Details.{details, details_size}
use Rattle.hk_emit.specs.Numbers.{nonce, burden}
use Rattle.hk_api_parts.specs.Skips.{without_hash}
use Rattle.hk_api_parts.specs.declared.setting.Setting.{Setting}
use Rattle.hk_api_parts.specs.declared.place.Place.{Place}
use Rattle.hk_api_parts.specs.declared.emitting.Emitting.{Emitting}

-- nothing reserved, drawn or emitted
abbrev pub nothing_emitted : Emitting
nothing_emitted = record { reserved = 0; emitted = 0; drawn = 0; unused = []; ledger_drawn = 0 }

-- a nonce of the ledger, by its number
unfoldable pub ledger_nonce_of : Setting → Place → ℕ → Hash256
ledger_nonce_of setting place counter =
    sha512half (0x4C ∷ 0x4E ∷ 0x43 ∷ 0x00 ∷ setting.header.last_hash.0 ++ setting.transaction.id.0
    ++ place.account.0 ++ place.position ∷ (if place.callback then 1 else 0) ∷ counter ∷ [])

-- a nonce for an emission, by its number
abbrev pub nonce_of : Setting → Place → ℕ → Hash256
nonce_of setting place counter = nonce setting.transaction.id place.account place.position place.callback counter

-- another nonce is drawn, and not used
abbrev pub with_nonce : Emitting → Hash256 → Emitting
with_nonce e hash = record {
  reserved = e.reserved;
  emitted = e.emitted;
  drawn = e.drawn + 1;
  unused = e.unused ++ hash ∷ [];
  ledger_drawn = e.ledger_drawn;
}

abbrev pub with_ledger_nonce : Emitting → Emitting
with_ledger_nonce e = record {
  reserved = e.reserved;
  emitted = e.emitted;
  drawn = e.drawn;
  unused = e.unused;
  ledger_drawn = e.ledger_drawn + 1;
}

abbrev pub with_reserved : Emitting → ℕ → Emitting
with_reserved e count = record {
  reserved = count;
  emitted = e.emitted;
  drawn = e.drawn;
  unused = e.unused;
  ledger_drawn = e.ledger_drawn;
}

-- an emission that uses up a nonce
abbrev pub with_emitted : Emitting → Hash256 → Emitting
with_emitted e hash = record {
  reserved = e.reserved;
  emitted = e.emitted + 1;
  drawn = e.drawn;
  unused = without_hash hash e.unused;
  ledger_drawn = e.ledger_drawn;
}

-- the burden of the execution's emissions
abbrev pub own_burden : Setting → Emitting → OrCode ℕ
own_burden setting e = do
  refuse (e.reserved == 0) code.PrerequisiteNotMet
  ok_or (burden setting.transaction.burden e.reserved) code.FeeTooLarge

-- how many emissions lead to the execution's, themselves among them; the greatest number of 32 bits stands for more
abbrev pub next_generation : Setting → ℕ
next_generation setting = min (setting.transaction.generation + 1) (2 ^ 32 - 1)

-- what the execution's emissions have to say of it
abbrev pub context_of : Setting → Place → ℕ → EmitContext
context_of setting place burden = record {
  account = place.account;
  hash = place.hash;
  parent = setting.transaction.id;
  with_callback = place.has_cbak;
  seq = setting.header.seq;
  generation = next_generation setting;
  burden = burden;
}

-- a row that draws a nonce: from the execution's setting and place, what it emitted so far, the memory, and the pair
-- wp wl, to what it writes and what it has emitted then
abbrev pub Draws : Type 0
Draws = Setting → Place → Emitting → List ℕ → Pair → OrCode (Output × Emitting)

-- 31
abbrev pub ledger_nonce : Draws
ledger_nonce setting place e m write = do
  inside m write
  refuse (nat_lt write.count 32) code.TooSmall
  refuse (nat_le 255 e.ledger_drawn) code.TooManyNonces
  Ok (writes (ledger_nonce_of setting place e.ledger_drawn).0, with_ledger_nonce e)

-- 58
abbrev pub etxn_reserve : Emitting → ℕ → OrCode (ℤ × Emitting)
etxn_reserve e count = do
  refuse (count == 0) code.TooSmall
  refuse (nat_lt 255 count) code.TooBig
  refuse (not (e.reserved == 0)) code.AlreadySet
  Ok (pos count, with_reserved e count)

-- 59
abbrev pub etxn_burden : Setting → Emitting → OrCode ℤ
etxn_burden setting e = do
  b ← own_burden setting e
  Ok (pos b)

-- 60
abbrev pub etxn_generation : Setting → OrCode ℤ
etxn_generation setting = Ok (pos (next_generation setting))

-- 61
abbrev pub etxn_nonce : Draws
etxn_nonce setting place e m write = do
  inside m write
  refuse (nat_lt write.count 32) code.TooSmall
  refuse (nat_le 255 e.drawn) code.TooManyNonces
  Ok (writes (nonce_of setting place e.drawn).0, with_nonce e (nonce_of setting place e.drawn))

-- 62
abbrev pub etxn_details : Draws
etxn_details setting place e m write = do
  inside m write
  b ← own_burden setting e
  refuse (nat_lt write.count (details_size (context_of setting place b))) code.TooSmall
  refuse (nat_le 255 e.drawn) code.TooManyNonces
  Ok (
    writes (details (context_of setting place b) (nonce_of setting place e.drawn)),
    with_nonce e (nonce_of setting place e.drawn),
  )

-- the memory and the counters
abbrev pub both : List ℕ → Emitting → List ℕ × Emitting
both m e = (m, e)

-- what a row that draws does to both
abbrev pub drawing : List ℕ → Pair → OrCode (Output × Emitting) → OrCode (ℤ × (List ℕ × Emitting))
drawing m write row = row >>= λ r. put m write r.0 >>= λ after. Ok (after.0, (after.1, r.1))
