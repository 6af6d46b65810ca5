-- Row 64 of the table of calls: emissions (this project's own, after the XRPL Hooks).
use Rattle.std.specs.Prelude.{ℕ, ◌+◌, ◌-◌, ◌*◌, ◌^◌, ◌==◌, nat_lt, nat_le, List, length, ok_or, Ok}
use Rattle.hk_calls.specs.declared.arguments.Pair.{Pair}
use Rattle.hk_calls.specs.declared.code.Code.TheVariants as code
use Rattle.hk_calls.specs.Outputs.{Output, writes}
use Rattle.hk_calls.specs.Rules.{OrCode, ◌>>=◌, ◌>>◌, refuse, inside, read}
use Rattle.hk_emit.specs.declared.emission.Emission.{Emission}
use Rattle.hk_emit.specs.Accepted.{accepted}
use Rattle.hk_state.specs.Fees.{needed_fee}
use Rattle.hk_api_parts.specs.Emitting.{own_burden, context_of}
use Rattle.hk_api.specs.HostState.{HostState}

-- 64: the pairs are wp wl and rp rl
abbrev pub emit : HostState → List ℕ → Pair → Pair → OrCode (Output × Emission)
emit s m write from = do
  inside m write
  blob ← read m from
  refuse (nat_lt write.count 32) code.TooSmall
  refuse (s.emitting.reserved == 0) code.PrerequisiteNotMet
  refuse (nat_le s.emitting.reserved s.emitting.emitted) code.TooManyEmittedTxn
  b ← own_burden s.setting s.emitting
  e ← ok_or (accepted blob (context_of s.setting s.place b) s.emitting.unused) code.EmissionFailure
  refuse (nat_lt e.transaction.fee (needed_fee s.before e.transaction * b)) code.EmissionFailure
  refuse (nat_le (2 ^ 63 - 1) (s.next + length s.draft.emissions)) code.EmissionFailure
  Ok (writes e.transaction.id.0, e)
