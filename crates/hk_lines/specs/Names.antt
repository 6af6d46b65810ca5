-- The printed names of results, settlements and traps (this project's own).
use Rattle.std.specs.Prelude.{ℕ, List, codes}
use Rattle.hk_base.specs.declared.outcome.Trap.{Trap}
use Rattle.hk_base.specs.declared.outcome.Trap.TheVariants.{Unreachable, DivideByZero, DivideOverflow, Memory}
use Rattle.hk_lines.specs.declared.result_name.ResultName.{ResultName}
use Rattle.hk_lines.specs.declared.result_name.ResultName.TheVariants.{TooLong, Unparsed, Malformed, BadSignature}
use Rattle.hk_lines.specs.declared.result_name.ResultName.TheVariants.{NoAccount, PastSequence, FutureSequence, Early}
use Rattle.hk_lines.specs.declared.result_name.ResultName.TheVariants.{FeeTooSmall, FeeUnfunded, HookRejected}
use Rattle.hk_lines.specs.declared.result_name.ResultName.TheVariants.{Unsupported, Redundant, NoDestination, Unfunded}
use Rattle.hk_lines.specs.declared.result_name.ResultName.TheVariants.{Occupied, HookRefused, NoDefinition, NoInstall}
use Rattle.hk_lines.specs.declared.result_name.ResultName.TheVariants.{Reserve, Success}
use Rattle.hk_lines.specs.declared.result_name.ResultName.TheVariants as result
use Rattle.hk_lines.specs.declared.settlement.Settlement.{Settlement}
use Rattle.hk_lines.specs.declared.settlement.Settlement.TheVariants.{Applied, Refused, Expired}

abbrev pub result_name : ResultName → List ℕ
result_name TooLong = codes "too_long"
result_name Unparsed = codes "unparsed"
result_name Malformed = codes "malformed"
result_name BadSignature = codes "bad_signature"
result_name NoAccount = codes "no_account"
result_name PastSequence = codes "past_sequence"
result_name FutureSequence = codes "future_sequence"
result_name Early = codes "early"
result_name result.Expired = codes "expired"
result_name FeeTooSmall = codes "fee_too_small"
result_name FeeUnfunded = codes "fee_unfunded"
result_name HookRejected = codes "hook_rejected"
result_name Unsupported = codes "unsupported"
result_name Redundant = codes "redundant"
result_name NoDestination = codes "no_destination"
result_name Unfunded = codes "unfunded"
result_name Occupied = codes "occupied"
result_name HookRefused = codes "hook_refused"
result_name NoDefinition = codes "no_definition"
result_name NoInstall = codes "no_install"
result_name Reserve = codes "reserve"
result_name Success = codes "success"

abbrev pub settlement_name : Settlement → List ℕ
settlement_name Applied = codes "applied"
settlement_name Refused = codes "refused"
settlement_name Expired = codes "expired"

abbrev pub trap_name : Trap → List ℕ
trap_name Unreachable = codes "unreachable"
trap_name DivideByZero = codes "divide_by_zero"
trap_name DivideOverflow = codes "divide_overflow"
trap_name Memory = codes "memory"
