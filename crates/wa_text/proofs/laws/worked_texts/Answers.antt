use Rattle.std.proofs.Common.{refl}
use Rattle.std.specs.Fmt.{digits}
use Rattle.wa_ops.specs.Rows.{api_calls, row_named, row_parameters, row_answer}
use Rattle.wa_encode.specs.Numbers.{shortest, shortest_signed}
use Rattle.wa_text.specs.Instructions.{instructions, own_operands, operands}
use Rattle.wa_text.specs.Draft.{step}
use Rattle.wa_text.proofs.laws.worked_texts.Goals as goal

pub returns : goal.returns
unfolding digits api_calls row_named row_parameters row_answer shortest shortest_signed instructions own_operands operands step
returns c = record { law = record { smallest = refl; open_region = refl; no_row = refl; nothing = refl } }
