use Rattle.std.proofs.Common.{◌≡◌, map, drop}
use Rattle.wa_text.specs.Instructions.{opcode_in, shown}
use Rattle.wa_text.proofs.names.opcode_in.Given as goal

abbrev pub invariant-loop-row : goal.invariant-loop-row
invariant-loop-row l = opcode_in (map shown (drop l.row-index l.table)) l.name ≡ opcode_in (map shown l.table) l.name
