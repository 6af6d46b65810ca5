-- The counts on printed lines. This project's own.
use Rattle.std.specs.Prelude.{◌≤◌}
use Rattle.hk_lines.specs.declared.output_line.OutputLine.{OutputLine}
use Rattle.hk_lines.specs.declared.output_line.OutputLine.TheVariants as printed

-- the count of a run is within the bound on its line
abbrev pub IsBounded : OutputLine → Type 0
IsBounded (printed.Hook account position outcome count bound) = count ≤ bound
IsBounded (printed.Callback account position outcome count bound) = count ≤ bound
IsBounded other = Unit {0}
